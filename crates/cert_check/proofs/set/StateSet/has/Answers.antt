use Rattle.std.proofs.Common.{List, ap, ◌∙◌}
use Rattle.std.specs.List.{list_any}
use Rattle.ground_task.specs.Orders.{is_same_state}
use Rattle.ground_task.specs.States.{StateValue}
use Rattle.cert_check.proofs.Listed.{any_key}
use Rattle.cert_check.proofs.set.StateSet.has.Goals as goal

pub returns : goal.returns
returns c =
    c.contains.ensures
    ∙ any_key (λ t. t.now) c.args.state c.self.inside.states.keys
    ∙ ap (λ (ss : List StateValue). list_any (is_same_state c.args.state.now) ss) c.self.view_is
