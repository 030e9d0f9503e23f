use Rattle.std.proofs.Common.{List, map, ap, ◌∙◌}
use Rattle.ground_task.specs.States.{StateValue}
use Rattle.cert_check.specs.Sets.{with_state}
use Rattle.cert_check.proofs.Listed.{added_key}
use Rattle.cert_check.proofs.set.StateSet.add.Goals as goal

pub returns : goal.returns
returns c =
    ap (map (λ t. t.now)) c.in_ok-insert.ensures.keys
    ∙ added_key (λ t. t.now) c.args.state c.self.inside.states.keys
    ∙ ap (λ (ss : List StateValue). with_state ss c.args.state.now) c.self.view_is
