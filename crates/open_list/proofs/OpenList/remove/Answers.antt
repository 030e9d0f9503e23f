use Rattle.std.proofs.Common.{ap, sym, ◌∙◌}
use Rattle.std.specs.FinSet.{contains, remove, contains-from_list}
use Rattle.open_list.proofs.Pairs.{pair_total, from_list-removed}
use Rattle.open_list.proofs.OpenList.remove.Goals as goal

pub returns-clause-answer : goal.returns-clause-answer
returns-clause-answer c =
    c.remove.ensures.test ∙ sym (contains-from_list pair_total c.self.inside.pairs.keys (c.args.h, c.args.node))
    ∙ ap (λ s. contains s (c.args.h, c.args.node)) c.self.view_is

pub returns-clause-after : goal.returns-clause-after
returns-clause-after c =
    from_list-removed c.self.inside.pairs.keys c.remove.new.self.keys (c.args.h, c.args.node) c.remove.ensures.updates.0
    ∙ ap (λ s. remove s (c.args.h, c.args.node)) c.self.view_is
