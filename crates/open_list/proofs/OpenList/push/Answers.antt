use Rattle.std.proofs.Common.{ap, ◌∙◌}
use Rattle.std.specs.FinSet.{insert}
use Rattle.open_list.proofs.Pairs.{from_list-inserted}
use Rattle.open_list.proofs.OpenList.push.Goals as goal

pub returns-clause-ok : goal.returns-clause-ok
returns-clause-ok c =
    from_list-inserted c.self.inside.pairs.keys c.insert.new.self.keys (c.args.h, c.args.node) c.in_ok-insert.ensures.updates.0
    ∙ ap (λ s. insert s (c.args.h, c.args.node)) c.self.view_is
