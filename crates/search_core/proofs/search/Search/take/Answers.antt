use Rattle.std.proofs.Common.{subst}
use Rattle.std.specs.Prelude.{IfOk}
use Rattle.search_core.proofs.Events.{taken_gets, taken_search}
use Rattle.search_core.specs.Searches.{Gets}
use Rattle.search_turns.specs.Turns.{Turns}
use Rattle.search_core.proofs.search.Search.take.Goals as goal

pub invariant_of-self : goal.invariant_of-self
invariant_of-self c = taken_search c.args.worker c.self.inside.turns c.take.new.self c.take.ensures.terms c.take.result c.self.invariant c.take.ensures.ok c.take.ensures.err

pub returns-clause-ok : goal.returns-clause-ok
returns-clause-ok c =
    subst (λ (v : Turns). IfOk c.take.result (λ taken. Gets c.args.worker taken v c.take.new.self)) c.self.view_is
    (taken_gets c.args.worker c.self.inside.turns c.take.new.self c.take.ensures.terms c.take.result c.take.ensures.ok)
