use Rattle.std.proofs.Common.{subst}
use Rattle.search_turns.specs.declared.turns.Taken.{Taken}
use Rattle.search_turns.specs.declared.turns.Taken.TheVariants.{Job}
use Rattle.search_core.specs.Searches.{Gets}
use Rattle.search_alone.proofs.Rounds.{has_taken}
use Rattle.search_tests.proofs.searches.round.Goals as goal

pub expand-requires-clause-taken : goal.expand-requires-clause-taken
expand-requires-clause-taken g c =
    let gets : Gets 0 (Job c.in-Job.node c.in-Job.state) c.args.search.now c.take.new.self = subst (λ (t : Taken). Gets 0 t c.args.search.now c.take.new.self) c.in-Job.is c.in_ok-node.ensures.ok in
    has_taken 0 c.in-Job.node c.in-Job.state c.args.search.now c.take.new.self gets.0 gets.1
