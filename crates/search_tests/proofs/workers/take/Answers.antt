use Rattle.std.proofs.Common.{subst}
use Rattle.search_turns.specs.declared.turns.Taken.{Taken}
use Rattle.search_turns.specs.declared.turns.Taken.TheVariants.{Job}
use Rattle.search_core.specs.Searches.{Gets}
use Rattle.search_alone.proofs.Rounds.{has_taken}
use Rattle.search_tests.proofs.workers.take.Goals as goal

pub returns-in-Job-clause-taken : goal.returns-in-Job-clause-taken
returns-in-Job-clause-taken c =
    let gets : Gets c.args.worker (Job c.in-Job.node c.in-Job.state) c.args.search.now c.take.new.self = subst (λ (t : Taken). Gets c.args.worker t c.args.search.now c.take.new.self) c.in-Job.is c.in_ok-node.ensures.ok in
    has_taken c.args.worker c.in-Job.node c.in-Job.state c.args.search.now c.take.new.self gets.0 gets.1
