use Rattle.std.proofs.Common.{ℕ, Option, subst}
use Rattle.std.specs.Prelude.{IfSome}
use Rattle.ground_task.specs.States.{StateValue}
use Rattle.search_runs.specs.declared.events.Event.TheVariants.{Take}
use Rattle.search_core.specs.Searches.{HasTaken, IsEvent}
use Rattle.search_tests.proofs.Taken.{taken_beside, taken_giving}
use Rattle.search_tests.proofs.workers.both_expand.Goals as goal

pub expand-requires-2-clause-taken : goal.expand-requires-2-clause-taken
expand-requires-2-clause-taken g c =
    let first : HasTaken 0 c.in-Some.first c.in-Some.of_first c.take.new.search = subst (λ (o : Option (ℕ × StateValue)). IfSome o (λ p. HasTaken 0 p.0 p.1 c.take.new.search)) c.in-Some.is c.in_ok-first.ensures.taken in
    let second : IsEvent (Take 1 c.in-Some-2.second) c.take.new.search c.take-2.new.search = subst (λ (o : Option (ℕ × StateValue)). IfSome o (λ p. IsEvent (Take 1 p.0) c.take.new.search c.take-2.new.search)) c.in-Some-2.is c.in_ok-second.ensures.event in
    let beside = taken_beside 1 c.in-Some-2.second 0 c.in-Some.first c.in-Some.of_first c.take.new.search c.take-2.new.search first second in
    taken_giving 1 c.in-Some-2.second 0 c.in-Some.first c.in-Some.of_first c.take-2.new.search c.expand.new.self (λ same. cc) beside c.in_ok-expand.ensures.ok
