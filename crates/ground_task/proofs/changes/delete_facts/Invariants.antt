use Rattle.std.proofs.Common.{◌≡◌, ◌<◌, ◌&&◌, ℕ, length, not, take}
use Rattle.ground_task.specs.Meaning.{fact_value}
use Rattle.ground_task.specs.Rows.{state_of_row}
use Rattle.ground_task.specs.Tasks.{is_listed}
use Rattle.ground_task.proofs.changes.delete_facts.Given as goal

abbrev pub invariant-each : goal.invariant-each
invariant-each l =
    (length l.next.facts ≡ length l.initial.next.facts)
    × ((f : ℕ) → f < length l.initial.next.facts → fact_value (state_of_row l.next) f ≡ (fact_value (state_of_row l.initial.next) f && not (is_listed (take l.fact-index l.facts) f)))
    × (l.next.values ≡ l.initial.next.values)
    × (l.next.is_wide ≡ l.initial.next.is_wide)
