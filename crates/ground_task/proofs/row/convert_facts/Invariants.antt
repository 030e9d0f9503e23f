use Rattle.std.proofs.Common.{◌≡◌, ◌<◌, ℕ, false, get_or, length}
use Rattle.ground_task.proofs.row.convert_facts.Given as goal

abbrev pub invariant-each : goal.invariant-each
invariant-each l =
    (length l.row.facts ≡ length l.from.facts)
    × ((k : ℕ) → k < l.number → get_or l.row.facts k false ≡ get_or l.from.facts k false)
    × (l.row.values ≡ l.initial.row.values)
    × (l.row.is_wide ≡ l.initial.row.is_wide)
