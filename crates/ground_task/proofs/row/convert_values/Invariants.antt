use Rattle.std.proofs.Common.{◌≡◌, ◌<◌, ℕ, pos, get_or, length}
use Rattle.ground_task.proofs.row.convert_values.Given as goal

abbrev pub invariant-each : goal.invariant-each
invariant-each l =
    (length l.row.values ≡ length l.from.values)
    × ((k : ℕ) → k < l.place → get_or l.row.values k (pos 0) ≡ get_or l.from.values k (pos 0))
    × (l.row.facts ≡ l.initial.row.facts)
    × (l.row.is_wide ≡ l.initial.row.is_wide)
