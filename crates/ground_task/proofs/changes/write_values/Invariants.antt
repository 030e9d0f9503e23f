use Rattle.std.proofs.Common.{◌≡◌, ◌<◌, ℕ, drop, get_or, length, pos, take, slice_index_or}
use Rattle.num_ends.specs.Decimal.{number_at}
use Rattle.ground_task.specs.Ranged.{are_effects_in_bounds}
use Rattle.ground_task.specs.Steps.{change_of, changed_value}
use Rattle.ground_task.proofs.changes.write_values.Given as goal

abbrev pub invariant-each : goal.invariant-each
invariant-each l =
    (are_effects_in_bounds l.task.places l.state (drop l.effect-index l.effects) ≡ are_effects_in_bounds l.task.places l.state l.effects)
    × (l.next.facts ≡ l.initial.next.facts)
    × (l.next.is_wide ≡ l.initial.next.is_wide)
    × (length l.next.values ≡ length l.state.values)
    × ((x : ℕ) → x < length l.state.values → get_or l.next.values x (pos 0) ≡ number_at (slice_index_or l.task.places x 0) (changed_value l.task.places l.state x (change_of x (take l.effect-index l.effects))))
