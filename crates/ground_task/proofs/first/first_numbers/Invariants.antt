use Rattle.std.proofs.Common.{◌≡◌, map}
use Rattle.std.specs.List.{range_with_len}
use Rattle.ground_task.specs.Tasks.{first_number, AreFirstInRange}
use Rattle.ground_task.proofs.first.first_numbers.Given as goal

abbrev pub invariant-each : goal.invariant-each
invariant-each l =
    (l.numbers.items ≡ map (first_number l.places l.raw.values) (range_with_len 0 l.i))
    × AreFirstInRange l.places l.raw.values l.i
