use Rattle.std.proofs.Common.{◌≡◌, drop}
use Rattle.std.specs.Cmp.Lexicographic.{slice_cmp}
use Rattle.std.specs.Ordering.{int_cmp}
use Rattle.ground_task.proofs.row.Row.cmp_values.Given as goal

abbrev pub invariant-each : goal.invariant-each
invariant-each l =
    slice_cmp int_cmp (drop l.place l.self.values) (drop l.place l.other.values) ≡ slice_cmp int_cmp l.self.values l.other.values
