use Rattle.std.proofs.Common.{◌≡◌, ◌≤◌, ◌++◌, ℕ, List, length, take, pos}
use Rattle.std.specs.Str.Parse.{digits_value}
use Rattle.num_ends.specs.Decimal.{without_zeros}
use Rattle.num_ends.proofs.read.kept_places.Given as goal

abbrev pub invariant-loop-len : goal.invariant-loop-len
invariant-loop-len l =
    (l.len ≤ length l.fraction) × ((whole : List ℕ) → without_zeros (length l.fraction) (pos (digits_value 10 (whole ++ l.fraction)))
    ≡ without_zeros l.len (pos (digits_value 10 (whole ++ take l.len l.fraction))))

abbrev pub decreases-loop-len : goal.decreases-loop-len
decreases-loop-len l = l.len
