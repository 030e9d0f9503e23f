-- Lists of truth values: their order ties where they are equal, and equal ones are one.
use Rattle.std.proofs.Common.{◌≡◌, Bool, true, false, List, refl}
use Rattle.std.specs.Bool.{beq}
use Rattle.std.specs.Cmp.{booleans_Decides}
use Rattle.std.specs.Cmp.Lexicographic.{pointwise, pointwise_decides}
use Rattle.std.specs.Ordering.{bool_cmp, eq_by_cmp}

pub bits_tied : (x y : Bool) → beq x y ≡ eq_by_cmp bool_cmp x y
bits_tied true true = refl
bits_tied true false = refl
bits_tied false true = refl
bits_tied false false = refl

-- lists that are equal item by item are equal
pub same_bits : (xs ys : List Bool) → pointwise beq xs ys ≡ true → xs ≡ ys
same_bits xs ys = (pointwise_decides booleans_Decides xs ys).0
