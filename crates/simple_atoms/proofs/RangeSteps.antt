-- The operations of the code are those within the range.
use Rattle.std.proofs.Common.{◌≡◌, ◌&&◌, ◌+◌, Bool, true, false, Some, None, refl, ap, ◌∙◌}
use Rattle.std.specs.Prelude.{nat_le}
use Rattle.num_ends.specs.Decimal.{Decimal, IsDec, sum_of, product_of, trimmed}
use Rattle.num_ends.specs.Arithmetic.{SumFits}
use Rattle.num_ends.specs.Range.{in_range, operands_fit, where_fits}
use Rattle.num_ends.proofs.Ranges.{sum_test, sum_tested, product_test, product_tested}
use Rattle.simple_atoms.specs.Ranged.{trimmed_sum, trimmed_product}

given : (fits : Bool) (d x t : Decimal) → fits ≡ true → d ≡ x → t ≡ trimmed d → Some t ≡ where_fits fits (trimmed x)
given true d x t h e f = ap Some (f ∙ ap trimmed e)
given false d x t h e f = cc

refused : (fits : Bool) (x : Decimal) → (fits ≡ true → ⊥) → None ≡ where_fits fits x
refused true x h = absurd (h refl)
refused false x h = refl

pub sum_given : (a b d t : Decimal) → d ≡ sum_of a b → SumFits a b → t ≡ trimmed d → Some t ≡ trimmed_sum a b
unfolding trimmed_sum
sum_given a b d t e h f = given (operands_fit a b && in_range (sum_of a b).n) d (sum_of a b) t (sum_test a b h) e f

pub sum_refused : (a b : Decimal) → (SumFits a b → ⊥) → None ≡ trimmed_sum a b
unfolding trimmed_sum
sum_refused a b h = refused (operands_fit a b && in_range (sum_of a b).n) (trimmed (sum_of a b)) (λ e. h (sum_tested a b e))

pub product_given : (a b d t : Decimal) → d ≡ product_of a b → IsDec (product_of a b) → t ≡ trimmed d → Some t ≡ trimmed_product a b
unfolding trimmed_product
product_given a b d t e h f = given (nat_le (a.p + b.p) 18 && in_range (product_of a b).n) d (product_of a b) t (product_test a b h) e f

pub product_refused : (a b : Decimal) → (IsDec (product_of a b) → ⊥) → None ≡ trimmed_product a b
unfolding trimmed_product
product_refused a b h = refused (nat_le (a.p + b.p) 18 && in_range (product_of a b).n) (trimmed (product_of a b)) (λ e. h (product_tested a b e))
