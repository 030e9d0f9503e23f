-- The operations of the code are those within the range.
use Rattle.std.proofs.Common.{◌≡◌, ◌&&◌, ◌≤◌, ◌+◌, ℤ, Bool, true, false, Some, None, refl, ap, arith}
use Rattle.std.proofs.lemmas.Bool.Decides.{nat_tests}
use Rattle.num_ends.specs.Decimal.{Decimal, InRange, IsDec, common_places, number_at, sum_of, difference_of, product_of}
use Rattle.num_ends.specs.Arithmetic.{OperandsFit, SumFits, DifferenceFits}
use Rattle.num_ends.specs.Range.{in_range, operands_fit, where_fits}
use Rattle.ground_task.specs.Ranged.{ranged_difference, ranged_product, ranged_sum}

pub both_true : (a b : Bool) → a && b ≡ true → (a ≡ true) × (b ≡ true)
both_true true b h = (refl, h)
both_true false b h = cc

pub true_both : (a b : Bool) → a ≡ true → b ≡ true → a && b ≡ true
true_both true b h k = k
true_both false b h k = cc

-- a test that isn't passed
pub not_true : (b : Bool) → (b ≡ true → ⊥) → b ≡ false
not_true true h = absurd (h refl)
not_true false h = refl

pub range_test : (n : ℤ) → InRange n → in_range n ≡ true
range_test n h = grind (arith, nat_tests)

pub range_tested : (n : ℤ) → in_range n ≡ true → InRange n
range_tested n h = grind (arith, nat_tests)

pub operands_test : (a b : Decimal) → OperandsFit a b → operands_fit a b ≡ true
operands_test a b h = true_both _ _ (range_test (number_at (common_places a b) a) h.first) (range_test (number_at (common_places a b) b) h.second)

operands_tested : (a b : Decimal) → operands_fit a b ≡ true → OperandsFit a b
operands_tested a b h =
    let parts = both_true (in_range (number_at (common_places a b) a)) (in_range (number_at (common_places a b) b)) h in
    record { first = range_tested (number_at (common_places a b) a) parts.0; second = range_tested (number_at (common_places a b) b) parts.1 }

pub operands_refused : (a b : Decimal) → (OperandsFit a b → ⊥) → operands_fit a b ≡ false
operands_refused a b h = not_true (operands_fit a b) (λ e. h (operands_tested a b e))

given : (fits : Bool) (d x : Decimal) → fits ≡ true → d ≡ x → Some d ≡ where_fits fits x
given true d x h e = ap Some e
given false d x h e = cc

refused : (fits : Bool) (x : Decimal) → (fits ≡ true → ⊥) → None ≡ where_fits fits x
refused true x h = absurd (h refl)
refused false x h = refl

sum_test : (a b : Decimal) → SumFits a b → operands_fit a b && in_range (sum_of a b).n ≡ true
sum_test a b h = true_both _ _ (operands_test a b h.operands) (range_test (sum_of a b).n h.result)

sum_tested : (a b : Decimal) → operands_fit a b && in_range (sum_of a b).n ≡ true → SumFits a b
sum_tested a b e =
    let parts = both_true (operands_fit a b) (in_range (sum_of a b).n) e in
    record { operands = operands_tested a b parts.0; result = range_tested (sum_of a b).n parts.1 }

difference_tested : (a b : Decimal) → operands_fit a b && in_range (difference_of a b).n ≡ true → DifferenceFits a b
difference_tested a b e =
    let parts = both_true (operands_fit a b) (in_range (difference_of a b).n) e in
    record { operands = operands_tested a b parts.0; result = range_tested (difference_of a b).n parts.1 }

pub sum_given : (a b d : Decimal) → d ≡ sum_of a b → SumFits a b → Some d ≡ ranged_sum a b
sum_given a b d e h = given _ d (sum_of a b) (sum_test a b h) e

pub sum_refused : (a b : Decimal) → (SumFits a b → ⊥) → None ≡ ranged_sum a b
sum_refused a b h = refused (operands_fit a b && in_range (sum_of a b).n) (sum_of a b) (λ e. h (sum_tested a b e))

pub difference_given : (a b d : Decimal) → d ≡ difference_of a b → DifferenceFits a b → Some d ≡ ranged_difference a b
difference_given a b d e h =
    given _ d (difference_of a b) (true_both _ _ (operands_test a b h.operands) (range_test (difference_of a b).n h.result)) e

pub difference_refused : (a b : Decimal) → (DifferenceFits a b → ⊥) → None ≡ ranged_difference a b
difference_refused a b h = refused (operands_fit a b && in_range (difference_of a b).n) (difference_of a b) (λ e. h (difference_tested a b e))

pub product_given : (a b d : Decimal) → d ≡ product_of a b → IsDec (product_of a b) → Some d ≡ ranged_product a b
product_given a b d e h = given _ d (product_of a b) (range_test (product_of a b).n h.in_range) e

pub product_refused : (a b : Decimal) → a.p + b.p ≤ 18 → (IsDec (product_of a b) → ⊥) → None ≡ ranged_product a b
product_refused a b few h =
    refused (in_range (product_of a b).n) (product_of a b) (λ e. h (record { in_range = range_tested (product_of a b).n e; few_places = few }))
