-- The tests of ranges pass exactly where what the code's operations ask holds.
use Rattle.std.proofs.Common.{◌≡◌, ◌&&◌, ◌+◌, ◌≤◌, ℕ, ℤ, Bool, true, false, Option, Some, None, refl, ap, ◌∙◌, arith}
use Rattle.std.specs.Prelude.{nat_le}
use Rattle.std.proofs.lemmas.Bool.Decides.{nat_tests}
use Rattle.num_ends.specs.Decimal.{Decimal, InRange, IsDec, common_places, number_at, sum_of, difference_of, product_of}
use Rattle.num_ends.specs.Arithmetic.{OperandsFit, SumFits, DifferenceFits}
use Rattle.num_ends.specs.Range.{in_range, operands_fit, where_fits}

both_true : (a b : Bool) → a && b ≡ true → (a ≡ true) × (b ≡ true)
both_true true b h = (refl, h)
both_true false b h = cc

and_true : (a b : Bool) → a ≡ true → b ≡ true → a && b ≡ true
and_true true b h k = k
and_true false b h k = cc

pub range_test : (n : ℤ) → InRange n → in_range n ≡ true
range_test n h = grind (arith, nat_tests)

pub range_tested : (n : ℤ) → in_range n ≡ true → InRange n
range_tested n h = grind (arith, nat_tests)

pub operands_test : (a b : Decimal) → OperandsFit a b → operands_fit a b ≡ true
operands_test a b h = and_true _ _ (range_test (number_at (common_places a b) a) h.first) (range_test (number_at (common_places a b) b) h.second)

pub operands_tested : (a b : Decimal) → operands_fit a b ≡ true → OperandsFit a b
operands_tested a b h =
    let parts = both_true (in_range (number_at (common_places a b) a)) (in_range (number_at (common_places a b) b)) h in
    record { first = range_tested (number_at (common_places a b) a) parts.0; second = range_tested (number_at (common_places a b) b) parts.1 }

pub sum_test : (a b : Decimal) → SumFits a b → operands_fit a b && in_range (sum_of a b).n ≡ true
sum_test a b h = and_true _ _ (operands_test a b h.operands) (range_test (sum_of a b).n h.result)

pub sum_tested : (a b : Decimal) → operands_fit a b && in_range (sum_of a b).n ≡ true → SumFits a b
sum_tested a b h =
    let parts = both_true (operands_fit a b) (in_range (sum_of a b).n) h in
    record { operands = operands_tested a b parts.0; result = range_tested (sum_of a b).n parts.1 }

pub difference_test : (a b : Decimal) → DifferenceFits a b → operands_fit a b && in_range (difference_of a b).n ≡ true
difference_test a b h = and_true _ _ (operands_test a b h.operands) (range_test (difference_of a b).n h.result)

pub difference_tested : (a b : Decimal) → operands_fit a b && in_range (difference_of a b).n ≡ true → DifferenceFits a b
difference_tested a b h =
    let parts = both_true (operands_fit a b) (in_range (difference_of a b).n) h in
    record { operands = operands_tested a b parts.0; result = range_tested (difference_of a b).n parts.1 }

pub product_test : (a b : Decimal) → IsDec (product_of a b) → nat_le (a.p + b.p) 18 && in_range (product_of a b).n ≡ true
product_test a b h = and_true _ _ (few_test (a.p + b.p) h.few_places) (range_test (product_of a b).n h.in_range)
  where
    few_test : (p : ℕ) → p ≤ 18 → nat_le p 18 ≡ true
    few_test p k = grind (arith, nat_tests)

pub product_tested : (a b : Decimal) → nat_le (a.p + b.p) 18 && in_range (product_of a b).n ≡ true → IsDec (product_of a b)
product_tested a b h =
    let parts = both_true (nat_le (a.p + b.p) 18) (in_range (product_of a b).n) h in
    record { in_range = range_tested (product_of a b).n parts.1; few_places = few_tested (a.p + b.p) parts.0 }
  where
    few_tested : (p : ℕ) → nat_le p 18 ≡ true → p ≤ 18
    few_tested p k = grind (arith, nat_tests)

-- ---- what a test lets through

pub where_passed : (fits : Bool) (d : Decimal) → fits ≡ true → where_fits fits d ≡ Some d
where_passed true d h = refl
where_passed false d h = cc

pub where_refused : (fits : Bool) (d : Decimal) → (fits ≡ true → ⊥) → where_fits fits d ≡ None
where_refused true d h = absurd (h refl)
where_refused false d h = refl
