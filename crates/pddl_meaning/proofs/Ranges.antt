-- The operations of the code are those within the range.
use Rattle.std.proofs.Common.{◌≡◌, ◌&&◌, ◌≤◌, ◌+◌, ℕ, ℤ, Bool, true, false, Option, Some, None, refl, ap, ◌∙◌, arith}
use Rattle.std.specs.Prelude.{nat_le}
use Rattle.std.proofs.lemmas.Bool.Decides.{nat_tests}
use Rattle.num_ends.specs.Decimal.{Decimal, InRange, IsDec, common_places, number_at, sum_of, difference_of, product_of, trimmed}
use Rattle.num_ends.specs.Arithmetic.{OperandsFit, SumFits, DifferenceFits}
use Rattle.pddl_terms.specs.declared.expressions.Op.TheVariants as op
use Rattle.std.specs.Option.{option_and_then}
use Rattle.num_ends.specs.Range.{in_range, operands_fit, where_fits}
use Rattle.pddl_meaning.specs.Values.{in_bounds, inverse_of, ranged_product}

both_true : (a b : Bool) → a && b ≡ true → (a ≡ true) × (b ≡ true)
both_true true b h = (refl, h)
both_true false b h = cc

and_true : (a b : Bool) → a ≡ true → b ≡ true → a && b ≡ true
and_true true b h k = k
and_true false b h k = cc

-- a test that isn't passed
not_true : (b : Bool) → (b ≡ true → ⊥) → b ≡ false
not_true true h = absurd (h refl)
not_true false h = refl

range_test : (n : ℤ) → InRange n → in_range n ≡ true
range_test n h = grind (arith, nat_tests)

range_tested : (n : ℤ) → in_range n ≡ true → InRange n
range_tested n h = grind (arith, nat_tests)

pub operands_test : (a b : Decimal) → OperandsFit a b → operands_fit a b ≡ true
operands_test a b h = and_true _ _ (range_test (number_at (common_places a b) a) h.first) (range_test (number_at (common_places a b) b) h.second)

operands_tested : (a b : Decimal) → operands_fit a b ≡ true → OperandsFit a b
operands_tested a b h =
    let parts = both_true (in_range (number_at (common_places a b) a)) (in_range (number_at (common_places a b) b)) h in
    record { first = range_tested (number_at (common_places a b) a) parts.0; second = range_tested (number_at (common_places a b) b) parts.1 }

pub operands_refused : (a b : Decimal) → (OperandsFit a b → ⊥) → operands_fit a b ≡ false
operands_refused a b h = not_true (operands_fit a b) (λ e. h (operands_tested a b e))

given : (fits : Bool) (d x t : Decimal) → fits ≡ true → d ≡ x → t ≡ trimmed d → Some t ≡ where_fits fits (trimmed x)
given true d x t h e f = ap Some (f ∙ ap trimmed e)
given false d x t h e f = cc

refused : (fits : Bool) (x : Decimal) → (fits ≡ true → ⊥) → None ≡ where_fits fits x
refused true x h = absurd (h refl)
refused false x h = refl

pub sum_given : (a b d t : Decimal) → d ≡ sum_of a b → SumFits a b → t ≡ trimmed d → Some t ≡ in_bounds op.Add a b
unfolding in_bounds
sum_given a b d t e h f = given _ d (sum_of a b) t (and_true _ _ (operands_test a b h.operands) (range_test (sum_of a b).n h.result)) e f

pub sum_refused : (a b : Decimal) → (SumFits a b → ⊥) → None ≡ in_bounds op.Add a b
unfolding in_bounds
sum_refused a b h = refused (operands_fit a b && in_range (sum_of a b).n) (trimmed (sum_of a b)) fits
  where
    fits : operands_fit a b && in_range (sum_of a b).n ≡ true → ⊥
    fits e =
        let parts = both_true (operands_fit a b) (in_range (sum_of a b).n) e in
        h (record { operands = operands_tested a b parts.0; result = range_tested (sum_of a b).n parts.1 })

pub difference_given : (a b d t : Decimal) → d ≡ difference_of a b → DifferenceFits a b → t ≡ trimmed d → Some t ≡ in_bounds op.Sub a b
unfolding in_bounds
difference_given a b d t e h f = given _ d (difference_of a b) t (and_true _ _ (operands_test a b h.operands) (range_test (difference_of a b).n h.result)) e f

pub difference_refused : (a b : Decimal) → (DifferenceFits a b → ⊥) → None ≡ in_bounds op.Sub a b
unfolding in_bounds
difference_refused a b h = refused (operands_fit a b && in_range (difference_of a b).n) (trimmed (difference_of a b)) fits
  where
    fits : operands_fit a b && in_range (difference_of a b).n ≡ true → ⊥
    fits e =
        let parts = both_true (operands_fit a b) (in_range (difference_of a b).n) e in
        h (record { operands = operands_tested a b parts.0; result = range_tested (difference_of a b).n parts.1 })

few_test : (p : ℕ) → p ≤ 18 → nat_le p 18 ≡ true
few_test p h = grind (arith, nat_tests)

few_tested : (p : ℕ) → nat_le p 18 ≡ true → p ≤ 18
few_tested p h = grind (arith, nat_tests)

pub product_given : (a b d t : Decimal) → d ≡ product_of a b → IsDec (product_of a b) → t ≡ trimmed d → Some t ≡ ranged_product a b
product_given a b d t e h f = given _ d (product_of a b) t (and_true _ _ (few_test (a.p + b.p) h.few_places) (range_test (product_of a b).n h.in_range)) e f

pub product_refused : (a b : Decimal) → (IsDec (product_of a b) → ⊥) → None ≡ ranged_product a b
product_refused a b h = refused (nat_le (a.p + b.p) 18 && in_range (product_of a b).n) (trimmed (product_of a b)) fits
  where
    fits : nat_le (a.p + b.p) 18 && in_range (product_of a b).n ≡ true → ⊥
    fits e =
        let parts = both_true (nat_le (a.p + b.p) 18) (in_range (product_of a b).n) e in
        h (record { in_range = range_tested (product_of a b).n parts.1; few_places = few_tested (a.p + b.p) parts.0 })

pub multiplied : (a b : Decimal) → ranged_product a b ≡ in_bounds op.Mul a b
unfolding in_bounds
multiplied a b = refl

pub divided : (a b e : Decimal) (p : Option Decimal) → Some e ≡ inverse_of b → p ≡ ranged_product a e → p ≡ in_bounds op.Div a b
unfolding in_bounds
divided a b e p h k = k ∙ ap (option_and_then (ranged_product a)) h

pub not_divided : (a b : Decimal) → None ≡ inverse_of b → None ≡ in_bounds op.Div a b
unfolding in_bounds
not_divided a b h = ap (option_and_then (ranged_product a)) h
