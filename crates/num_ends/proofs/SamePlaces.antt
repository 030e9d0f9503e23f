-- Two decimals with one count of places need no alignment.
use Rattle.std.proofs.Common.{◌≡◌, ℕ, ℤ, ◌+ℤ◌, ◌-ℤ◌, Result, MatchResult, max, sym, ap₂, ◌∙◌, subst, arith}
use Rattle.std.specs.Ordering.{int_cmp}
use Rattle.std.proofs.lemmas.Result.{MatchResult-weaker}
use Rattle.num_ends.specs.Decimal.{Decimal, InRange, number_at, common_places, sum_of, difference_of, order_of}
use Rattle.num_ends.specs.Arithmetic.{OperandsFit, SumFits, DifferenceFits}
use Rattle.num_ends.proofs.DecimalOrder.{no_place_more}

first_number : (a b : Decimal) → a.p ≡ b.p → number_at (common_places a b) a ≡ a.n
first_number a b e = no_place_more (max a.p b.p) a (omega (arith, e))

second_number : (a b : Decimal) → a.p ≡ b.p → number_at (common_places a b) b ≡ b.n
second_number a b e = no_place_more (max a.p b.p) b (omega (arith, e))

first_count : (a b : Decimal) → a.p ≡ b.p → a.p ≡ common_places a b
first_count a b e = omega (arith, e)

pub operands_fit : (a b : Decimal) → a.p ≡ b.p → InRange a.n → InRange b.n → OperandsFit a b
operands_fit a b e h k = record { first = subst InRange (sym (first_number a b e)) h; second = subst InRange (sym (second_number a b e)) k }

same_sum : (a b : Decimal) → a.p ≡ b.p → a.n +ℤ b.n ≡ (sum_of a b).n
same_sum a b e = sym (ap₂ (λ (x y : ℤ). x +ℤ y) (first_number a b e) (second_number a b e))

same_difference : (a b : Decimal) → a.p ≡ b.p → a.n -ℤ b.n ≡ (difference_of a b).n
same_difference a b e = sym (ap₂ (λ (x y : ℤ). x -ℤ y) (first_number a b e) (second_number a b e))

pub same_order : (a b : Decimal) → a.p ≡ b.p → int_cmp a.n b.n ≡ order_of a b
same_order a b e = sym (ap₂ int_cmp (first_number a b e) (second_number a b e))

-- a sum of the numbers is the sum of the decimals
pub sum_found : {E : Type 0} (found : Result Decimal E) (a b : Decimal) → a.p ≡ b.p → InRange a.n → InRange b.n
    → MatchResult found (λ d. (d ≡ record { n = a.n +ℤ b.n; p = a.p }) × InRange (a.n +ℤ b.n)) (λ fault. InRange (a.n +ℤ b.n) → ⊥)
    → MatchResult found (λ d. (d ≡ sum_of a b) × SumFits a b) (λ fault. SumFits a b → ⊥)
sum_found {E} found a b e h k m = MatchResult-weaker found m
    (λ d it. (
      it.0 ∙ ap₂ (λ (n : ℤ) (p : ℕ). record { n = n; p = p }) (same_sum a b e) (first_count a b e),
      record { operands = operands_fit a b e h k; result = subst InRange (same_sum a b e) it.1 },
    ))
    (λ fault no fits. no (subst InRange (sym (same_sum a b e)) fits.result))

-- so is a difference
pub difference_found : {E : Type 0} (found : Result Decimal E) (a b : Decimal) → a.p ≡ b.p → InRange a.n → InRange b.n
    → MatchResult found (λ d. (d ≡ record { n = a.n -ℤ b.n; p = a.p }) × InRange (a.n -ℤ b.n)) (λ fault. InRange (a.n -ℤ b.n) → ⊥)
    → MatchResult found (λ d. (d ≡ difference_of a b) × DifferenceFits a b) (λ fault. DifferenceFits a b → ⊥)
difference_found {E} found a b e h k m = MatchResult-weaker found m
    (λ d it. (
      it.0 ∙ ap₂ (λ (n : ℤ) (p : ℕ). record { n = n; p = p }) (same_difference a b e) (first_count a b e),
      record { operands = operands_fit a b e h k; result = subst InRange (same_difference a b e) it.1 },
    ))
    (λ fault no fits. no (subst InRange (sym (same_difference a b e)) fits.result))
