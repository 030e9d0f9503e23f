-- Steps of the arithmetic on decimals.
use Rattle.std.proofs.Common.{◌≡◌, ℕ, ℤ, sym, ap₂, subst}
use Rattle.num_ends.specs.Decimal.{Decimal, InRange, aligned, number_at}
use Rattle.num_ends.proofs.DecimalOrder.{no_place_more}

pub aligned_same : (q : ℕ) (d : Decimal) → d.p ≡ q → d ≡ aligned q d
aligned_same q d e = ap₂ (λ (n : ℤ) (p : ℕ). record { n = n; p = p }) (sym (no_place_more q d e)) e

pub same_in_range : (q : ℕ) (d : Decimal) → d.p ≡ q → InRange d.n → InRange (number_at q d)
same_in_range q d e h = subst InRange (sym (no_place_more q d e)) h
