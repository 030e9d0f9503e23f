-- Decimals at a given count of places: they have a value exactly where their number is that of the value.
use Rattle.std.proofs.Common.{◌≡◌, ℕ, ℤ, ◌≤◌, max, true, sym, refl, ◌∙◌, subst, arith}
use Rattle.std.proofs.lemmas.Bool.Decides.{Decides-int_eq}
use Rattle.num_ends.specs.Decimal.{Decimal, number_at, is_same_value, trimmed}
use Rattle.num_ends.proofs.DecimalOrder.{no_place_more}
use Rattle.num_ends.proofs.Trimmed.{same_trimmed, trimmed_same, trimmed_twice}

abbrev pub at_places : ℕ → ℤ → Decimal
at_places q n = record { n = n; p = q }

larger : (q : ℕ) (d : Decimal) → d.p ≤ q → max q d.p ≡ q
larger q d few = omega (arith, few)

-- the number of a value at so many places
pub same_number : (q : ℕ) (n : ℤ) (d : Decimal) → d.p ≤ q → is_same_value (at_places q n) d ≡ true → n ≡ number_at q d
same_number q n d few same =
    sym (no_place_more q (at_places q n) refl)
    ∙ subst (λ (k : ℕ). number_at k (at_places q n) ≡ number_at k d) (larger q d few) ((Decides-int_eq (number_at (max q d.p) (at_places q n)) (number_at (max q d.p) d)).0 same)

pub same_value : (q : ℕ) (n : ℤ) (d : Decimal) → d.p ≤ q → n ≡ number_at q d → is_same_value (at_places q n) d ≡ true
same_value q n d few e =
    (Decides-int_eq (number_at (max q d.p) (at_places q n)) (number_at (max q d.p) d)).1
    (subst (λ (k : ℕ). number_at k (at_places q n) ≡ number_at k d) (sym (larger q d few)) (no_place_more q (at_places q n) refl ∙ e))

-- the same of a value that may have more places before it is trimmed
pub same_trimmed_number : (q : ℕ) (n : ℤ) (d : Decimal) → (trimmed d).p ≤ q → is_same_value (at_places q n) d ≡ true → n ≡ number_at q (trimmed d)
same_trimmed_number q n d few same =
    same_number q n (trimmed d) few (trimmed_same (at_places q n) (trimmed d) (same_trimmed (at_places q n) d same ∙ sym (trimmed_twice d)))

pub same_trimmed_value : (q : ℕ) (n : ℤ) (d : Decimal) → (trimmed d).p ≤ q → n ≡ number_at q (trimmed d) → is_same_value (at_places q n) d ≡ true
same_trimmed_value q n d few e =
    trimmed_same (at_places q n) d (same_trimmed (at_places q n) (trimmed d) (same_value q n (trimmed d) few e) ∙ trimmed_twice d)
