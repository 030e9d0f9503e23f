-- The number of a code among rising codes.
use Rattle.std.proofs.Common.{◌≡◌, ◌<◌, ◌≤◌, ◌+◌, ◌==◌, ◌||◌, ℕ, zero, suc, Bool, true, false, not, List, [], ◌∷◌, inl, inr, length, slice_index_or, refl, sym, ap, ◌∙◌, arith, cond, eq-eqb, ne_eqb}
use Rattle.std.specs.List.{Contains}
use Rattle.std.specs.List.Sorted.{IsStrictlyIncreasing}
use Rattle.std.proofs.lemmas.List.Kept.{AllPairs-from_increasing}
use Rattle.std.proofs.lemmas.List.Sums.{position_or_len_is}
use Rattle.std.proofs.lemmas.Bool.{cases_lt}
use Rattle.ground_meaning.specs.Actions.{is_listed}
use Rattle.ground_meaning.specs.Tasks.{number_in}
use Rattle.numbering.proofs.Lists.{contained, listed, standing_at, unlisted}

module _ (xs : List ℕ) (rising : IsStrictlyIncreasing xs) where
  pub not_falling : (i j : ℕ) → i ≤ j → j < length xs → slice_index_or xs i 0 ≤ slice_index_or xs j 0
  not_falling i j upto below =
      elim (cases_lt i j) [
        | inl less ↦ let rise = AllPairs-from_increasing xs rising i j 0 less below in omega (arith, rise)
        | inr same ↦ let is : i ≡ j = omega (arith, upto, same) in let equal = ap (λ (k : ℕ). slice_index_or xs k 0) is in omega (arith, equal)
      ]

  pub found_number : (x i : ℕ) → i < length xs → slice_index_or xs i 0 ≡ x → i ≡ number_in xs x
  found_number x i below is =
      sym (position_or_len_is (λ m. m == x) xs i 0 (omega (arith, below)) other (λ _. eq-eqb (slice_index_or xs i 0) x is))
    where
      other : (k : ℕ) → k < i → (slice_index_or xs k 0 == x) ≡ false
      other k before =
          let less = AllPairs-from_increasing xs rising k i 0 before below in
          ne_eqb (slice_index_or xs k 0) x (λ same. absurd (omega (arith, less, is, same)))

same_at : (xs : List ℕ) (i d e : ℕ) → i < length xs → slice_index_or xs i d ≡ slice_index_or xs i e
same_at [] i d e below = absurd (omega (arith, below))
same_at (x ∷ xs) zero d e below = refl
same_at (x ∷ xs) (suc i) d e below = same_at xs i d e (omega (arith, below))

pub found_listed : (xs : List ℕ) (x i : ℕ) → i < length xs → slice_index_or xs i 0 ≡ x → is_listed x xs ≡ true
found_listed xs x i below is = listed x xs (standing_at x xs i below (same_at xs i x 0 below ∙ is))

-- a code is missing where those before a place are less, and those from there on greater
pub missing : (xs : List ℕ) (x i : ℕ) → ((k : ℕ) → k < i → slice_index_or xs k 0 < x)
    → ((k : ℕ) → i ≤ k → k < length xs → x < slice_index_or xs k 0) → is_listed x xs ≡ false
missing xs x i less greater = unlisted x xs (λ s. never (contained x xs s))
  where
    never : Contains xs x → ⊥
    never c =
        let at = same_at xs c.0 x 0 c.1 in
        elim (cases_lt c.0 i) [
          | inl before ↦ let low = less c.0 before in absurd (omega (arith, low, at, c.2))
          | inr after ↦ let high = greater c.0 after c.1 in absurd (omega (arith, high, at, c.2))
        ]

pub missing_number : (xs : List ℕ) (x : ℕ) → is_listed x xs ≡ false → length xs ≡ number_in xs x
missing_number [] x none = refl
missing_number (y ∷ ys) x none = by_test (y == x) none (missing_number ys x)
  where
    by_test : (test : Bool) → (test || is_listed x ys) ≡ false → (is_listed x ys ≡ false → length ys ≡ number_in ys x)
        → suc (length ys) ≡ cond (not test) (1 + number_in ys x) 0
    by_test true e rest = cc
    by_test false e rest = let known = rest e in omega (arith, known)
