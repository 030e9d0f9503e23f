-- Boxes that are alike in pairs.
use Rattle.std.proofs.Common.{◌≡◌, ℕ, zero, suc, List, [], ◌∷◌, ◌++◌, length, refl, ap, subst, inl, inr}
use Rattle.std.proofs.lemmas.Bool.{cases_order}
use Rattle.plain_runs.specs.Alike.{AreInPairs}
use Rattle.search_runs.specs.Nodes.{IsInNone, IsFirstIn}
use Rattle.search_runs.specs.Spaces.{Space, IsAt}

module _ {B : Type 0} (Alike : B → B → Type 0) where
  pub pairs_length : (xs ys : List B) → AreInPairs Alike xs ys → length xs ≡ length ys
  pairs_length [] [] h = refl
  pairs_length [] (y ∷ ys) h = absurd h
  pairs_length (x ∷ xs) [] h = absurd h
  pairs_length (x ∷ xs) (y ∷ ys) h = ap suc (pairs_length xs ys h.1)

  pub pairs_push : (xs ys : List B) (x y : B) → AreInPairs Alike xs ys → Alike x y → AreInPairs Alike (xs ++ x ∷ []) (ys ++ y ∷ [])
  pairs_push [] [] x y h alike = (alike, tt)
  pairs_push [] (z ∷ ys) x y h alike = absurd h
  pairs_push (z ∷ xs) [] x y h alike = absurd h
  pairs_push (z ∷ xs) (w ∷ ys) x y h alike = (h.0, pairs_push xs ys x y h.1 alike)

  pub pairs_at : (xs ys : List B) → AreInPairs Alike xs ys → (n : ℕ) (x : B) → IsAt xs n x → (y : B) × IsAt ys n y × Alike x y
  pairs_at [] [] h n x at = cc
  pairs_at [] (y ∷ ys) h n x at = absurd h
  pairs_at (z ∷ xs) [] h n x at = absurd h
  pairs_at (z ∷ xs) (y ∷ ys) h zero x at = let same : z ≡ x = cc in (y, refl, subst (λ w. Alike w y) same h.0)
  pairs_at (z ∷ xs) (y ∷ ys) h (suc n) x at = pairs_at xs ys h.1 n x at

  pub pairs_back : (xs ys : List B) → AreInPairs Alike xs ys → (n : ℕ) (y : B) → IsAt ys n y → (x : B) × IsAt xs n x × Alike x y
  pairs_back [] [] h n y at = cc
  pairs_back [] (z ∷ ys) h n y at = absurd h
  pairs_back (x ∷ xs) [] h n y at = absurd h
  pairs_back (x ∷ xs) (z ∷ ys) h zero y at = let same : z ≡ y = cc in (x, refl, subst (Alike x) same h.0)
  pairs_back (x ∷ xs) (z ∷ ys) h (suc n) y at = pairs_back xs ys h.1 n y at

module _ {S B : Type 0} (g : Space S B) (Alike : B → B → Type 0)
    (there : (a b : B) (s : S) → Alike a b → g.Contains a s → g.Contains b s) (back : (a b : B) (s : S) → Alike a b → g.Contains b s → g.Contains a s) where
  -- what is the first of the one list isn't in none of the other
  pub first_none : (xs ys : List B) (s : S) (n : ℕ) → AreInPairs Alike xs ys → IsFirstIn g xs s n → IsInNone g ys s → ⊥
  first_none xs ys s n h first none =
      let r = pairs_at Alike xs ys h n first.box first.there in none n r.0 r.1 (there first.box r.0 s r.2 first.contains)

  pub none_first : (xs ys : List B) (s : S) (n : ℕ) → AreInPairs Alike xs ys → IsInNone g xs s → IsFirstIn g ys s n → ⊥
  none_first xs ys s n h none first =
      let r = pairs_back Alike xs ys h n first.box first.there in none n r.0 r.1 (back r.0 first.box s r.2 first.contains)

  -- the first is one and the same
  pub first_same : (xs ys : List B) (s : S) (m n : ℕ) → AreInPairs Alike xs ys → IsFirstIn g xs s m → IsFirstIn g ys s n → m ≡ n
  first_same xs ys s m n h first other =
      elim (cases_order m n) [
        | inl same ↦ same
        | inr (inl less) ↦ (let r = pairs_at Alike xs ys h m first.box first.there in absurd (other.earlier m r.0 less r.1 (there first.box r.0 s r.2 first.contains)))
        | inr (inr more) ↦ (let r = pairs_back Alike xs ys h n other.box other.there in absurd (first.earlier n r.0 more r.1 (back r.0 other.box s r.2 other.contains)))
      ]
