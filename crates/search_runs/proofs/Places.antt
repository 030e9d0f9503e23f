-- Items at their places.
use Rattle.std.proofs.Common.{◌≡◌, ◌≢◌, ℕ, ◌<◌, ◌⊎◌, zero, suc, List, [], ◌∷◌, ◌++◌, length, Option, None, Some, refl, sym, ap, inl, inr, arith}
use Rattle.search_runs.specs.Nodes.{with_status}
use Rattle.search_runs.specs.Spaces.{IsAt}
use Rattle.search_runs.specs.declared.nodes.Node.{Node}
use Rattle.search_runs.specs.declared.nodes.Status.{Status}

pub at_within : {X : Type 0} (xs : List X) (n : ℕ) (x : X) → IsAt xs n x → n < length xs
at_within [] n x e = cc
at_within (y ∷ xs) zero x e = omega arith
at_within (y ∷ xs) (suc n) x e = omega (arith, at_within xs n x e)

pub at_same : {X : Type 0} (xs : List X) (n : ℕ) (x y : X) → IsAt xs n x → IsAt xs n y → x ≡ y
at_same xs n x y p q = cc

-- what is in a list stays where it is when an item comes behind it
pub at_kept : {X : Type 0} (xs : List X) (y : X) (n : ℕ) (x : X) → IsAt xs n x → IsAt (xs ++ y ∷ []) n x
at_kept [] y n x e = cc
at_kept (z ∷ xs) y zero x e = e
at_kept (z ∷ xs) y (suc n) x e = at_kept xs y n x e

pub at_last : {X : Type 0} (xs : List X) (y : X) → IsAt (xs ++ y ∷ []) (length xs) y
at_last [] y = refl
at_last (z ∷ xs) y = at_last xs y

pub at_longer : {X : Type 0} (xs : List X) (y : X) (n : ℕ) (x : X) → IsAt (xs ++ y ∷ []) n x → IsAt xs n x ⊎ ((n ≡ length xs) × (x ≡ y))
at_longer [] y zero x e = inr (refl, let same : y ≡ x = cc in sym same)
at_longer [] y (suc n) x e = cc
at_longer (z ∷ xs) y zero x e = inl e
at_longer (z ∷ xs) y (suc n) x e =
    elim (at_longer xs y n x e) [
      | inl here ↦ inl here
      | inr (there, same) ↦ inr (ap suc there, same)
    ]

module _ {S : Type 0} where
  -- the node at n has the status, and the others are as they were
  pub at_changed : (xs : List (Node S)) (n : ℕ) (st : Status) (x : Node S) → IsAt xs n x → IsAt (with_status xs n st) n (record x { status = st })
  at_changed [] n st x e = cc
  at_changed (z ∷ xs) zero st x e = ap (λ o. elim o as (λ _. Option (Node S)) [ None ↦ None | Some y ↦ Some (record y { status = st }) ]) e
  at_changed (z ∷ xs) (suc n) st x e = at_changed xs n st x e

  pub at_other : (xs : List (Node S)) (n : ℕ) (st : Status) (m : ℕ) (x : Node S) → m ≢ n → IsAt xs m x → IsAt (with_status xs n st) m x
  at_other [] n st m x ne e = cc
  at_other (z ∷ xs) zero st zero x ne e = absurd (ne refl)
  at_other (z ∷ xs) zero st (suc m) x ne e = e
  at_other (z ∷ xs) (suc n) st zero x ne e = e
  at_other (z ∷ xs) (suc n) st (suc m) x ne e = at_other xs n st m x (λ same. ne (ap suc same)) e

  pub at_before : (xs : List (Node S)) (n : ℕ) (st : Status) (m : ℕ) (x : Node S) → IsAt (with_status xs n st) m x
      → ((m ≢ n) × IsAt xs m x) ⊎ ((m ≡ n) × (y : Node S) × IsAt xs n y × (x ≡ record y { status = st }))
  at_before [] n st m x e = cc
  at_before (z ∷ xs) zero st zero x e = inr (refl, z, refl, let same : record z { status = st } ≡ x = cc in sym same)
  at_before (z ∷ xs) zero st (suc m) x e = inl ((λ same. cc), e)
  at_before (z ∷ xs) (suc n) st zero x e = inl ((λ same. cc), e)
  at_before (z ∷ xs) (suc n) st (suc m) x e =
      elim (at_before xs n st m x e) [
        | inl (ne, old) ↦ inl ((λ same. ne (let p : m ≡ n = omega arith in p)), old)
        | inr (here, y, old, is) ↦ inr (ap suc here, y, old, is)
      ]

  pub length-with_status : (xs : List (Node S)) (n : ℕ) (st : Status) → length (with_status xs n st) ≡ length xs
  length-with_status [] n st = refl
  length-with_status (x ∷ xs) zero st = refl
  length-with_status (x ∷ xs) (suc n) st = ap suc (length-with_status xs n st)
