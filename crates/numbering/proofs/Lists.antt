-- What stands in a list, as its elements and in its parts.
use Rattle.std.proofs.Common.{◌≡◌, ◌<◌, ◌≤◌, ◌+◌, ◌-◌, ◌++◌, ◌⊎◌, ◌==◌, ◌||◌, ℕ, zero, suc, Bool, true, false, List, [], ◌∷◌, inl, inr, length, map, take, drop, slice_index_or, refl, sym, ap, subst, ◌∙◌, arith, eqb-true, eq-eqb}
use Rattle.std.specs.Prelude.{Err, Ok, OnOk, Result, flat_map}
use Rattle.std.specs.List.{AllWithin, Contains}
use Rattle.pddl_types.specs.WellFormed.{Stands}
use Rattle.ground_meaning.specs.Actions.{is_listed}

-- ---- by index

pub contained : {X : Type 0} (x : X) (xs : List X) → Stands x xs → Contains xs x
contained x [] s = elim s [ ]
contained x (y ∷ ys) (inl e) = (0, omega arith, sym e)
contained x (y ∷ ys) (inr s) = let rest = contained x ys s in (suc rest.0, omega (arith, rest.1), rest.2)

pub standing_at : {X : Type 0} (x : X) (xs : List X) (k : ℕ) → k < length xs → slice_index_or xs k x ≡ x → Stands x xs
standing_at x [] k below is = absurd (omega (arith, below))
standing_at x (y ∷ ys) zero below is = inl (sym is)
standing_at x (y ∷ ys) (suc k) below is = inr (standing_at x ys k (omega (arith, below)) is)

pub standing : {X : Type 0} (x : X) (xs : List X) → Contains xs x → Stands x xs
standing x xs c = standing_at x xs c.0 c.1 c.2

-- ---- by a test

pub listed : (x : ℕ) (xs : List ℕ) → Stands x xs → is_listed x xs ≡ true
listed x [] s = elim s [ ]
listed x (y ∷ ys) (inl same) = ap (λ (b : Bool). b || is_listed x ys) (eq-eqb y x (sym same))
listed x (y ∷ ys) (inr s) = by_test (y == x) (listed x ys s)
  where
    by_test : (test : Bool) → is_listed x ys ≡ true → (test || is_listed x ys) ≡ true
    by_test true e = refl
    by_test false e = e

pub of_listed : (x : ℕ) (xs : List ℕ) → is_listed x xs ≡ true → Stands x xs
of_listed x [] e = cc
of_listed x (y ∷ ys) e = by_test (y == x) refl e (of_listed x ys)
  where
    by_test : (test : Bool) → (y == x) ≡ test → (test || is_listed x ys) ≡ true → (is_listed x ys ≡ true → Stands x ys) → Stands x (y ∷ ys)
    by_test true same all rest = inl (sym (eqb-true y x same))
    by_test false same all rest = inr (rest all)

pub unlisted : (x : ℕ) (xs : List ℕ) → (Stands x xs → ⊥) → is_listed x xs ≡ false
unlisted x xs never = by_test (is_listed x xs) refl
  where
    by_test : (test : Bool) → is_listed x xs ≡ test → test ≡ false
    by_test true e = absurd (never (of_listed x xs e))
    by_test false e = refl

-- ---- parts

pub left : {X : Type 0} (x : X) (xs ys : List X) → Stands x xs → Stands x (xs ++ ys)
left x [] ys s = elim s [ ]
left x (y ∷ xs) ys (inl e) = inl e
left x (y ∷ xs) ys (inr s) = inr (left x xs ys s)

pub right : {X : Type 0} (x : X) (xs ys : List X) → Stands x ys → Stands x (xs ++ ys)
right x [] ys s = s
right x (y ∷ xs) ys s = inr (right x xs ys s)

pub split : {X : Type 0} (x : X) (xs ys : List X) → Stands x (xs ++ ys) → Stands x xs ⊎ Stands x ys
split x [] ys s = inr s
split x (y ∷ xs) ys (inl e) = inl (inl e)
split x (y ∷ xs) ys (inr s) = elim (split x xs ys s) [ inl here ↦ inl (inr here) | inr there ↦ inr there ]

pub taken : {X : Type 0} (x : X) (xs : List X) (n : ℕ) → Stands x (take n xs) → Stands x xs
taken x [] zero s = elim s [ ]
taken x [] (suc n) s = elim s [ ]
taken x (y ∷ ys) zero s = elim s [ ]
taken x (y ∷ ys) (suc n) (inl e) = inl e
taken x (y ∷ ys) (suc n) (inr s) = inr (taken x ys n s)

pub dropped : {X : Type 0} (x : X) (xs : List X) (n : ℕ) → Stands x (drop n xs) → Stands x xs
dropped x xs zero s = s
dropped x [] (suc n) s = elim s [ ]
dropped x (y ∷ ys) (suc n) s = inr (dropped x ys n s)

pub parted : {X : Type 0} (x : X) (xs : List X) (n : ℕ) → Stands x xs → Stands x (take n xs) ⊎ Stands x (drop n xs)
parted x xs zero s = inr s
parted x [] (suc n) s = elim s [ ]
parted x (y ∷ ys) (suc n) (inl e) = inl (inl e)
parted x (y ∷ ys) (suc n) (inr s) = elim (parted x ys n s) [ inl here ↦ inl (inr here) | inr there ↦ inr there ]

pub each_taken : {X : Type 0} (P : X → Type 0) (x : X) (xs : List X) (n : ℕ) → AllWithin P xs 0 n → Stands x (take n xs) → P x
each_taken P x [] zero h s = elim s [ ]
each_taken P x [] (suc n) h s = elim s [ ]
each_taken P x (y ∷ ys) zero h s = elim s [ ]
each_taken P x (y ∷ ys) (suc n) h (inl e) = subst P (sym e) (h 0 y (omega arith) (omega arith))
each_taken P x (y ∷ ys) (suc n) h (inr s) = each_taken P x ys n (λ k d low below. h (suc k) d (omega arith) (omega (arith, below))) s

each_of : {X : Type 0} (P : X → Type 0) (x : X) (xs : List X) → AllWithin P xs 0 (length xs) → Stands x xs → P x
each_of P x [] h s = elim s [ ]
each_of P x (y ∷ ys) h (inl e) = subst P (sym e) (h 0 y (omega arith) (omega arith))
each_of P x (y ∷ ys) h (inr s) = each_of P x ys (λ k d low below. h (suc k) d (omega arith) (omega (arith, below))) s

pub each_dropped : {X : Type 0} (P : X → Type 0) (x : X) (xs : List X) (n : ℕ) → AllWithin P xs n (length xs) → Stands x (drop n xs) → P x
each_dropped P x xs zero h s = each_of P x xs h s
each_dropped P x [] (suc n) h s = elim s [ ]
each_dropped P x (y ∷ ys) (suc n) h s = each_dropped P x ys n (λ k d low below. h (suc k) d (omega (arith, low)) (omega (arith, below))) s

-- ---- mapped and joined lists

pub in_map : {X Y : Type 0} (f : X → Y) (x : X) (xs : List X) → Stands x xs → Stands (f x) (map f xs)
in_map f x [] s = elim s [ ]
in_map f x (y ∷ ys) (inl e) = inl (ap f e)
in_map f x (y ∷ ys) (inr s) = inr (in_map f x ys s)

pub from_map : {X Y : Type 0} (f : X → Y) (xs : List X) (y : Y) → Stands y (map f xs) → (x : X) × Stands x xs × (f x ≡ y)
from_map f [] y s = elim s [ ]
from_map f (x ∷ xs) y (inl e) = (x, inl refl, sym e)
from_map f (x ∷ xs) y (inr s) = let rest = from_map f xs y s in (rest.0, inr rest.1, rest.2)

pub in_flat : {X Y : Type 0} (f : X → List Y) (xs : List X) (x : X) (y : Y) → Stands x xs → Stands y (f x) → Stands y (flat_map f xs)
in_flat f [] x y s t = elim s [ ]
in_flat f (z ∷ zs) x y (inl e) t = left y (f z) (flat_map f zs) (subst (λ u. Stands y (f u)) e t)
in_flat f (z ∷ zs) x y (inr s) t = right y (f z) (flat_map f zs) (in_flat f zs x y s t)

pub from_flat : {X Y : Type 0} (f : X → List Y) (xs : List X) (y : Y) → Stands y (flat_map f xs) → (x : X) × Stands x xs × Stands y (f x)
from_flat f [] y s = elim s [ ]
from_flat f (x ∷ xs) y s =
    elim (split y (f x) (flat_map f xs) s) [ inl here ↦ (x, inl refl, here) | inr there ↦ let rest = from_flat f xs y there in (rest.0, inr rest.1, rest.2) ]

-- ---- whole parts

pub take_all : {X : Type 0} (xs : List X) (n : ℕ) → length xs ≤ n → take n xs ≡ xs
take_all [] zero h = refl
take_all [] (suc n) h = refl
take_all (x ∷ xs) zero h = absurd (omega (arith, h))
take_all (x ∷ xs) (suc n) h = ap (λ (l : List _). x ∷ l) (take_all xs n (omega (arith, h)))

shorter : {X : Type 0} (xs : List X) (n : ℕ) → length (drop n xs) ≤ length xs - n
shorter xs zero = omega arith
shorter [] (suc n) = omega arith
shorter (x ∷ xs) (suc n) = let rest = shorter xs n in omega (arith, rest)

-- as many as there are after the first so many
pub rest_whole : {X : Type 0} (xs : List X) (n : ℕ) → take (length xs - n) (drop n xs) ≡ drop n xs
rest_whole xs n = take_all (drop n xs) (length xs - n) (shorter xs n)

pub map_next : (f : ℕ → ℕ) (xs : List ℕ) (i : ℕ) → i < length xs → map f (take (i + 1) xs) ≡ map f (take i xs) ++ f (slice_index_or xs i 0) ∷ []
map_next f xs i h = let more : i + 1 ≡ suc i = omega arith in ap (λ (n : ℕ). map f (take n xs)) more ∙ next xs i h
  where
    next : (ys : List ℕ) (k : ℕ) → k < length ys → map f (take (suc k) ys) ≡ map f (take k ys) ++ f (slice_index_or ys k 0) ∷ []
    next [] k below = absurd (omega (arith, below))
    next (y ∷ []) zero below = refl
    next (y ∷ z ∷ ys) zero below = refl
    next (y ∷ ys) (suc k) below = ap (λ (l : List ℕ). f y ∷ l) (next ys k (omega (arith, below)))

pub nothing : {X : Type 0} (xs : List X) → length xs ≡ 0 → xs ≡ []
nothing [] h = refl
nothing (x ∷ xs) h = absurd (omega (arith, h))

-- ---- clauses on success

pub on_ok : {A B : Type 0} (r : Result A B) (P Q : Type 0) → (P → Q) → OnOk r P → OnOk r Q
on_ok (Ok x) P Q more h = more h
on_ok (Err e) P Q more h = h
