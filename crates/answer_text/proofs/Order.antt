-- States in their order: each list can be brought into it, and in one way.
use Rattle.std.proofs.Common.{◌≡◌, ℕ, ◌+◌, ◌<◌, zero, suc, Bool, true, false, if◌then◌else◌, List, [], ◌∷◌, length, map, refl, ap, subst, ◌∙◌, arith}
use Rattle.std.proofs.lemmas.List.{get_or-map, length-map}
use Rattle.std.specs.Prelude.{⊤}
use Rattle.std.specs.List.Sorted.{IsPermutation, IsSorted}
use Rattle.std.specs.Ordering.{is_lt, ordering_reverse}
use Rattle.std.specs.declared.cmp.Ordering.{Ordering}
use Rattle.std.specs.declared.cmp.Ordering.TheVariants.{Less, Equal, Greater}
use Rattle.std.proofs.lemmas.List.Sorted.{IsPermutation-append_comm, IsPermutation-append_left, IsPermutation-append_right, IsPermutation-map, IsPermutation-refl, IsPermutation-trans}
use Rattle.ground_task.specs.Orders.{state_cmp, state_cmp_total}
use Rattle.ground_task.specs.States.{StateValue}
use Rattle.answer_text.specs.Texts.{AreSorted}

abbrev pub is_below : StateValue → StateValue → Bool
is_below x y = is_lt (state_cmp x y)

not_both : (x y : StateValue) → is_below x y ≡ true → is_below y x ≡ false
not_both x y less = ap is_lt (state_cmp_total.antisymm y x) ∙ by (state_cmp x y) less
  where
    by : (o : Ordering) → is_lt o ≡ true → is_lt (ordering_reverse o) ≡ false
    by Less e = refl
    by Equal e = cc
    by Greater e = cc

-- no state is below the one before it
abbrev pub IsNotAbove : StateValue → List StateValue → Type 0
IsNotAbove x [] = ⊤
IsNotAbove x (y ∷ ys) = is_below y x ≡ false

abbrev pub Ascends : List StateValue → Type 0
Ascends [] = ⊤
Ascends (x ∷ xs) = IsNotAbove x xs × Ascends xs

ascends_sorted : (xs : List StateValue) → Ascends xs → IsSorted state_cmp xs
ascends_sorted [] is k d low high = absurd (omega (arith, high))
ascends_sorted (x ∷ []) is k d low high = absurd (omega (arith, high))
ascends_sorted (x ∷ y ∷ ys) is zero d low high = is.0
ascends_sorted (x ∷ y ∷ ys) is (suc k) d low high =
    let next : suc k + 1 ≡ suc (k + 1) = omega arith in
    rw next (ascends_sorted (y ∷ ys) is.1 k d (omega arith) (omega (arith, high)))

abbrev put : StateValue → List StateValue → List StateValue
put x [] = x ∷ []
put x (y ∷ ys) = if is_below y x then y ∷ put x ys else x ∷ y ∷ ys

put_above : (x y : StateValue) (ys : List StateValue) → is_below y x ≡ true → IsNotAbove y ys → IsNotAbove y (put x ys)
put_above x y [] less is = not_both y x less
put_above x y (z ∷ zs) less is = by (is_below z x)
  where
    by : (b : Bool) → IsNotAbove y (if b then z ∷ put x zs else x ∷ z ∷ zs)
    by true = is
    by false = not_both y x less

put_ascends : (x : StateValue) (ys : List StateValue) → Ascends ys → Ascends (put x ys)
put_ascends x [] is = (tt, tt)
put_ascends x (y ∷ ys) is = by (put_ascends x ys is.1) (is_below y x) refl
  where
    by : Ascends (put x ys) → (b : Bool) → is_below y x ≡ b → Ascends (if b then y ∷ put x ys else x ∷ y ∷ ys)
    by rest true e = (put_above x y ys e is.0, rest)
    by rest false e = (e, is)

put_same : (x : StateValue) (ys : List StateValue) → IsPermutation (x ∷ ys) (put x ys)
put_same x [] = IsPermutation-refl (x ∷ [])
put_same x (y ∷ ys) = by (put_same x ys) (is_below y x)
  where
    by : IsPermutation (x ∷ ys) (put x ys) → (b : Bool) → IsPermutation (x ∷ y ∷ ys) (if b then y ∷ put x ys else x ∷ y ∷ ys)
    by rest true =
        IsPermutation-trans (x ∷ y ∷ ys) (y ∷ x ∷ ys) (y ∷ put x ys)
        (IsPermutation-append_left ys (x ∷ y ∷ []) (y ∷ x ∷ []) (IsPermutation-append_comm (x ∷ []) (y ∷ [])))
        (IsPermutation-append_right (y ∷ []) (x ∷ ys) (put x ys) rest)
    by rest false = IsPermutation-refl (x ∷ y ∷ ys)

brought : (xs : List StateValue) → (ys : List StateValue) × IsPermutation xs ys × Ascends ys
brought [] = ([], IsPermutation-refl [], tt)
brought (x ∷ xs) =
    let (ys, same, is) = brought xs in
    (put x ys, IsPermutation-trans (x ∷ xs) (x ∷ ys) (put x ys) (IsPermutation-append_right (x ∷ []) xs ys same) (put_same x ys), put_ascends x ys is)

-- each list of states can be brought into their order
pub has_sorted : (xs : List StateValue) → (ys : List StateValue) × AreSorted xs ys
has_sorted xs =
    let (ys, same, is) = brought xs in (ys, record { same = same; in_order = ascends_sorted ys is })

-- what is sorted by what it is mapped to
pub sorted_map : {X : Type 0} (f : X → StateValue) (xs : List X) → IsSorted (λ x y. state_cmp (f x) (f y)) xs → IsSorted state_cmp (map f xs)
sorted_map f [] is k d low high = absurd (omega (arith, high))
sorted_map f (x ∷ xs) is k d low high =
    let bound : k + 1 < length (x ∷ xs) = subst (λ (n : ℕ). k + 1 < n) (length-map (x ∷ xs) f) high in
    rw (get_or-map f (x ∷ xs) (k + 1) x d bound, get_or-map f (x ∷ xs) k x d (omega (arith, bound))) (is k x low bound)

pub mapped_sorted : {X : Type 0} (f : X → StateValue) (states : List StateValue) (xs ys : List X) → map f xs ≡ states → IsPermutation xs ys → IsSorted (λ x y. state_cmp (f x) (f y)) ys → AreSorted states (map f ys)
mapped_sorted f states xs ys is same sorted = record {
  same = subst (λ (l : List StateValue). IsPermutation l (map f ys)) is (IsPermutation-map f xs ys same);
  in_order = sorted_map f ys sorted;
}
