-- There is one way to bring states into their order.
use Rattle.std.proofs.Common.{◌≡◌, ℕ, ◌+◌, ◌<◌, suc, Bool, true, false, if◌then◌else◌, List, [], ◌∷◌, get_or, refl, sym, ap, ap₂, subst, ◌∙◌, arith}
use Rattle.std.specs.Cmp.{tied_itself, upto}
use Rattle.std.specs.List.{sum_by}
use Rattle.std.specs.List.Sorted.{IsSorted}
use Rattle.std.specs.Ordering.{is_eq, is_gt, is_lt, ordering_reverse}
use Rattle.std.specs.declared.cmp.Ordering.{Ordering}
use Rattle.std.specs.declared.cmp.Ordering.TheVariants.{Less, Equal, Greater}
use Rattle.std.proofs.lemmas.List.Sorted.{sum_by-IsPermutation}
use Rattle.std.proofs.lemmas.List.Sums.{sum_by-cons}
use Rattle.ground_task.specs.Orders.{is_same_state, same_state, same_state_equiv, state_cmp, state_cmp_total, states_tied}
use Rattle.ground_task.specs.States.{StateValue}
use Rattle.answer_text.proofs.Order.{Ascends, is_below}
use Rattle.answer_text.specs.Texts.{AreSorted}

abbrev tally : StateValue → StateValue → ℕ
tally x y = if is_same_state x y then 1 else 0

-- how often a state stands in a list
abbrev count_of : StateValue → List StateValue → ℕ
count_of x xs = sum_by (tally x) xs

one_self : (x : StateValue) → tally x x ≡ 1
one_self x = ap (λ (b : Bool). if b then 1 else 0) (same_state_equiv.refl x)

count_cons : (x y : StateValue) (ys : List StateValue) → count_of x (y ∷ ys) ≡ tally x y + count_of x ys
count_cons x y ys = sum_by-cons (tally x) y ys

-- ---- the order

below_turned : (x y : StateValue) → is_lt (state_cmp x y) ≡ is_gt (state_cmp y x)
below_turned x y = ap is_lt (state_cmp_total.antisymm x y) ∙ by (state_cmp y x)
  where
    by : (o : Ordering) → is_lt (ordering_reverse o) ≡ is_gt o
    by Less = refl
    by Equal = refl
    by Greater = refl

chain : (x y z : StateValue) → is_below z y ≡ false → is_below x z ≡ false → is_below x y ≡ false
chain x y z one two =
    below_turned x y ∙ upto state_cmp_total y z x (sym (below_turned z y) ∙ one) (sym (below_turned x z) ∙ two)

not_below_itself : (x : StateValue) → is_below x x ≡ false
not_below_itself x = ap is_lt (tied_itself state_cmp_total x)

same_if_tied : (x y : StateValue) → is_below x y ≡ false → is_below y x ≡ false → x ≡ y
same_if_tied x y one two = same_state x y (states_tied x y ∙ by (state_cmp x y) one (sym (below_turned y x) ∙ two))
  where
    by : (o : Ordering) → is_lt o ≡ false → is_gt o ≡ false → is_eq o ≡ true
    by Less h k = cc
    by Equal h k = refl
    by Greater h k = cc

-- ---- lists

-- no state of the list is below its first
not_below_first : (x y : StateValue) (ys : List StateValue) → Ascends (y ∷ ys) → 0 < count_of x (y ∷ ys) → is_below x y ≡ false
not_below_first x y [] is some = by (is_same_state x y) refl
  where
    by : (b : Bool) → is_same_state x y ≡ b → is_below x y ≡ false
    by true e = subst (λ (z : StateValue). is_below x z ≡ false) (same_state x y e) (not_below_itself x)
    by false e =
        let none : tally x y ≡ 0 = ap (λ (b : Bool). if b then 1 else 0) e in
        absurd (omega (arith, some, count_cons x y [], none))
not_below_first x y (z ∷ zs) is some = by (λ more. not_below_first x z zs is.1 more) (is_same_state x y) refl
  where
    by : (0 < count_of x (z ∷ zs) → is_below x z ≡ false) → (b : Bool) → is_same_state x y ≡ b → is_below x y ≡ false
    by rest true e = subst (λ (u : StateValue). is_below x u ≡ false) (same_state x y e) (not_below_itself x)
    by rest false e =
        let none : tally x y ≡ 0 = ap (λ (b : Bool). if b then 1 else 0) e in
        chain x y z is.0 (rest (omega (arith, some, count_cons x y (z ∷ zs), none)))

one_order : (xs ys : List StateValue) → Ascends xs → Ascends ys → ((x : StateValue) → count_of x xs ≡ count_of x ys) → xs ≡ ys
one_order [] [] is are same = refl
one_order [] (y ∷ ys) is are same = absurd (let none : count_of y [] ≡ 0 = refl in omega (arith, none, same y, count_cons y y ys, one_self y))
one_order (x ∷ xs) [] is are same = absurd (let none : count_of x [] ≡ 0 = refl in omega (arith, none, same x, count_cons x x xs, one_self x))
one_order (x ∷ xs) (y ∷ ys) is are same =
    let one = not_below_first x y ys are (omega (arith, same x, count_cons x x xs, one_self x)) in
    let other = not_below_first y x xs is (omega (arith, same y, count_cons y y ys, one_self y)) in
    let first : x ≡ y = same_if_tied x y one other in
    let counted : (z : StateValue) → count_of z xs ≡ count_of z ys = λ z.
    (let tallied : tally z x ≡ tally z y = ap (tally z) first in
    omega (arith, same z, count_cons z x xs, count_cons z y ys, tallied)) in
    ap₂ (λ (v : StateValue) (vs : List StateValue). v ∷ vs) first (one_order xs ys is.1 are.1 counted)

sorted_ascends : (xs : List StateValue) → IsSorted state_cmp xs → Ascends xs
sorted_ascends [] is = tt
sorted_ascends (x ∷ []) is = (tt, tt)
sorted_ascends (x ∷ y ∷ ys) is =
    (is 0 x (omega arith) (omega arith), sorted_ascends (y ∷ ys) (λ k d low high. (let next : suc k + 1 ≡ suc (k + 1) = omega arith in subst (λ (m : ℕ). is_lt (state_cmp (get_or (x ∷ y ∷ ys) m d) (get_or (x ∷ y ∷ ys) (suc k) d)) ≡ false) next (is (suc k) d (omega arith) (omega (arith, high))))))

-- a list of states can be brought into their order in one way
pub one_sorted : (states xs ys : List StateValue) → AreSorted states xs → AreSorted states ys → xs ≡ ys
one_sorted states xs ys one other =
    one_order xs ys (sorted_ascends xs one.in_order) (sorted_ascends ys other.in_order)
    (λ x. sum_by-IsPermutation (tally x) states xs one.same ∙ sym (sum_by-IsPermutation (tally x) states ys other.same))
