-- Products of ends around products of members.
use Rattle.std.proofs.Common.{◌≡◌, Bool, true, false, cond, ◌||◌, pos, int_le, refl, sym, ap, ◌∙◌, ◌⊎◌, inl, inr}
use Rattle.std.proofs.lemmas.Bool.{cond-true, cond-false, or_right}
use Rattle.num_ends.specs.Decimal.{Decimal, origin, is_less, is_at_most, product_of}
use Rattle.num_ends.specs.declared.ends.End.{End}
use Rattle.num_ends.specs.declared.ends.End.TheVariants.{NegInf, Excl, Incl, PosInf}
use Rattle.num_ends.specs.Ends.{is_above, is_below}
use Rattle.num_ends.specs.Arithmetic.{is_closed_zero, is_open_zero, exact_product, end_product}
use Rattle.num_ends.proofs.DecimalOrder.{less_trans, less_most_trans, most_less_trans, most_trans, less_is_most}
use Rattle.num_ends.proofs.Operations.{IsPositive, IsNegative, IsZero, sign_of, positive_not_zero, positive_not_negative, negative_not_zero, zero_is_zero, times_less, times_most, positive_times_less, positive_times_most, negative_times_less, negative_times_most, product_positive, product_not_negative, zero_less, zero_at_most}

-- ---- which product it is

pub record NotZero (e : End) : Type 0 where
  pub closed : is_closed_zero e ≡ false
  pub open_end : is_open_zero e ≡ false

pub product_closed_left : (a b : End) → is_closed_zero a ≡ true → end_product a b ≡ Incl origin
product_closed_left a b h = rw h refl

pub product_closed_right : (a b : End) → is_closed_zero b ≡ true → end_product a b ≡ Incl origin
product_closed_right a b h = cond-true (is_closed_zero a || is_closed_zero b) (Incl origin) (cond (is_open_zero a || is_open_zero b) (Excl origin) (exact_product a b)) (or_right (is_closed_zero a) (is_closed_zero b) h)

pub product_exact : (a b : End) → NotZero a → NotZero b → end_product a b ≡ exact_product a b
product_exact a b x y = rw (x.closed, y.closed, x.open_end, y.open_end) refl

pub product_open_left : (a b : End) → is_closed_zero a ≡ false → is_closed_zero b ≡ false → is_open_zero a ≡ true → end_product a b ≡ Excl origin
product_open_left a b x y z = rw (x, y, z) refl

or_none : (x y : Bool) → x ≡ false → y ≡ false → (x || y) ≡ false
or_none x y e f = rw (e, f) refl

pub product_open_right : (a b : End) → is_closed_zero a ≡ false → is_closed_zero b ≡ false → is_open_zero b ≡ true → end_product a b ≡ Excl origin
product_open_right a b x y z =
    cond-false (is_closed_zero a || is_closed_zero b) (Incl origin) (cond (is_open_zero a || is_open_zero b) (Excl origin) (exact_product a b)) (or_none (is_closed_zero a) (is_closed_zero b) x y)
    ∙ cond-true (is_open_zero a || is_open_zero b) (Excl origin) (exact_product a b) (or_right (is_open_zero a) (is_open_zero b) z)

pub along : (d : Decimal) {e f : End} → e ≡ f → is_above f d ≡ true → is_above e d ≡ true
along d e h = ap (λ (k : End). is_above k d) e ∙ h

-- an end that is not 0, by the sign of its decimal
open_positive : (x : Decimal) → IsPositive x → NotZero (Excl x)
open_positive x h = record { closed = refl; open_end = positive_not_zero x h }

closed_positive : (x : Decimal) → IsPositive x → NotZero (Incl x)
closed_positive x h = record { closed = positive_not_zero x h; open_end = refl }

open_negative : (x : Decimal) → IsNegative x → NotZero (Excl x)
open_negative x h = record { closed = refl; open_end = negative_not_zero x h }

closed_negative : (x : Decimal) → IsNegative x → NotZero (Incl x)
closed_negative x h = record { closed = negative_not_zero x h; open_end = refl }

infinite_below : NotZero NegInf
infinite_below = record { closed = refl; open_end = refl }

infinite_above : NotZero PosInf
infinite_above = record { closed = refl; open_end = refl }

-- ---- signs along the order

pub positive_up : (x a : Decimal) → IsPositive x → is_at_most x a ≡ true → IsPositive a
positive_up x a h k = sym (zero_less origin a refl) ∙ less_most_trans origin x a (zero_less origin x refl ∙ h) k

zero_up : (x a : Decimal) → IsZero x → is_less x a ≡ true → IsPositive a
zero_up x a z h = sym (zero_less x a z) ∙ h

zero_up_most : (x a : Decimal) → IsZero x → is_at_most x a ≡ true → int_le (pos 0) a.n ≡ true
zero_up_most x a z h = sym (zero_at_most x a z) ∙ h

above_origin : (d : Decimal) → IsPositive d → is_less origin d ≡ true
above_origin d h = zero_less origin d refl ∙ h

at_least_origin : (d : Decimal) → int_le (pos 0) d.n ≡ true → is_at_most origin d ≡ true
at_least_origin d h = zero_at_most origin d refl ∙ h

-- ---- one factor of an end below a, at a positive b

-- a positive lower end, and the other factor's lower end
positive_closed : (x a b : Decimal) (k : End) → IsPositive b → IsPositive x → is_at_most x a ≡ true → is_above k b ≡ true → is_above (end_product (Incl x) k) (product_of a b) ≡ true
positive_closed x a b NegInf pb px h m = rw (positive_not_zero x px, positive_not_negative x px) refl
positive_closed x a b (Excl y) pb px h m =
    elim (sign_of y) [
      | inl z ↦ along (product_of a b) (product_open_right (Incl x) (Excl y) (positive_not_zero x px) refl (zero_is_zero y z)) (above_origin (product_of a b) (product_positive a b (positive_up x a px h) pb))
      | inr s ↦
          let other : NotZero (Excl y) = elim s [ inl p ↦ open_positive y p | inr n ↦ open_negative y n ] in
          along (product_of a b) (product_exact (Incl x) (Excl y) (closed_positive x px) other)
          (less_most_trans (product_of x y) (product_of x b) (product_of a b) (positive_times_less x y b px m) (times_most x a b pb h))
    ]
positive_closed x a b (Incl y) pb px h m =
    elim (sign_of y) [
      | inl z ↦ along (product_of a b) (product_closed_right (Incl x) (Incl y) (zero_is_zero y z)) (less_is_most origin (product_of a b) (above_origin (product_of a b) (product_positive a b (positive_up x a px h) pb)))
      | inr s ↦
          let other : NotZero (Incl y) = elim s [ inl p ↦ closed_positive y p | inr n ↦ closed_negative y n ] in
          along (product_of a b) (product_exact (Incl x) (Incl y) (closed_positive x px) other)
          (most_trans (product_of x y) (product_of x b) (product_of a b) (positive_times_most x y b px m) (times_most x a b pb h))
    ]
positive_closed x a b PosInf pb px h m = cc

positive_open : (x a b : Decimal) (k : End) → IsPositive b → IsPositive x → is_less x a ≡ true → is_above k b ≡ true → is_above (end_product (Excl x) k) (product_of a b) ≡ true
positive_open x a b NegInf pb px h m = rw (positive_not_zero x px, positive_not_negative x px) refl
positive_open x a b (Excl y) pb px h m =
    let pa = positive_up x a px (less_is_most x a h) in
    elim (sign_of y) [
      | inl z ↦ along (product_of a b) (product_open_right (Excl x) (Excl y) refl refl (zero_is_zero y z)) (above_origin (product_of a b) (product_positive a b pa pb))
      | inr s ↦
          let other : NotZero (Excl y) = elim s [ inl p ↦ open_positive y p | inr n ↦ open_negative y n ] in
          along (product_of a b) (product_exact (Excl x) (Excl y) (open_positive x px) other)
          (less_trans (product_of x y) (product_of x b) (product_of a b) (positive_times_less x y b px m) (times_less x a b pb h))
    ]
positive_open x a b (Incl y) pb px h m =
    let pa = positive_up x a px (less_is_most x a h) in
    elim (sign_of y) [
      | inl z ↦ along (product_of a b) (product_closed_right (Excl x) (Incl y) (zero_is_zero y z)) (less_is_most origin (product_of a b) (above_origin (product_of a b) (product_positive a b pa pb)))
      | inr s ↦
          let other : NotZero (Incl y) = elim s [ inl p ↦ closed_positive y p | inr n ↦ closed_negative y n ] in
          along (product_of a b) (product_exact (Excl x) (Incl y) (open_positive x px) other)
          (most_less_trans (product_of x y) (product_of x b) (product_of a b) (positive_times_most x y b px m) (times_less x a b pb h))
    ]
positive_open x a b PosInf pb px h m = cc

-- a negative lower end, and the other factor's upper end
negative_closed : (x a b : Decimal) (k : End) → IsPositive b → IsNegative x → is_at_most x a ≡ true → is_below k b ≡ true → is_above (end_product (Incl x) k) (product_of a b) ≡ true
negative_closed x a b NegInf pb nx h m = cc
negative_closed x a b (Excl y) pb nx h m =
    let py = positive_up b y pb (less_is_most b y m) in
    along (product_of a b) (product_exact (Incl x) (Excl y) (closed_negative x nx) (open_positive y py))
    (less_most_trans (product_of x y) (product_of x b) (product_of a b) (negative_times_less x y b nx m) (times_most x a b pb h))
negative_closed x a b (Incl y) pb nx h m =
    let py = positive_up b y pb m in
    along (product_of a b) (product_exact (Incl x) (Incl y) (closed_negative x nx) (closed_positive y py))
    (most_trans (product_of x y) (product_of x b) (product_of a b) (negative_times_most x y b nx m) (times_most x a b pb h))
negative_closed x a b PosInf pb nx h m = rw (negative_not_zero x nx, nx) refl

negative_open : (x a b : Decimal) (k : End) → IsPositive b → IsNegative x → is_less x a ≡ true → is_below k b ≡ true → is_above (end_product (Excl x) k) (product_of a b) ≡ true
negative_open x a b NegInf pb nx h m = cc
negative_open x a b (Excl y) pb nx h m =
    let py = positive_up b y pb (less_is_most b y m) in
    along (product_of a b) (product_exact (Excl x) (Excl y) (open_negative x nx) (open_positive y py))
    (less_trans (product_of x y) (product_of x b) (product_of a b) (negative_times_less x y b nx m) (times_less x a b pb h))
negative_open x a b (Incl y) pb nx h m =
    let py = positive_up b y pb m in
    along (product_of a b) (product_exact (Excl x) (Incl y) (open_negative x nx) (closed_positive y py))
    (most_less_trans (product_of x y) (product_of x b) (product_of a b) (negative_times_most x y b nx m) (times_less x a b pb h))
negative_open x a b PosInf pb nx h m = rw (negative_not_zero x nx, nx) refl

-- a lower end 0
zero_closed : (x a b : Decimal) (k : End) → IsPositive b → IsZero x → is_at_most x a ≡ true → is_above (end_product (Incl x) k) (product_of a b) ≡ true
zero_closed x a b k pb z h =
    along (product_of a b) (product_closed_left (Incl x) k (zero_is_zero x z)) (at_least_origin (product_of a b) (product_not_negative a b (zero_up_most x a z h) pb))

zero_open : (x a b : Decimal) (k : End) → IsPositive b → IsZero x → is_less x a ≡ true → is_below k b ≡ true → is_above (end_product (Excl x) k) (product_of a b) ≡ true
zero_open x a b k pb z h m =
    along (product_of a b) (product_open_left (Excl x) k refl (not_closed_zero k m) (zero_is_zero x z)) (above_origin (product_of a b) (product_positive a b (zero_up x a z h) pb))
  where
    not_closed_zero : (e : End) → is_below e b ≡ true → is_closed_zero e ≡ false
    not_closed_zero NegInf n = refl
    not_closed_zero (Excl y) n = refl
    not_closed_zero (Incl y) n = positive_not_zero y (positive_up b y pb n)
    not_closed_zero PosInf n = refl

-- an infinite lower end
infinite_open : (a b : Decimal) (k : End) → IsPositive b → is_below k b ≡ true → is_above (end_product NegInf k) (product_of a b) ≡ true
infinite_open a b NegInf pb m = cc
infinite_open a b (Excl y) pb m =
    let py = positive_up b y pb (less_is_most b y m) in
    rw (positive_not_zero y py, positive_not_negative y py) refl
infinite_open a b (Incl y) pb m =
    let py = positive_up b y pb m in
    rw (positive_not_zero y py, positive_not_negative y py) refl
infinite_open a b PosInf pb m = refl

-- at a positive b the lower end's product with one end of the other factor lies below
pub positive_factor : (l k v : End) (a b : Decimal) → IsPositive b → is_above l a ≡ true → is_above k b ≡ true → is_below v b ≡ true
    → (is_above (end_product l k) (product_of a b) ≡ true) ⊎ (is_above (end_product l v) (product_of a b) ≡ true)
positive_factor NegInf k v a b pb h m n = inr (infinite_open a b v pb n)
positive_factor (Excl x) k v a b pb h m n =
    elim (sign_of x) [
      | inl z ↦ inr (zero_open x a b v pb z h n)
      | inr s ↦ elim s [
        | inl p ↦ inl (positive_open x a b k pb p h m)
        | inr q ↦ inr (negative_open x a b v pb q h n)
      ]
    ]
positive_factor (Incl x) k v a b pb h m n =
    elim (sign_of x) [
      | inl z ↦ inr (zero_closed x a b v pb z h)
      | inr s ↦ elim s [
        | inl p ↦ inl (positive_closed x a b k pb p h m)
        | inr q ↦ inr (negative_closed x a b v pb q h n)
      ]
    ]
positive_factor PosInf k v a b pb h m n = cc
