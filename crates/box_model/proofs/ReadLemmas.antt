-- The interval of a fluent, its ends brought to the fluent's places and moved outward.
use Rattle.std.proofs.Common.{◌≡◌, ℕ, ◌≤◌, Bool, true, false, ℤ, int_lt, int_le, sym, refl, ap, ap₂, ◌∙◌, inl, inr, arith, ◌+◌, ◌<◌, List, length, get_or}
use Rattle.std.proofs.lemmas.List.{get_or_past}
use Rattle.std.proofs.lemmas.Int.{ints}
use Rattle.std.proofs.lemmas.Bool.{and_parts, and_from, cases_Bool, cases_lt}
use borrow.Author.Differences.{up, down, true_is_lt, true_is_le, false_is_lt, false_is_le}
use Rattle.num_ends.specs.Decimal.{Decimal, number_at, aligned, trimmed, is_less, is_at_most}
use Rattle.num_ends.specs.Arithmetic.{top_number, bottom_number, top, bottom, outward_lower, outward_upper, end_at, lower_at, upper_at, outward_of, end_places}
use Rattle.num_ends.specs.Ends.{Interval, has, is_inhabited, is_within, lower_covers, upper_covers, whole_line}
use Rattle.num_ends.specs.declared.ends.End.{End}
use Rattle.num_ends.specs.declared.ends.End.TheVariants.{NegInf, Excl, Incl, PosInf}
use Rattle.num_ends.proofs.DecimalOrder.{most_refl, most_trans}
use Rattle.num_ends.proofs.Members.{has_within, inhabited_wider, lower_covers_trans, upper_covers_trans}
use Rattle.num_ends.proofs.OutwardSteps.{same_less, same_most, aligned_least, aligned_most, outward_around}
use Rattle.ground_task.specs.Tasks.{TaskValue}
use Rattle.box_model.specs.Boxes.{fluent_in, AreEndsFor, IsBoxOf, IsEndFor}
use Rattle.box_model.specs.declared.state_box.StateBox.{StateBox}
use Rattle.box_model.specs.Hold.{trimmed_end, read_interval}
use Rattle.box_model.proofs.Numbers.{at_places, number_same, trimmed_number, most_trimmed, least_trimmed}

-- ---- trimmed ends

trimmed_low : (d : Decimal) → is_at_most (trimmed d) d ≡ true
trimmed_low d = sym (least_trimmed d d) ∙ most_refl d

trimmed_high : (d : Decimal) → is_at_most d (trimmed d) ≡ true
trimmed_high d = sym (most_trimmed d d) ∙ most_refl d

trimmed_lower : (l : End) → lower_covers (trimmed_end l) l ≡ true
trimmed_lower NegInf = refl
trimmed_lower (Excl d) = trimmed_low d
trimmed_lower (Incl d) = trimmed_low d
trimmed_lower PosInf = refl

trimmed_upper : (u : End) → upper_covers (trimmed_end u) u ≡ true
trimmed_upper NegInf = refl
trimmed_upper (Excl d) = trimmed_high d
trimmed_upper (Incl d) = trimmed_high d
trimmed_upper PosInf = refl

pub few_places : (q : ℕ) (e : End) → IsEndFor q e → end_places (trimmed_end e) ≤ q
few_places q NegInf h = omega arith
few_places q (Excl d) h = h.0
few_places q (Incl d) h = h.0
few_places q PosInf h = omega arith

pub within_read : (q : ℕ) (i : Interval) → AreEndsFor q i → is_within i (read_interval q i) ≡ true
within_read q i fits =
    let t : Interval = (trimmed_end i.0, trimmed_end i.1) in
    let around = and_parts (lower_covers (lower_at q t.0) t.0) _ (outward_around q t (few_places q i.0 fits.0) (few_places q i.1 fits.1)) in
    and_from _ _ (lower_covers_trans (lower_at q t.0) t.0 i.0 around.0 (trimmed_lower i.0)) (upper_covers_trans (upper_at q t.1) t.1 i.1 around.1 (trimmed_upper i.1))

pub has_read : (q : ℕ) (i : Interval) (d : Decimal) → AreEndsFor q i → has i d ≡ true → has (read_interval q i) d ≡ true
has_read q i d fits h = has_within i (read_interval q i) d (within_read q i fits) h

-- ---- wider intervals are read as wider ones

-- an end at q places has its value
placed_lower : (q : ℕ) (l : End) → IsEndFor q l → lower_covers (end_at q (trimmed_end l)) l ≡ true
placed_lower q NegInf h = refl
placed_lower q (Excl d) h = most_trans (aligned q (trimmed d)) (trimmed d) d (aligned_least q (trimmed d) h.0) (trimmed_low d)
placed_lower q (Incl d) h = most_trans (aligned q (trimmed d)) (trimmed d) d (aligned_least q (trimmed d) h.0) (trimmed_low d)
placed_lower q PosInf h = refl

lower_placed : (q : ℕ) (l : End) → IsEndFor q l → lower_covers l (end_at q (trimmed_end l)) ≡ true
lower_placed q NegInf h = refl
lower_placed q (Excl d) h = most_trans d (trimmed d) (aligned q (trimmed d)) (trimmed_high d) (aligned_most q (trimmed d) h.0)
lower_placed q (Incl d) h = most_trans d (trimmed d) (aligned q (trimmed d)) (trimmed_high d) (aligned_most q (trimmed d) h.0)
lower_placed q PosInf h = refl

placed_upper : (q : ℕ) (u : End) → IsEndFor q u → upper_covers (end_at q (trimmed_end u)) u ≡ true
placed_upper q NegInf h = refl
placed_upper q (Excl d) h = most_trans d (trimmed d) (aligned q (trimmed d)) (trimmed_high d) (aligned_most q (trimmed d) h.0)
placed_upper q (Incl d) h = most_trans d (trimmed d) (aligned q (trimmed d)) (trimmed_high d) (aligned_most q (trimmed d) h.0)
placed_upper q PosInf h = refl

upper_placed : (q : ℕ) (u : End) → IsEndFor q u → upper_covers u (end_at q (trimmed_end u)) ≡ true
upper_placed q NegInf h = refl
upper_placed q (Excl d) h = most_trans (aligned q (trimmed d)) (trimmed d) d (aligned_least q (trimmed d) h.0) (trimmed_low d)
upper_placed q (Incl d) h = most_trans (aligned q (trimmed d)) (trimmed d) d (aligned_least q (trimmed d) h.0) (trimmed_low d)
upper_placed q PosInf h = refl

-- numbers at one count of places
less_here : (q : ℕ) (a b : ℤ) → up a + down b < up b + down a → is_less (at_places q a) (at_places q b) ≡ true
less_here q a b h = same_less (at_places q a) (at_places q b) refl ∙ sym (true_is_lt a b h)

most_here : (q : ℕ) (a b : ℤ) → up a + down b ≤ up b + down a → is_at_most (at_places q a) (at_places q b) ≡ true
most_here q a b h = same_most (at_places q a) (at_places q b) refl ∙ sym (true_is_le a b h)

above_bottom : (a b : ℤ) → up a + down b ≤ up b + down a → int_lt a bottom_number ≡ false → int_lt b bottom_number ≡ false
above_bottom a b h f = sym (false_is_lt b bottom_number (omega (arith, ints)))

below_top : (a b : ℤ) → up a + down b ≤ up b + down a → int_lt top_number b ≡ false → int_lt top_number a ≡ false
below_top a b h f = sym (false_is_lt top_number a (omega (arith, ints)))

module _ (q : ℕ) (a b : ℤ) where
  open_open : up a + down b ≤ up b + down a → lower_covers (outward_lower (Excl (at_places q a))) (outward_lower (Excl (at_places q b))) ≡ true
  open_open h =
      elim (cases_Bool (int_lt a bottom_number)) [
        | inl t ↦ rw t refl
        | inr f ↦ elim (cases_Bool (int_le top_number a)) [
          | inl u ↦
              let v : int_le top_number b ≡ true = sym (true_is_le top_number b (omega (arith, ints))) in
              rw (f, u, above_bottom a b h f, v) (most_refl (top q))
          | inr g ↦ elim (cases_Bool (int_le top_number b)) [
            | inl v ↦ rw (f, g, above_bottom a b h f, v) (less_here q a top_number (omega (arith, ints)))
            | inr w ↦ rw (f, g, above_bottom a b h f, w) (most_here q a b h)
          ]
        ]
      ]

  open_closed : up a + down b < up b + down a → lower_covers (outward_lower (Excl (at_places q a))) (outward_lower (Incl (at_places q b))) ≡ true
  open_closed h =
      elim (cases_Bool (int_lt a bottom_number)) [
        | inl t ↦ rw t refl
        | inr f ↦ elim (cases_Bool (int_le top_number a)) [
          | inl u ↦
              let v : int_lt top_number b ≡ true = sym (true_is_lt top_number b (omega (arith, ints))) in
              rw (f, u, above_bottom a b (omega arith) f, v) (most_refl (top q))
          | inr g ↦ elim (cases_Bool (int_lt top_number b)) [
            | inl v ↦ rw (f, g, above_bottom a b (omega arith) f, v) (less_here q a top_number (omega (arith, ints)))
            | inr w ↦ rw (f, g, above_bottom a b (omega arith) f, w) (less_here q a b h)
          ]
        ]
      ]

  closed_open : up a + down b ≤ up b + down a → lower_covers (outward_lower (Incl (at_places q a))) (outward_lower (Excl (at_places q b))) ≡ true
  closed_open h =
      elim (cases_Bool (int_lt a bottom_number)) [
        | inl t ↦ rw t refl
        | inr f ↦ elim (cases_Bool (int_lt top_number a)) [
          | inl u ↦
              let v : int_le top_number b ≡ true = sym (true_is_le top_number b (omega (arith, ints))) in
              rw (f, u, above_bottom a b h f, v) (most_refl (top q))
          | inr g ↦ elim (cases_Bool (int_le top_number b)) [
            | inl v ↦ rw (f, g, above_bottom a b h f, v) (most_here q a top_number (omega (arith, ints)))
            | inr w ↦ rw (f, g, above_bottom a b h f, w) (most_here q a b h)
          ]
        ]
      ]

  closed_closed : up a + down b ≤ up b + down a → lower_covers (outward_lower (Incl (at_places q a))) (outward_lower (Incl (at_places q b))) ≡ true
  closed_closed h =
      elim (cases_Bool (int_lt a bottom_number)) [
        | inl t ↦ rw t refl
        | inr f ↦ elim (cases_Bool (int_lt top_number a)) [
          | inl u ↦
              let v : int_lt top_number b ≡ true = sym (true_is_lt top_number b (omega (arith, ints))) in
              rw (f, u, above_bottom a b h f, v) (most_refl (top q))
          | inr g ↦ elim (cases_Bool (int_lt top_number b)) [
            | inl v ↦ rw (f, g, above_bottom a b h f, v) (most_here q a top_number (omega (arith, ints)))
            | inr w ↦ rw (f, g, above_bottom a b h f, w) (most_here q a b h)
          ]
        ]
      ]

  -- the same of upper ends, where a is at least b
  open_open' : up b + down a ≤ up a + down b → upper_covers (outward_upper (Excl (at_places q a))) (outward_upper (Excl (at_places q b))) ≡ true
  open_open' h =
      elim (cases_Bool (int_lt top_number a)) [
        | inl t ↦ rw t refl
        | inr f ↦ elim (cases_Bool (int_le a bottom_number)) [
          | inl u ↦
              let v : int_le b bottom_number ≡ true = sym (true_is_le b bottom_number (omega (arith, ints))) in
              rw (f, u, below_top b a h f, v) (most_refl (bottom q))
          | inr g ↦ elim (cases_Bool (int_le b bottom_number)) [
            | inl v ↦ rw (f, g, below_top b a h f, v) (less_here q bottom_number a (omega (arith, ints)))
            | inr w ↦ rw (f, g, below_top b a h f, w) (most_here q b a h)
          ]
        ]
      ]

  open_closed' : up b + down a < up a + down b → upper_covers (outward_upper (Excl (at_places q a))) (outward_upper (Incl (at_places q b))) ≡ true
  open_closed' h =
      elim (cases_Bool (int_lt top_number a)) [
        | inl t ↦ rw t refl
        | inr f ↦ elim (cases_Bool (int_le a bottom_number)) [
          | inl u ↦
              let v : int_lt b bottom_number ≡ true = sym (true_is_lt b bottom_number (omega (arith, ints))) in
              rw (f, u, below_top b a (omega arith) f, v) (most_refl (bottom q))
          | inr g ↦ elim (cases_Bool (int_lt b bottom_number)) [
            | inl v ↦ rw (f, g, below_top b a (omega arith) f, v) (less_here q bottom_number a (omega (arith, ints)))
            | inr w ↦ rw (f, g, below_top b a (omega arith) f, w) (less_here q b a h)
          ]
        ]
      ]

  closed_open' : up b + down a ≤ up a + down b → upper_covers (outward_upper (Incl (at_places q a))) (outward_upper (Excl (at_places q b))) ≡ true
  closed_open' h =
      elim (cases_Bool (int_lt top_number a)) [
        | inl t ↦ rw t refl
        | inr f ↦ elim (cases_Bool (int_lt a bottom_number)) [
          | inl u ↦
              let v : int_le b bottom_number ≡ true = sym (true_is_le b bottom_number (omega (arith, ints))) in
              rw (f, u, below_top b a h f, v) (most_refl (bottom q))
          | inr g ↦ elim (cases_Bool (int_le b bottom_number)) [
            | inl v ↦ rw (f, g, below_top b a h f, v) (most_here q bottom_number a (omega (arith, ints)))
            | inr w ↦ rw (f, g, below_top b a h f, w) (most_here q b a h)
          ]
        ]
      ]

  closed_closed' : up b + down a ≤ up a + down b → upper_covers (outward_upper (Incl (at_places q a))) (outward_upper (Incl (at_places q b))) ≡ true
  closed_closed' h =
      elim (cases_Bool (int_lt top_number a)) [
        | inl t ↦ rw t refl
        | inr f ↦ elim (cases_Bool (int_lt a bottom_number)) [
          | inl u ↦
              let v : int_lt b bottom_number ≡ true = sym (true_is_lt b bottom_number (omega (arith, ints))) in
              rw (f, u, below_top b a h f, v) (most_refl (bottom q))
          | inr g ↦ elim (cases_Bool (int_lt b bottom_number)) [
            | inl v ↦ rw (f, g, below_top b a h f, v) (most_here q bottom_number a (omega (arith, ints)))
            | inr w ↦ rw (f, g, below_top b a h f, w) (most_here q b a h)
          ]
        ]
      ]

most_of : (q : ℕ) (a b : ℤ) → is_at_most (at_places q a) (at_places q b) ≡ true → up a + down b ≤ up b + down a
most_of q a b h =
    let e : int_le a b ≡ true = sym (same_most (at_places q a) (at_places q b) refl) ∙ h in
    omega (arith, ints)

less_of : (q : ℕ) (a b : ℤ) → is_less (at_places q a) (at_places q b) ≡ true → up a + down b < up b + down a
less_of q a b h =
    let e : int_lt a b ≡ true = sym (same_less (at_places q a) (at_places q b) refl) ∙ h in
    omega (arith, ints)

pub lower_top : (l : End) → lower_covers l PosInf ≡ true
lower_top NegInf = refl
lower_top (Excl d) = refl
lower_top (Incl d) = refl
lower_top PosInf = refl

pub upper_bottom : (u : End) → upper_covers u NegInf ≡ true
upper_bottom NegInf = refl
upper_bottom (Excl d) = refl
upper_bottom (Incl d) = refl
upper_bottom PosInf = refl

-- ends at q places
lower_moved : (q : ℕ) (l k : End) → lower_covers (end_at q l) (end_at q k) ≡ true → lower_covers (lower_at q l) (lower_at q k) ≡ true
lower_moved q NegInf k h = refl
lower_moved q (Excl d) NegInf h = cc
lower_moved q (Excl d) (Excl e) h = open_open q (number_at q d) (number_at q e) (most_of q (number_at q d) (number_at q e) h)
lower_moved q (Excl d) (Incl e) h = open_closed q (number_at q d) (number_at q e) (less_of q (number_at q d) (number_at q e) h)
lower_moved q (Excl d) PosInf h = lower_top (outward_lower (Excl (aligned q d)))
lower_moved q (Incl d) NegInf h = cc
lower_moved q (Incl d) (Excl e) h = closed_open q (number_at q d) (number_at q e) (most_of q (number_at q d) (number_at q e) h)
lower_moved q (Incl d) (Incl e) h = closed_closed q (number_at q d) (number_at q e) (most_of q (number_at q d) (number_at q e) h)
lower_moved q (Incl d) PosInf h = lower_top (outward_lower (Incl (aligned q d)))
lower_moved q PosInf NegInf h = cc
lower_moved q PosInf (Excl e) h = cc
lower_moved q PosInf (Incl e) h = cc
lower_moved q PosInf PosInf h = refl

upper_moved : (q : ℕ) (u v : End) → upper_covers (end_at q u) (end_at q v) ≡ true → upper_covers (upper_at q u) (upper_at q v) ≡ true
upper_moved q PosInf v h = refl
upper_moved q (Excl d) PosInf h = cc
upper_moved q (Excl d) (Excl e) h = open_open' q (number_at q d) (number_at q e) (most_of q (number_at q e) (number_at q d) h)
upper_moved q (Excl d) (Incl e) h = open_closed' q (number_at q d) (number_at q e) (less_of q (number_at q e) (number_at q d) h)
upper_moved q (Excl d) NegInf h = upper_bottom (outward_upper (Excl (aligned q d)))
upper_moved q (Incl d) PosInf h = cc
upper_moved q (Incl d) (Excl e) h = closed_open' q (number_at q d) (number_at q e) (most_of q (number_at q e) (number_at q d) h)
upper_moved q (Incl d) (Incl e) h = closed_closed' q (number_at q d) (number_at q e) (most_of q (number_at q e) (number_at q d) h)
upper_moved q (Incl d) NegInf h = upper_bottom (outward_upper (Incl (aligned q d)))
upper_moved q NegInf PosInf h = cc
upper_moved q NegInf (Excl e) h = cc
upper_moved q NegInf (Incl e) h = cc
upper_moved q NegInf NegInf h = refl

pub read_wider : (q : ℕ) (i j : Interval) → AreEndsFor q i → AreEndsFor q j → is_within i j ≡ true → is_within (read_interval q i) (read_interval q j) ≡ true
read_wider q i j fits fits' w =
    let parts = and_parts (lower_covers j.0 i.0) (upper_covers j.1 i.1) w in
    let low : lower_covers (end_at q (trimmed_end j.0)) (end_at q (trimmed_end i.0)) ≡ true =
    lower_covers_trans (end_at q (trimmed_end j.0)) j.0 (end_at q (trimmed_end i.0)) (placed_lower q j.0 fits'.0)
    (lower_covers_trans j.0 i.0 (end_at q (trimmed_end i.0)) parts.0 (lower_placed q i.0 fits.0)) in
    let high : upper_covers (end_at q (trimmed_end j.1)) (end_at q (trimmed_end i.1)) ≡ true =
    upper_covers_trans (end_at q (trimmed_end j.1)) j.1 (end_at q (trimmed_end i.1)) (placed_upper q j.1 fits'.1)
    (upper_covers_trans j.1 i.1 (end_at q (trimmed_end i.1)) parts.1 (upper_placed q i.1 fits.1)) in
    and_from _ _ (lower_moved q (trimmed_end j.0) (trimmed_end i.0) low) (upper_moved q (trimmed_end j.1) (trimmed_end i.1) high)

-- ---- boxes

-- each end of a box fits its fluent
abbrev pub AllFit : List ℕ → StateBox → Type 0
AllFit places b = (x : ℕ) → x < length b.fluents → AreEndsFor (get_or places x 0) (fluent_in b x)

pub all_fit : (t : TaskValue) (b : StateBox) → IsBoxOf t b → AllFit t.places b
all_fit t b a x h = (a.lower_fits x h, a.upper_fits x h)

-- also past the last fluent, where the interval is the whole line
pub fits_anywhere : (places : List ℕ) (b : StateBox) → AllFit places b → (x : ℕ) → AreEndsFor (get_or places x 0) (fluent_in b x)
fits_anywhere places b all x =
    elim (cases_lt x (length b.fluents)) [
      | inl h ↦ all x h
      | inr h ↦ rw (get_or_past b.fluents x whole_line h) (tt, tt)
    ]

-- ---- as the code has them

placed_same : (p : ℕ) (d : Decimal) → d.p ≡ p → aligned p (trimmed d) ≡ d
placed_same p d e =
    ap₂ (λ (n : ℤ) (q : ℕ). at_places q n) (trimmed_number p d (omega arith) ∙ number_same p d e) (sym e)

inner_lower : (d : Decimal) → int_lt bottom_number d.n ≡ true → int_lt d.n top_number ≡ true → (outward_lower (Excl d) ≡ Excl d) × (outward_lower (Incl d) ≡ Incl d)
inner_lower d h k =
    let f : int_lt d.n bottom_number ≡ false = sym (false_is_lt d.n bottom_number (omega (arith, ints))) in
    let g : int_le top_number d.n ≡ false = sym (false_is_le top_number d.n (omega (arith, ints))) in
    let e : int_lt top_number d.n ≡ false = sym (false_is_lt top_number d.n (omega (arith, ints))) in
    (rw (f, g) refl, rw (f, e) refl)

inner_upper : (d : Decimal) → int_lt bottom_number d.n ≡ true → int_lt d.n top_number ≡ true → (outward_upper (Excl d) ≡ Excl d) × (outward_upper (Incl d) ≡ Incl d)
inner_upper d h k =
    let f : int_lt top_number d.n ≡ false = sym (false_is_lt top_number d.n (omega (arith, ints))) in
    let g : int_le d.n bottom_number ≡ false = sym (false_is_le d.n bottom_number (omega (arith, ints))) in
    let e : int_lt d.n bottom_number ≡ false = sym (false_is_lt d.n bottom_number (omega (arith, ints))) in
    (rw (f, g) refl, rw (f, e) refl)

-- an end that stays, on either side
pub record IsPlaced (p : ℕ) (e : End) : Type 0 where
  pub lower : lower_at p (trimmed_end e) ≡ e
  pub upper : upper_at p (trimmed_end e) ≡ e

pub open_placed : (p : ℕ) (d : Decimal) → d.p ≡ p → int_lt bottom_number d.n ≡ true → int_lt d.n top_number ≡ true → IsPlaced p (Excl d)
open_placed p d e h k =
    record {
      lower = ap (λ (c : Decimal). outward_lower (Excl c)) (placed_same p d e) ∙ (inner_lower d h k).0;
      upper = ap (λ (c : Decimal). outward_upper (Excl c)) (placed_same p d e) ∙ (inner_upper d h k).0;
    }

pub closed_placed : (p : ℕ) (d : Decimal) → d.p ≡ p → int_lt bottom_number d.n ≡ true → int_lt d.n top_number ≡ true → IsPlaced p (Incl d)
closed_placed p d e h k =
    record {
      lower = ap (λ (c : Decimal). outward_lower (Incl c)) (placed_same p d e) ∙ (inner_lower d h k).1;
      upper = ap (λ (c : Decimal). outward_upper (Incl c)) (placed_same p d e) ∙ (inner_upper d h k).1;
    }

pub placed_read : (p : ℕ) (i : Interval) (l u : End) → l ≡ i.0 → u ≡ i.1 → lower_at p (trimmed_end l) ≡ l → upper_at p (trimmed_end u) ≡ u → i ≡ read_interval p i
placed_read p i l u e f h k =
    sym (ap₂ (λ (a b : End). (a, b))
    (ap (λ (x : End). lower_at p (trimmed_end x)) (sym e) ∙ h ∙ e)
    (ap (λ (x : End). upper_at p (trimmed_end x)) (sym f) ∙ k ∙ f))

trimmed_within : (i : Interval) → is_within i (trimmed_end i.0, trimmed_end i.1) ≡ true
trimmed_within i = and_from _ _ (trimmed_lower i.0) (trimmed_upper i.1)

pub trimmed_inhabited : (i : Interval) → is_inhabited i.0 i.1 ≡ true → is_inhabited (trimmed_end i.0) (trimmed_end i.1) ≡ true
trimmed_inhabited i h = inhabited_wider i (trimmed_end i.0, trimmed_end i.1) (trimmed_within i) h
