-- A growth by a constant moves a fluent to the constant's side alone.
use Rattle.std.proofs.Common.{◌≡◌, ℕ, Bool, true, false, cond, ℤ, List, Some, None, pos, int_lt, int_le, sym, refl, ap, ap₂, ◌∙◌, arith}
use Rattle.std.proofs.lemmas.Int.{ints}
use Rattle.std.proofs.lemmas.Bool.{and_from, and_parts, both_ways, false_from_ne_true}
use borrow.Author.Differences.{true_is_le, false_is_lt}
use Rattle.num_ends.specs.Arithmetic.{bottom, bottom_number, lower_at, outward_of, top, top_number, upper_at}
use Rattle.num_ends.specs.Decimal.{Decimal, aligned, number_at, origin, is_at_most, trimmed}
use Rattle.num_ends.specs.Ends.{Interval, is_end_below, is_within, lower_covers, point_of}
use Rattle.num_ends.specs.declared.ends.End.TheVariants.{NegInf, Incl, PosInf}
use Rattle.num_ends.proofs.DecimalOrder.{most_at, most_not_less, no_place_more}
use Rattle.num_ends.proofs.OutwardSteps.{aligned_least, aligned_most}
use Rattle.num_ends.proofs.Widening.{outward_wider}
use Rattle.ground_task.specs.declared.raw.GExpr.{GExpr, GExpr-F, fold_out-GExpr, map-GExpr, out-GExpr}
use Rattle.ground_task.specs.declared.raw.GExpr.TheOpen as expr
use Rattle.box_model.specs.Caps.{side_of}
use Rattle.box_model.specs.Demands.{constant_layer, constant_of}
use Rattle.box_model.specs.Hold.{Ranging, interval_of, ranging_layer, ranging_of}
use Rattle.box_model.specs.declared.caps.Side.{Side}
use Rattle.box_model.specs.declared.caps.Side.TheVariants.{Upper, Lower}
use Rattle.box_model.specs.declared.state_box.StateBox.{StateBox}
use Rattle.box_model.proofs.CapLemmas.{some_same}
use Rattle.box_model.proofs.EndOrder.{below_lower, below_upper}
use Rattle.box_model.proofs.Numbers.{least_trimmed, most_trimmed, nothing_at}
use Rattle.box_rows.specs.Moves.{is_past}

-- the interval of a constant
pub constant_interval : (places : List ℕ) (b : StateBox) (e : GExpr) (c : Decimal) → constant_of e ≡ Some c → interval_of places b e ≡ outward_of (trimmed c).p (point_of (trimmed c))
constant_interval places b e c h =
    ap (λ (r : Ranging). r.interval) (fold_out-GExpr Ranging (ranging_layer places b) e) ∙ at (out-GExpr e) h
  where
    at : (o : GExpr-F GExpr) → constant_layer o ≡ Some c → (ranging_layer places b (map-GExpr GExpr Ranging (ranging_of places b) o)).interval ≡ outward_of (trimmed c).p (point_of (trimmed c))
    at o = elim o as (λ o. constant_layer o ≡ Some c → (ranging_layer places b (map-GExpr GExpr Ranging (ranging_of places b) o)).interval ≡ outward_of (trimmed c).p (point_of (trimmed c))) [
      | expr.Const d ↦ λ k. ap (λ (d : Decimal). outward_of (trimmed d).p (point_of (trimmed d))) (some_same d c k)
      | expr.Read x ↦ λ (k : None ≡ Some c). cc
      | expr.Add a b ↦ λ (k : None ≡ Some c). cc
      | expr.Sub a b ↦ λ (k : None ≡ Some c). cc
      | expr.Mul a b ↦ λ (k : None ≡ Some c). cc
    ]

-- ---- signs

not_above : (c : Decimal) → int_lt (pos 0) c.n ≡ false → is_at_most (trimmed c) origin ≡ true
not_above c h =
    sym (least_trimmed origin c) ∙ most_at c.p c origin (omega arith) (omega arith)
    ∙ ap₂ int_le (no_place_more c.p c refl) (nothing_at c.p) ∙ sym (true_is_le c.n (pos 0) (omega (arith, ints)))

not_below : (c : Decimal) → int_lt c.n (pos 0) ≡ false → is_at_most origin (trimmed c) ≡ true
not_below c h =
    sym (most_trimmed origin c) ∙ most_at c.p origin c (omega arith) (omega arith)
    ∙ ap₂ int_le (nothing_at c.p) (no_place_more c.p c refl) ∙ sym (true_is_le (pos 0) c.n (omega (arith, ints)))

-- an end at nothing is no further out than nothing
under_top : (q : ℕ) → int_lt top_number (number_at q origin) ≡ false
under_top q = ap (int_lt top_number) (nothing_at q)

over_bottom : (q : ℕ) → int_lt (number_at q origin) bottom_number ≡ false
over_bottom q = ap (λ (n : ℤ). int_lt n bottom_number) (nothing_at q)

still_above : (q : ℕ) → is_end_below (Incl origin) (upper_at q (Incl origin)) ≡ false
still_above q =
    ap (λ (v : Bool). is_end_below (Incl origin) (cond v PosInf (cond (int_lt (number_at q origin) bottom_number) (Incl (bottom q)) (Incl (aligned q origin))))) (under_top q)
    ∙ ap (λ (v : Bool). is_end_below (Incl origin) (cond v (Incl (bottom q)) (Incl (aligned q origin)))) (over_bottom q)
    ∙ most_not_less (aligned q origin) origin (aligned_least q origin (omega arith))

still_below : (q : ℕ) → is_end_below (lower_at q (Incl origin)) (Incl origin) ≡ false
still_below q =
    ap (λ (v : Bool). is_end_below (cond v NegInf (cond (int_lt top_number (number_at q origin)) (Incl (top q)) (Incl (aligned q origin)))) (Incl origin)) (over_bottom q)
    ∙ ap (λ (v : Bool). is_end_below (cond v (Incl (top q)) (Incl (aligned q origin))) (Incl origin)) (under_top q)
    ∙ most_not_less origin (aligned q origin) (aligned_most q origin (omega arith))

module _ (c : Decimal) where
  abbrev d : Decimal
  d = trimmed c

  stays_above : int_lt (pos 0) c.n ≡ false → is_end_below (Incl origin) (upper_at d.p (Incl d)) ≡ false
  stays_above h =
      let w : is_within (point_of d) (NegInf, Incl origin) ≡ true = not_above c h in
      let wider = and_parts true _ (outward_wider d.p (point_of d) (NegInf, Incl origin) (record { lower = omega arith; upper = omega arith }) (record { lower = omega arith; upper = omega arith }) w) in
      false_from_ne_true (is_end_below (Incl origin) (upper_at d.p (Incl d))) (λ k.
      both_ways (is_end_below (Incl origin) (upper_at d.p (Incl origin))) (still_above d.p) (below_upper (upper_at d.p (Incl origin)) (upper_at d.p (Incl d)) (Incl origin) wider.1 k))

  stays_below : int_lt c.n (pos 0) ≡ false → is_end_below (lower_at d.p (Incl d)) (Incl origin) ≡ false
  stays_below h =
      let w : is_within (point_of d) (Incl origin, PosInf) ≡ true = and_from _ true (not_below c h) refl in
      let wider = and_parts (lower_covers (lower_at d.p (Incl origin)) (lower_at d.p (Incl d))) _ (outward_wider d.p (point_of d) (Incl origin, PosInf) (record { lower = omega arith; upper = omega arith }) (record { lower = omega arith; upper = omega arith }) w) in
      false_from_ne_true (is_end_below (lower_at d.p (Incl d)) (Incl origin)) (λ k.
      both_ways (is_end_below (lower_at d.p (Incl origin)) (Incl origin)) (still_below d.p) (below_lower (lower_at d.p (Incl origin)) (lower_at d.p (Incl d)) (Incl origin) wider.0 k))

  up_is : int_lt (pos 0) c.n ≡ true → side_of c ≡ Some Upper
  up_is h = ap (λ (v : Bool). cond v (Some Upper) (cond (int_lt c.n (pos 0)) (Some Lower) None)) h

  down_is : int_lt c.n (pos 0) ≡ true → side_of c ≡ Some Lower
  down_is h =
      let f : int_lt (pos 0) c.n ≡ false = sym (false_is_lt (pos 0) c.n (omega (arith, ints))) in
      ap (λ (v : Bool). cond v (Some Upper) (cond (int_lt c.n (pos 0)) (Some Lower) None)) f ∙ ap (λ (v : Bool). cond v (Some Lower) None) h

  not_to : (side : Side) → (side_of c ≡ Some side → ⊥) → is_past side (point_of origin) (outward_of d.p (point_of d)) ≡ false
  not_to Upper h = stays_above (false_from_ne_true (int_lt (pos 0) c.n) (λ k. h (up_is k)))
  not_to Lower h = stays_below (false_from_ne_true (int_lt c.n (pos 0)) (λ k. h (down_is k)))

pub stays : (places : List ℕ) (b : StateBox) (side : Side) (e : GExpr) (c : Decimal) → constant_of e ≡ Some c → (side_of c ≡ Some side → ⊥) → is_past side (point_of origin) (interval_of places b e) ≡ false
stays places b side e c h k = ap (λ (i : Interval). is_past side (point_of origin) i) (constant_interval places b e c h) ∙ not_to c side k
