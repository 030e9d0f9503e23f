-- What may hold in a box may hold in each box around it.
use Rattle.std.proofs.Common.{◌≡◌, ℕ, ◌≤◌, Bool, true, List, [], ◌∷◌, length, get_or, map, sym, refl, ◌∙◌, subst, inl, inr}
use Rattle.std.specs.List.{list_all, list_any}
use Rattle.std.proofs.lemmas.Bool.{and_parts, and_from, or_cases, or_left, or_right, cases_lt}
use Rattle.std.proofs.lemmas.List.{get_or_past}
use Rattle.num_ends.specs.Ends.{Interval, is_within, may_less, may_less_equal, whole_line, lower_covers}
use Rattle.ground_task.specs.declared.raw.Rel.{Rel}
use Rattle.ground_task.specs.declared.raw.Rel.TheVariants.{Less, LessEqual, Equal, GreaterEqual, Greater}
use Rattle.ground_task.specs.declared.raw.GExpr.{GExpr}
use Rattle.ground_task.specs.declared.raw.GCond.{GCond, GCond-F, fold-roll-GCond, ind-GCond, map-GCond}
use Rattle.ground_task.specs.declared.raw.GCond.TheOpen as cond
use Rattle.box_model.specs.Boxes.{fact_in, fluent_in, may_be, is_may_within, LiesWithin}
use Rattle.box_model.specs.Hold.{interval_of, may_stand, may_hold_layer, may_hold}
use Rattle.box_model.specs.declared.state_box.May.{May}
use Rattle.box_model.specs.declared.state_box.May.TheVariants.{True, False, Any}
use Rattle.box_model.specs.declared.state_box.StateBox.{StateBox}
use Rattle.box_model.proofs.ReadLemmas.{AllFit}
use Rattle.box_model.proofs.Intervals.{AllInhabited, range_wider}
use Rattle.box_model.proofs.EndOrder.{below_lower, below_upper, inhabited_lower, inhabited_upper}

-- ---- intervals

less_wider : (i j k l : Interval) → is_within i k ≡ true → is_within j l ≡ true → may_less i j ≡ true → may_less k l ≡ true
less_wider i j k l v w h =
    below_upper l.1 j.1 k.0 (and_parts (lower_covers l.0 j.0) _ w).1 (below_lower k.0 i.0 j.1 (and_parts (lower_covers k.0 i.0) _ v).0 h)

most_wider : (i j k l : Interval) → is_within i k ≡ true → is_within j l ≡ true → may_less_equal i j ≡ true → may_less_equal k l ≡ true
most_wider i j k l v w h =
    inhabited_upper l.1 j.1 k.0 (and_parts (lower_covers l.0 j.0) _ w).1 (inhabited_lower k.0 i.0 j.1 (and_parts (lower_covers k.0 i.0) _ v).0 h)

pub stand_wider : (r : Rel) (i j k l : Interval) → is_within i k ≡ true → is_within j l ≡ true → may_stand r i j ≡ true → may_stand r k l ≡ true
stand_wider Less i j k l v w h = less_wider i j k l v w h
stand_wider LessEqual i j k l v w h = most_wider i j k l v w h
stand_wider Equal i j k l v w h =
    and_from _ _ (most_wider i j k l v w (and_parts _ _ h).0) (most_wider j i l k w v (and_parts _ _ h).1)
stand_wider GreaterEqual i j k l v w h = most_wider j i l k w v h
stand_wider Greater i j k l v w h = less_wider j i l k w v h

-- ---- facts

pub may_be_wider : (m n : May) (truth : Bool) → is_may_within m n ≡ true → may_be m truth ≡ true → may_be n truth ≡ true
may_be_wider True True truth w h = h
may_be_wider True False truth w h = cc
may_be_wider True Any truth w h = refl
may_be_wider False True truth w h = cc
may_be_wider False False truth w h = h
may_be_wider False Any truth w h = refl
may_be_wider Any True truth w h = cc
may_be_wider Any False truth w h = cc
may_be_wider Any Any truth w h = refl

-- ---- boxes

module _ (b c : StateBox) (within : LiesWithin b c) where
  pub fact_wider : (f : ℕ) → is_may_within (fact_in b f) (fact_in c f) ≡ true
  fact_wider f =
      elim (cases_lt f (length b.facts)) [
        | inl h ↦ within.facts f h
        | inr h ↦ rw (get_or_past b.facts f Any h, get_or_past c.facts f Any (subst (λ (n : ℕ). n ≤ f) within.as_many_facts h)) refl
      ]

  pub fluent_wider : (x : ℕ) → is_within (fluent_in b x) (fluent_in c x) ≡ true
  fluent_wider x =
      elim (cases_lt x (length b.fluents)) [
        | inl h ↦ within.fluents x h
        | inr h ↦ rw (get_or_past b.fluents x whole_line h, get_or_past c.fluents x whole_line (subst (λ (n : ℕ). n ≤ x) within.as_many_fluents h)) refl
      ]

module _ (places : List ℕ) (b c : StateBox) (within : LiesWithin b c) (fits : AllFit places b) (fits' : AllFit places c) (all : AllInhabited b) where
  pub interval_wider : (e : GExpr) → is_within (interval_of places b e) (interval_of places c e) ≡ true
  interval_wider = range_wider places b c fits fits' all (fluent_wider b c within)

  abbrev IsMonotone : GCond → Type 0
  IsMonotone g = may_hold places b g ≡ true → may_hold places c g ≡ true

  all_wider : (gs : List ((g : GCond) × IsMonotone g)) → list_all (λ v. v) (map (may_hold places b) (map (λ e. e.0) gs)) ≡ true → list_all (λ v. v) (map (may_hold places c) (map (λ e. e.0) gs)) ≡ true
  all_wider [] h = refl
  all_wider (g ∷ gs) h =
      let parts = and_parts (may_hold places b g.0) _ h in
      and_from (may_hold places c g.0) _ (g.1 parts.0) (all_wider gs parts.1)

  any_wider : (gs : List ((g : GCond) × IsMonotone g)) → list_any (λ v. v) (map (may_hold places b) (map (λ e. e.0) gs)) ≡ true → list_any (λ v. v) (map (may_hold places c) (map (λ e. e.0) gs)) ≡ true
  any_wider [] h = cc
  any_wider (g ∷ gs) h =
      elim (or_cases (may_hold places b g.0) _ h) [
        | inl here ↦ or_left (may_hold places c g.0) _ (g.1 here)
        | inr later ↦ or_right (may_hold places c g.0) _ (any_wider gs later)
      ]

  condition_wider : (y : GCond-F ((g : GCond) × IsMonotone g)) →
      may_hold_layer places b (map-GCond GCond Bool (may_hold places b) (map-GCond ((g : GCond) × IsMonotone g) GCond (λ e. e.0) y)) ≡ true →
      may_hold_layer places c (map-GCond GCond Bool (may_hold places c) (map-GCond ((g : GCond) × IsMonotone g) GCond (λ e. e.0) y)) ≡ true
  condition_wider cond.True h = refl
  condition_wider cond.False h = h
  condition_wider (cond.Fact f truth) h = may_be_wider (fact_in b f) (fact_in c f) truth (fact_wider b c within f) h
  condition_wider (cond.Cmp r e1 e2) h =
      stand_wider r (interval_of places b e1) (interval_of places b e2) (interval_of places c e1) (interval_of places c e2) (interval_wider e1) (interval_wider e2) h
  condition_wider (cond.And gs) h = all_wider gs h
  condition_wider (cond.Or gs) h = any_wider gs h

  pub hold_wider : (g : GCond) → may_hold places b g ≡ true → may_hold places c g ≡ true
  hold_wider = ind-GCond IsMonotone (λ x y is h.
      let at : may_hold_layer places b (map-GCond GCond Bool (may_hold places b) x) ≡ true = sym (fold-roll-GCond Bool (may_hold_layer places b) x) ∙ h in
      fold-roll-GCond Bool (may_hold_layer places c) x
      ∙ subst (λ (z : GCond-F GCond). may_hold_layer places b (map-GCond GCond Bool (may_hold places b) z) ≡ true → may_hold_layer places c (map-GCond GCond Bool (may_hold places c) z) ≡ true) is (condition_wider y) at)
