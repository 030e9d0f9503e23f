-- A condition that holds in a state of a box may hold in the box.
use Rattle.std.proofs.Common.{◌≡◌, ℕ, Bool, true, false, List, [], ◌∷◌, length, map, get_or, sym, refl, ◌∙◌, subst, inl, inr}
use Rattle.std.specs.List.{list_all, list_any}
use Rattle.std.proofs.lemmas.Bool.{and_parts, and_from, or_cases, or_left, or_right, cases_lt, not-true}
use Rattle.std.proofs.lemmas.List.{get_or_past}
use Rattle.num_ends.specs.Decimal.{Decimal}
use Rattle.num_ends.specs.Ends.{Interval, has, whole_line}
use Rattle.ground_task.specs.States.{StateValue}
use Rattle.ground_task.specs.Meaning.{fact_value, fluent_value, value_of, stands, holds_layer, holds}
use Rattle.ground_task.specs.declared.raw.Rel.{Rel}
use Rattle.ground_task.specs.declared.raw.Rel.TheVariants.{Less, LessEqual, Equal, GreaterEqual, Greater}
use Rattle.ground_task.specs.declared.raw.GExpr.{GExpr}
use Rattle.ground_task.specs.declared.raw.GCond.{GCond, GCond-F, fold-roll-GCond, ind-GCond, map-GCond}
use Rattle.ground_task.specs.declared.raw.GCond.TheOpen as cond
use Rattle.box_model.specs.Boxes.{fact_in, fluent_in, may_be, Contains}
use Rattle.box_model.specs.Hold.{interval_of, may_stand, may_hold_layer, may_hold}
use Rattle.box_model.specs.declared.state_box.May.TheVariants.{Any}
use Rattle.box_model.specs.declared.state_box.StateBox.{StateBox}
use Rattle.num_ends.proofs.DecimalOrder.{same_is_most, same_back}
use Rattle.box_model.proofs.ReadLemmas.{AllFit}
use Rattle.box_model.proofs.Intervals.{value_within}
use Rattle.num_ends.proofs.Meetings.{less_met, at_most_met}

-- two members that stand so show that two intervals may
pub members_stand : (r : Rel) (i j : Interval) (a b : Decimal) → has i a ≡ true → has j b ≡ true → stands r a b ≡ true → may_stand r i j ≡ true
members_stand Less i j a b h k e = less_met i j a b h k e
members_stand LessEqual i j a b h k e = at_most_met i j a b h k e
members_stand Equal i j a b h k e =
    and_from _ _ (at_most_met i j a b h k (same_is_most a b e)) (at_most_met j i b a k h (same_is_most b a (same_back a b e)))
members_stand GreaterEqual i j a b h k e = at_most_met j i b a k h e
members_stand Greater i j a b h k e = less_met j i b a k h e

may_be_any : (truth : Bool) → may_be Any truth ≡ true
may_be_any truth = refl

module _ (places : List ℕ) (b : StateBox) (s : StateValue) (inside : Contains places b s) where
  pub fact_inside : (f : ℕ) → may_be (fact_in b f) (get_or s.facts f false) ≡ true
  fact_inside f =
      elim (cases_lt f (length b.facts)) [
        | inl h ↦ inside.facts f h
        | inr h ↦ rw (get_or_past b.facts f Any h) refl
      ]

  pub fluent_inside : (x : ℕ) → has (fluent_in b x) (fluent_value places s x) ≡ true
  fluent_inside x =
      elim (cases_lt x (length b.fluents)) [
        | inl h ↦ inside.fluents x h
        | inr h ↦ rw (get_or_past b.fluents x whole_line h) refl
      ]

module _ (places : List ℕ) (b : StateBox) (s : StateValue) (inside : Contains places b s) (fits : AllFit places b) where
  -- the value of an expression lies in its interval
  pub value_inside : (e : GExpr) → has (interval_of places b e) (value_of places s e) ≡ true
  value_inside = value_within places b s fits (fluent_inside places b s inside)

  abbrev truths : GCond-F Bool → Bool
  truths = holds_layer (fact_value s) (fluent_value places s)

  abbrev IsSound : GCond → Type 0
  IsSound c = holds places s c ≡ true → may_hold places b c ≡ true

  fact_sound : (f : ℕ) (truth : Bool) → truths (cond.Fact f truth) ≡ true → may_hold_layer places b (cond.Fact f truth) ≡ true
  fact_sound f true h = subst (λ (v : Bool). may_be (fact_in b f) v ≡ true) h (fact_inside places b s inside f)
  fact_sound f false h = subst (λ (v : Bool). may_be (fact_in b f) v ≡ true) (not-true (get_or s.facts f false) h) (fact_inside places b s inside f)

  all_sound : (cs : List ((c : GCond) × IsSound c)) → list_all (λ v. v) (map (holds places s) (map (λ e. e.0) cs)) ≡ true → list_all (λ v. v) (map (may_hold places b) (map (λ e. e.0) cs)) ≡ true
  all_sound [] h = refl
  all_sound (c ∷ cs) h =
      let parts = and_parts (holds places s c.0) _ h in
      and_from (may_hold places b c.0) _ (c.1 parts.0) (all_sound cs parts.1)

  any_sound : (cs : List ((c : GCond) × IsSound c)) → list_any (λ v. v) (map (holds places s) (map (λ e. e.0) cs)) ≡ true → list_any (λ v. v) (map (may_hold places b) (map (λ e. e.0) cs)) ≡ true
  any_sound [] h = cc
  any_sound (c ∷ cs) h =
      elim (or_cases (holds places s c.0) _ h) [
        | inl here ↦ or_left (may_hold places b c.0) _ (c.1 here)
        | inr later ↦ or_right (may_hold places b c.0) _ (any_sound cs later)
      ]

  layer_sound : (y : GCond-F ((c : GCond) × IsSound c)) →
      truths (map-GCond GCond Bool (holds places s) (map-GCond ((c : GCond) × IsSound c) GCond (λ e. e.0) y)) ≡ true →
      may_hold_layer places b (map-GCond GCond Bool (may_hold places b) (map-GCond ((c : GCond) × IsSound c) GCond (λ e. e.0) y)) ≡ true
  layer_sound cond.True h = refl
  layer_sound cond.False h = h
  layer_sound (cond.Fact f truth) h = fact_sound f truth h
  layer_sound (cond.Cmp r e1 e2) h =
      members_stand r (interval_of places b e1) (interval_of places b e2) (value_of places s e1) (value_of places s e2) (value_inside e1) (value_inside e2) h
  layer_sound (cond.And cs) h = all_sound cs h
  layer_sound (cond.Or cs) h = any_sound cs h

  pub holds_sound : (c : GCond) → holds places s c ≡ true → may_hold places b c ≡ true
  holds_sound = ind-GCond IsSound (λ x y is h.
      let at : truths (map-GCond GCond Bool (holds places s) x) ≡ true = sym (fold-roll-GCond Bool (truths) x) ∙ h in
      fold-roll-GCond Bool (may_hold_layer places b) x
      ∙ subst (λ (z : GCond-F GCond). truths (map-GCond GCond Bool (holds places s) z) ≡ true → may_hold_layer places b (map-GCond GCond Bool (may_hold places b) z) ≡ true) is (layer_sound y) at)
