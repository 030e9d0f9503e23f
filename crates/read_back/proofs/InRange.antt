-- Steps within the range lead to states of the task whose numbers are in range.
use Rattle.std.proofs.Common.{◌≡◌, ℕ, ◌<◌, ◌≤◌, ◌&&◌, ◌==◌, max, pos, Bool, true, false, not, List, [], ◌∷◌, Option, Some, None, All, length, slice_get, slice_index_or, refl, sym, ap, ◌∙◌, subst, arith, inl, inr, eqb-true, if◌then◌else◌}
use Rattle.std.specs.Option.{option_map_or}
use Rattle.std.proofs.lemmas.Bool.{and_parts, cases_Bool}
use Rattle.std.proofs.lemmas.List.Elements.{All-head, All-tail}
use Rattle.std.proofs.lemmas.List.FromFn.{get_or-map-range_with_len, length-map-range_with_len}
use Rattle.std.proofs.lemmas.Option.{get_or_from_slice_get, slice_get_within}
use Rattle.num_ends.specs.Decimal.{Decimal, InRange, number_at, sum_of}
use Rattle.num_ends.specs.Range.{in_range, operands_fit}
use Rattle.num_ends.proofs.DecimalOrder.{no_place_more}
use Rattle.ground_task.proofs.Bounded.{bounded_places, value_bounded}
use Rattle.ground_task.proofs.Ranges.{range_tested}
use Rattle.ground_task.specs.Meaning.{fluent_value, holds, value_of}
use Rattle.ground_task.specs.Placed.{IsPlaced, IsPlacedAction, places_of}
use Rattle.ground_task.specs.Ranged.{are_effects_in_bounds, is_change_in_bounds, is_in_bounds, literals_true, ranged_action, ranged_step, ranged_value}
use Rattle.ground_task.specs.States.{StateValue}
use Rattle.ground_task.specs.Steps.{change_of, changed_value, next_number, next_state}
use Rattle.ground_task.specs.Tasks.{TaskValue}
use Rattle.ground_task.specs.Valid.{right_side}
use Rattle.ground_task.specs.declared.answers.Applied.TheVariants as step
use Rattle.ground_task.specs.declared.raw.Change.{Change}
use Rattle.ground_task.specs.declared.raw.Change.TheVariants.{Add, Set}
use Rattle.ground_task.specs.declared.raw.Ground.{Ground}

-- ---- one change

module _ (places : List ℕ) (s : StateValue) where
  abbrev q : ℕ → ℕ
  q x = slice_index_or places x 0

  larger : (p k : ℕ) → p ≤ k → max k p ≡ k
  larger p k few = omega (arith, few)

  change_ranged : (x : ℕ) (change : Change) → places_of places (right_side change) ≤ q x → is_change_in_bounds places s x change ≡ true
      → InRange (number_at (q x) (changed_value places s x (Some change)))
  change_ranged x (Add e) few within = by (ranged_value places s e) refl within
    where
      by : (found : Option Decimal) → ranged_value places s e ≡ found
          → option_map_or (λ d. operands_fit (fluent_value places s x) d && in_range (sum_of (fluent_value places s x) d).n) found false ≡ true
          → InRange (number_at (q x) (sum_of (fluent_value places s x) (value_of places s e)))
      by None value h = cc
      by (Some v) value h =
          let f : Decimal = fluent_value places s x in
          let fits = range_tested (sum_of f v).n (and_parts (operands_fit f v) (in_range (sum_of f v).n) h).1 in
          let at : (sum_of f v).p ≡ q x = larger v.p (q x) (omega (arith, bounded_places places s e v value, few)) in
          subst InRange (sym (ap (λ (d : Decimal). number_at (q x) (sum_of f d)) (value_bounded places s e v value) ∙ no_place_more (q x) (sum_of f v) at)) fits
  change_ranged x (Set e) few within = by (ranged_value places s e) refl within
    where
      by : (found : Option Decimal) → ranged_value places s e ≡ found → option_map_or (λ d. in_range (number_at (q x) d)) found false ≡ true
          → InRange (number_at (q x) (value_of places s e))
      by None value h = cc
      by (Some v) value h =
          subst (λ (d : Decimal). InRange (number_at (q x) d)) (sym (value_bounded places s e v value)) (range_tested (number_at (q x) v) h)

  abbrev HasPlacesFor : ℕ × Change → Type 0
  HasPlacesFor effect = places_of places (right_side effect.1) ≤ q effect.0

  -- ---- the changes of an action

  changes_ranged : (x : ℕ) (effects : List (ℕ × Change)) → InRange (slice_index_or s.values x (pos 0)) → are_effects_in_bounds places s effects ≡ true
      → All HasPlacesFor effects → InRange (number_at (q x) (changed_value places s x (change_of x effects)))
  changes_ranged x [] fits within few = subst InRange (sym (no_place_more (q x) (fluent_value places s x) refl)) fits
  changes_ranged x (effect ∷ effects) fits within few =
      let both = and_parts (is_change_in_bounds places s effect.0 effect.1) (are_effects_in_bounds places s effects) within in
      elim (cases_Bool (effect.0 == x)) [
        | inl e ↦
            let same : effect.0 ≡ x = eqb-true effect.0 x e in
            rw e (change_ranged x effect.1
            (subst (λ (y : ℕ). places_of places (right_side effect.1) ≤ q y) same (All-head HasPlacesFor effect effects few))
            (subst (λ (y : ℕ). is_change_in_bounds places s y effect.1 ≡ true) same both.0))
        | inr e ↦ rw e (changes_ranged x effects fits both.1 (All-tail HasPlacesFor effect effects few))
      ]

  values_ranged : (a : Ground) → All InRange s.values → are_effects_in_bounds places s a.nums ≡ true → IsPlacedAction places a → All InRange (next_state places s a).values
  values_ranged a fits within placed = λ x d below.
      let known : x < length s.values = omega (arith, length-map-range_with_len (next_number places s a) 0 (length s.values)) in
      let number = get_or-map-range_with_len (next_number places s a) 0 (length s.values) x x d known (omega arith) in
      rw number (changes_ranged x a.nums (fits x (pos 0) known) within placed.changes_fit)

-- ---- steps

where_next : (l f t e : Bool) (made next : StateValue)
    → (if not l then step.Blocked
    else (if not f then step.Over
    else (if not t then step.Blocked
    else (if not e then step.Over
    else step.Next made)))) ≡ step.Next next → (e ≡ true) × (made ≡ next)
where_next false f t e made next h = cc
where_next true false t e made next h = cc
where_next true true false e made next h = cc
where_next true true true false made next h = cc
where_next true true true true made next h = (refl, cc)

action_ranged : (places : List ℕ) (s : StateValue) (a : Ground) (next : StateValue) → ranged_action places s a ≡ step.Next next
    → (are_effects_in_bounds places s a.nums ≡ true) × (next_state places s a ≡ next)
unfolding ranged_action
action_ranged places s a next h =
    where_next (literals_true s a.pre) (is_in_bounds places s a.pre) (holds places s a.pre) (are_effects_in_bounds places s a.nums) (next_state places s a) next h

-- a step from numbers in range leads to such numbers
pub next_ranged : (t : TaskValue) (s next : StateValue) (number : ℕ) → IsPlaced t.raw t.places → ranged_step t s number ≡ step.Next next
    → All InRange s.values → All InRange next.values
next_ranged t s next number placed h fits = by (slice_get t.raw.actions number) refl h
  where
    by : (found : Option Ground) → slice_get t.raw.actions number ≡ found → option_map_or (ranged_action t.places s) found step.Blocked ≡ step.Next next
        → All InRange next.values
    by None at is = cc
    by (Some a) at is =
        let parts = action_ranged t.places s a next is in
        let own : IsPlacedAction t.places a =
        subst (IsPlacedAction t.places) (get_or_from_slice_get t.raw.actions number a a at)
        (placed.placed_actions number a (slice_get_within t.raw.actions number a at)) in
        subst (λ (u : StateValue). All InRange u.values) parts.1 (values_ranged t.places s a fits parts.0 own)
