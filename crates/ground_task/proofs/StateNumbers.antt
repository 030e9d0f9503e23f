-- Where the places suffice, the initial state and the next one are those by numbers, and no others.
use Rattle.std.proofs.Common.{◌≡◌, ℕ, zero, suc, ℤ, pos, false, Bool, List, [], ◌∷◌, length, slice_get, slice_index_or, Some, All, sym, ap, ap₂, ◌∙◌, subst, arith}
use Rattle.std.specs.Prelude.{IsTrue}
use Rattle.std.proofs.lemmas.List.Elements.{All-head, All-tail}
use Rattle.std.proofs.lemmas.List.FromFn.{length-map-range_with_len, get_or-map-range_with_len, fill_by_all}
use Rattle.num_ends.specs.Decimal.{origin}
use Rattle.ground_task.specs.declared.raw.Ground.{Ground}
use Rattle.ground_task.specs.declared.raw.RawTask.{RawTask}
use Rattle.ground_task.specs.Meaning.{holds}
use Rattle.ground_task.specs.Placed.{IsPlaced, IsPlacedAction}
use Rattle.ground_task.specs.States.{StateValue}
use Rattle.ground_task.specs.Steps.{change_of, changed_fact, changed_value, next_number, next_state, Leads, StepLeads}
use Rattle.ground_task.specs.Tasks.{TaskValue, first_number, first_state, is_listed, IsInitialState, IsStateOf, IsTask}
use Rattle.ground_task.proofs.FirstState.{facts_of_first, fact_of_first, value_of_first, values_of_first}
use Rattle.ground_task.proofs.Numbers.{same_number, same_value, same_trimmed_number, same_trimmed_value}
use Rattle.ground_task.proofs.Places.{places_of_change}

-- ---- the initial state

pub first_is_initial : (t : TaskValue) → IsPlaced t.raw t.places → IsInitialState t (first_state t.raw t.places)
first_is_initial t placed =
    record {
      sizes = record { a_truth_each = facts_of_first t.raw t.places; a_number_each = values_of_first t.raw t.places };
      facts = λ f known. fact_of_first t.raw t.places f known;
      values = λ x known. same_trimmed_value (slice_index_or t.places x 0) _ (slice_index_or t.raw.values x origin) (placed.values_fit x known) (value_of_first t.raw t.places x known);
    }

pub initial_is_first : (t : TaskValue) (s : StateValue) → IsPlaced t.raw t.places → IsInitialState t s → s ≡ first_state t.raw t.places
initial_is_first t s placed initial =
    ap₂ (λ (facts : List Bool) (values : List ℤ). record { facts = facts; values = values })
    (fill_by_all (is_listed t.raw.true_facts) s.facts (length t.raw.facts) false initial.sizes.a_truth_each initial.facts)
    (fill_by_all (first_number t.places t.raw.values) s.values (length t.raw.fluents) (pos 0) initial.sizes.a_number_each
    (λ x known. same_trimmed_number (slice_index_or t.places x 0) _ (slice_index_or t.raw.values x origin) (placed.values_fit x known) (initial.values x known)))

-- what a task keeps as its first state
pub first_kept : (raw : RawTask) (places : List ℕ) (first : StateValue) → IsTask raw places first → IsInitialState (record { raw = raw; places = places }) first
first_kept raw places first kept =
    let t : TaskValue = record { raw = raw; places = places } in
    subst (IsInitialState t) (sym kept.is_first) (first_is_initial t kept.placed)

-- ---- the next state

pub leads_to_next : (places : List ℕ) (s next : StateValue) (a : Ground) → IsPlacedAction places a → Leads places s a next → next ≡ next_state places s a
leads_to_next places s next a placed leads =
    ap₂ (λ (facts : List Bool) (values : List ℤ). record { facts = facts; values = values })
    (fill_by_all (changed_fact s a) next.facts (length s.facts) false leads.as_many_facts leads.facts)
    (fill_by_all (next_number places s a) next.values (length s.values) (pos 0) leads.as_many_values
    (λ x known. same_number (slice_index_or places x 0) _ (changed_value places s x (change_of x a.nums)) (places_of_change places s x a.nums placed.changes_fit) (leads.values x known)))

pub next_is_led : (places : List ℕ) (s : StateValue) (a : Ground) → IsPlacedAction places a → IsTrue (holds places s a.pre) → Leads places s a (next_state places s a)
next_is_led places s a placed applies =
    record {
      applies = applies;
      as_many_facts = length-map-range_with_len (changed_fact s a) 0 (length s.facts);
      facts = λ f known. get_or-map-range_with_len (changed_fact s a) 0 (length s.facts) f f false known (omega arith);
      as_many_values = length-map-range_with_len (next_number places s a) 0 (length s.values);
      values = λ x known. same_value (slice_index_or places x 0) _ (changed_value places s x (change_of x a.nums)) (places_of_change places s x a.nums placed.changes_fit)
          (get_or-map-range_with_len (next_number places s a) 0 (length s.values) x x (pos 0) known (omega arith));
    }

-- ---- steps of a task

some_same : {A : Type 0} (x y : A) → Some x ≡ Some y → x ≡ y
some_same x y e = cc

-- an item of a list of which all have a property
pub found : {X : Type 0} (P : X → Type 0) (xs : List X) (n : ℕ) (x : X) → All P xs → slice_get xs n ≡ Some x → P x
found P [] n x all e = cc
found P (y ∷ ys) zero x all e = subst P (some_same y x e) (All-head P y ys all)
found P (y ∷ ys) (suc n) x all e = found P ys n x (All-tail P y ys all) e

pub step_is_made : (t : TaskValue) (s : StateValue) (number : ℕ) (a : Ground) → IsPlaced t.raw t.places → slice_get t.raw.actions number ≡ Some a → IsTrue (holds t.places s a.pre) → StepLeads t number s (next_state t.places s a)
step_is_made t s number a placed at applies =
    (a, at, next_is_led t.places s a (found (IsPlacedAction t.places) t.raw.actions number a placed.placed_actions at) applies)

pub step_is_next : (t : TaskValue) (s next : StateValue) (number : ℕ) (a : Ground) → IsPlaced t.raw t.places → slice_get t.raw.actions number ≡ Some a → StepLeads t number s next → IsTrue (holds t.places s a.pre) × (next ≡ next_state t.places s a)
step_is_next t s next number a placed at (b, at_b, leads) =
    let same : b ≡ a = some_same b a (sym at_b ∙ at) in (
      subst (λ (g : Ground). IsTrue (holds t.places s g.pre)) same leads.applies,
      leads_to_next t.places s next b (found (IsPlacedAction t.places) t.raw.actions number b placed.placed_actions at_b) leads ∙ ap (next_state t.places s) same,
    )

pub step_keeps_sizes : (t : TaskValue) (s next : StateValue) (number : ℕ) → IsStateOf t s → StepLeads t number s next → IsStateOf t next
step_keeps_sizes t s next number sizes (a, at, leads) =
    record { a_truth_each = leads.as_many_facts ∙ sizes.a_truth_each; a_number_each = leads.as_many_values ∙ sizes.a_number_each }
