-- The step of a ground action on states with values of no bounds, and plans (PDDL 2.1, Fox and Long 2003).
use Rattle.std.specs.Prelude.{ℕ, ◌≡◌, ◌<◌, ◌==◌, ◌||◌, ◌&&◌, not, List, [], ◌∷◌, ℤ, Option, Some, None, IsTrue, length, map, slice_get, slice_index_or, Bool, if◌then◌else◌}
use Rattle.std.specs.List.{list_any, range_with_len}
use Rattle.num_ends.specs.Decimal.{Decimal, is_same_value, number_at, sum_of}
use Rattle.ground_task.specs.declared.raw.Change.{Change}
use Rattle.ground_task.specs.declared.raw.Change.TheVariants.{Add, Set}
use Rattle.ground_task.specs.declared.raw.Ground.{Ground}
use Rattle.ground_task.specs.States.{StateValue}
use Rattle.ground_task.specs.Meaning.{fact_value, fluent_value, holds, value_of}
use Rattle.ground_task.specs.Tasks.{TaskValue, IsInitialState}

-- ---- the step

-- the change that a list of numeric effects makes of a fluent, where it makes one
abbrev pub change_of : ℕ → List (ℕ × Change) → Option Change
change_of x [] = None
change_of x (effect ∷ effects) = if effect.0 == x then Some effect.1 else change_of x effects

-- a fluent's value after a change, with the right-hand side taken in the old state
abbrev pub changed_value : List ℕ → StateValue → ℕ → Option Change → Decimal
changed_value places s x None = fluent_value places s x
changed_value places s x (Some (Add e)) = sum_of (fluent_value places s x) (value_of places s e)
changed_value places s x (Some (Set e)) = value_of places s e

-- a fact after an action: what it adds is true, and else what it deletes is false
abbrev pub changed_fact : StateValue → Ground → ℕ → Bool
changed_fact s a f =
    list_any (λ g. g == f) a.adds
    || (fact_value s f && not (list_any (λ g. g == f) a.dels))

-- the action leads from the one state to the other, all its effects at once
pub record Leads (places : List ℕ) (s : StateValue) (a : Ground) (next : StateValue) : Type 0 where
  pub applies : IsTrue (holds places s a.pre)
  pub as_many_facts : length next.facts ≡ length s.facts
  pub facts : (f : ℕ) → f < length s.facts → fact_value next f ≡ changed_fact s a f
  pub as_many_values : length next.values ≡ length s.values
  pub values : (x : ℕ) → x < length s.values → IsTrue (is_same_value (fluent_value places next x) (changed_value places s x (change_of x a.nums)))

-- the action of this number leads from the one state to the other
abbrev pub StepLeads : TaskValue → ℕ → StateValue → StateValue → Type 0
StepLeads t number s next =
    (a : Ground) × (slice_get t.raw.actions number ≡ Some a) × Leads t.places s a next

-- ---- plans

-- the actions, one after another, lead from the one state to the other
abbrev pub PlanLeads : TaskValue → List ℕ → StateValue → StateValue → Type 0
PlanLeads t [] s last = s ≡ last
PlanLeads t (number ∷ numbers) s last =
    (next : StateValue) × StepLeads t number s next × PlanLeads t numbers next last

-- the actions lead from the state to one in which the goal holds
abbrev pub IsPlanFrom : TaskValue → StateValue → List ℕ → Type 0
IsPlanFrom t s numbers =
    (last : StateValue) × PlanLeads t numbers s last × IsTrue (holds t.places last t.raw.goal)

-- a plan of the task
abbrev pub IsTaskPlan : TaskValue → List ℕ → Type 0
IsTaskPlan t numbers = (s : StateValue) × IsInitialState t s × IsPlanFrom t s numbers

-- ---- the next state by its numbers

-- the number, at a fluent's places, of its value after an action
abbrev pub next_number : List ℕ → StateValue → Ground → ℕ → ℤ
next_number places s a x =
    number_at (slice_index_or places x 0) (changed_value places s x (change_of x a.nums))

-- the state after an action
abbrev pub next_state : List ℕ → StateValue → Ground → StateValue
next_state places s a =
    record {
      facts = map (changed_fact s a) (range_with_len 0 (length s.facts));
      values = map (next_number places s a) (range_with_len 0 (length s.values));
    }
