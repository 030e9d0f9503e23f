-- When a world stands at a state of a task, and when a task stands for a pair.
use Rattle.std.specs.Prelude.{ℕ, ◌≡◌, ◌<◌, List, [], ◌∷◌, Some, IsTrue, length, slice_get, slice_index_or}
use Rattle.std.specs.List.{list_all}
use Rattle.std.specs.FinSet as set
use Rattle.std.specs.FinMap as finite
use Rattle.num_ends.specs.Decimal.{trimmed}
use Rattle.num_ends.specs.Names.{is_name}
use Rattle.pddl_types.specs.declared.pairs.Pair.{Pair}
use Rattle.static_facts.specs.Atoms.{text_of_atom}
use Rattle.static_facts.specs.Fixed.{is_fixed_function, is_fixed_predicate}
use Rattle.pddl_meaning.specs.Worlds.{WorldValue, initial_world}
use Rattle.pddl_meaning.specs.Truth.{goal_holds}
use Rattle.pddl_meaning.specs.Steps.{IsStep}
use Rattle.ground_task.specs.declared.raw.Ground.{Ground}
use Rattle.ground_task.specs.States.{StateValue}
use Rattle.ground_task.specs.Meaning.{fact_value, fluent_value, holds}
use Rattle.ground_task.specs.Tasks.{TaskValue, IsInitialState, IsStateOf}
use Rattle.ground_task.specs.Steps.{StepLeads}

-- the first of these names and the others are names
abbrev pub AreNames : List (List ℕ) → Type 0
AreNames x = IsTrue (list_all is_name x)

-- a world in which nothing that is fixed differs from the initial world, and the same fluents have values
pub record IsLike (p : Pair) (w : WorldValue) : Type 0 where
  pub fixed_facts : (head : List ℕ) (objects : List (List ℕ)) → AreNames (head ∷ objects) → IsTrue (is_fixed_predicate p head)
      → set.contains w.facts (text_of_atom (head ∷ objects)) ≡ set.contains (initial_world p).facts (text_of_atom (head ∷ objects))
  pub fixed_values : (head : List ℕ) (objects : List (List ℕ)) → AreNames (head ∷ objects) → IsTrue (is_fixed_function p head)
      → finite.get w.values (text_of_atom (head ∷ objects)) ≡ finite.get (initial_world p).values (text_of_atom (head ∷ objects))
  pub defined : (x : List ℕ) → finite.contains_key w.values x ≡ finite.contains_key (initial_world p).values x

-- such a world, in which each fact and each fluent of the task has the value that it has in the state
pub record StandsAt (p : Pair) (t : TaskValue) (w : WorldValue) (st : StateValue) : Type 0 where
  pub like : IsLike p w
  pub sizes : IsStateOf t st
  pub facts : (f : ℕ) → f < length t.raw.facts → set.contains w.facts (slice_index_or t.raw.facts f []) ≡ fact_value st f
  pub fluents : (x : ℕ) → x < length t.raw.fluents → finite.get w.values (slice_index_or t.raw.fluents x []) ≡ Some (trimmed (fluent_value t.places st x))

-- the task's action of this number is that of a name and objects
abbrev pub IsNamed : TaskValue → ℕ → List ℕ → List (List ℕ) → Type 0
IsNamed t number name objects = (a : Ground) × (slice_get t.raw.actions number ≡ Some a) × (a.name ≡ text_of_atom (name ∷ objects))

-- an action of the task leads from a state where an action of the pair leads from each world at it, and to the state at which that world stands
pub record StandsFor (p : Pair) (t : TaskValue) : Type 0 where
  pub first : (st : StateValue) → IsInitialState t st → StandsAt p t (initial_world p) st
  pub forward : (w : WorldValue) (st : StateValue) (name : List ℕ) (objects : List (List ℕ)) (next : WorldValue) → StandsAt p t w st → IsStep p w name objects next
      → (number : ℕ) × (after : StateValue) × IsNamed t number name objects × StepLeads t number st after × StandsAt p t next after
  pub back : (w : WorldValue) (st : StateValue) (number : ℕ) (after : StateValue) → StandsAt p t w st → StepLeads t number st after
      → (name : List ℕ) × (objects : List (List ℕ)) × (next : WorldValue) × IsNamed t number name objects × IsStep p w name objects next × StandsAt p t next after
  pub goal : (w : WorldValue) (st : StateValue) → StandsAt p t w st → goal_holds p w ≡ holds t.places st t.raw.goal
