-- Why a pair has no ground task: the first reason in a fixed order.
use Rattle.std.specs.Prelude.{ℕ, ◌≡◌, ◌<◌, ◌≤◌, List, [], Some, None, codes, length, slice_get, slice_index_or, Err}
use Rattle.std.specs.Option.{option_map_or}
use Rattle.pddl_terms.specs.declared.limits.What.TheVariants as what
use Rattle.pddl_terms.specs.declared.limits.TheConstants.{MAX_FACTS, MAX_FLUENTS, MAX_OBJECTS}
use Rattle.pddl_types.specs.declared.faults.Side.TheVariants as side
use Rattle.pddl_types.specs.declared.pairs.Pair.{Pair}
use Rattle.pddl_types.specs.Pairs.{objects_of}
use Rattle.static_facts.specs.Codes.{fact_code, fluent_code}
use Rattle.ground_task.specs.declared.raw.RawTask.{RawTask}
use Rattle.ground_task.specs.Tasks.{TaskValue}
use Rattle.places.specs.declared.faults.PlacesFault.{PlacesFault}
use Rattle.places.specs.declared.faults.PlacesFault.TheVariants as places_fault
use Rattle.places.specs.Least.{IsLeastPlaces, IsPlacesFault}
use Rattle.ground_meaning.specs.declared.faults.GroundFault.{GroundFault}
use Rattle.ground_meaning.specs.declared.faults.GroundFault.TheVariants as fault
use Rattle.ground_meaning.specs.Expressions.{FoldFault}
use Rattle.ground_meaning.specs.Conditions.{Settled}
use Rattle.ground_meaning.specs.Outcomes.{first_refused, fold_refusal, outcomes}
use Rattle.ground_meaning.specs.Goals.{AreBound, IsFolded, folded_goal, unset_in_goal}
use Rattle.ground_meaning.specs.Tasks.{AreAllOf, IsFact, IsFluent, IsGroundTask, IsRelevant, IsTaskFact}

-- ---- refusals for places

-- the text that a refusal for places names
abbrev pub places_refusal : RawTask → PlacesFault → GroundFault
places_refusal raw (places_fault.Fluent x) = fault.Places (slice_index_or raw.fluents x [])
places_refusal raw (places_fault.Action number) = fault.Places (option_map_or (λ a. a.name) (slice_get raw.actions number) [])
places_refusal raw places_fault.Goal = fault.Places (codes "goal")
places_refusal raw (places_fault.Range x) = fault.Range (slice_index_or raw.fluents x [])
places_refusal raw places_fault.NoMemory = fault.NoMemory

-- ---- refused or accepted

-- each reason comes where none of those before it applies; only want of memory may come at any time
pub data IsRefused (p : Pair) : GroundFault → Type 0 where
  by_objects : MAX_OBJECTS < length (objects_of p) → IsRefused p (fault.TooMany what.Objects MAX_OBJECTS)
  by_binding : (f : GroundFault) → length (objects_of p) ≤ MAX_OBJECTS → first_refused 0 (outcomes p) ≡ Some f → IsRefused p f
  by_goal : (text : List ℕ) → AreBound p → unset_in_goal p ≡ Some text → IsRefused p (fault.Unset text)
  by_folding : (f : FoldFault) → AreBound p → unset_in_goal p ≡ None → folded_goal p ≡ Err f → IsRefused p (fold_refusal side.Problem (codes "goal") f)
  by_facts : (goal : Settled) (facts : List (List (List ℕ))) → IsFolded p goal → AreAllOf (IsFact p) (fact_code p) (IsTaskFact p goal) facts
      → MAX_FACTS < length facts → IsRefused p (fault.TooMany what.Facts MAX_FACTS)
  by_fluents : (goal : Settled) (facts fluents : List (List (List ℕ))) → IsFolded p goal → AreAllOf (IsFact p) (fact_code p) (IsTaskFact p goal) facts
      → AreAllOf (IsFluent p) (fluent_code p) (IsRelevant p goal) fluents → length facts ≤ MAX_FACTS → MAX_FLUENTS < length fluents
      → IsRefused p (fault.TooMany what.Fluents MAX_FLUENTS)
  by_places : (raw : RawTask) (f : PlacesFault) → IsGroundTask p raw → IsPlacesFault raw f → IsRefused p (places_refusal raw f)
  by_memory : IsRefused p fault.NoMemory

-- the task of the pair, with the least places, cut at 10; that they suffice is said by `IsWholeTask`
pub record IsGrounded (p : Pair) (t : TaskValue) : Type 0 where
  pub task : IsGroundTask p t.raw
  pub places : IsLeastPlaces t.raw t.places
