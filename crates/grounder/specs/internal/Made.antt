-- The data of a task from the codes of its facts and fluents, its coded actions and its coded goal.
use Rattle.std.specs.Prelude.{ℕ, ◌≡◌, ◌<◌, ◌≤◌, List, length, map}
use Rattle.pddl_terms.specs.declared.limits.What.TheVariants as what
use Rattle.pddl_terms.specs.declared.limits.TheConstants.{MAX_FACTS, MAX_FLUENTS}
use Rattle.pddl_types.specs.declared.pairs.Pair.{Pair}
use Rattle.pddl_types.specs.WellFormed.{Stands}
use Rattle.static_facts.specs.Atoms.{text_of_atom}
use Rattle.static_facts.specs.Codes.{fact_code, fluent_code}
use Rattle.ground_task.specs.declared.raw.GCond.{GCond}
use Rattle.ground_task.specs.declared.raw.Ground.{Ground}
use Rattle.ground_task.specs.declared.raw.RawTask.{RawTask}
use Rattle.ground_task.specs.Placed.{IsPlaced}
use Rattle.ground_task.specs.Tasks.{AreFirstInRange, TaskValue}
use Rattle.coded_actions.specs.declared.coded.CodedAction.{CodedAction}
use Rattle.places.specs.declared.faults.PlacesFault.{PlacesFault}
use Rattle.places.specs.Least.{IsPlacesFault}
use Rattle.ground_meaning.specs.declared.faults.GroundFault.{GroundFault}
use Rattle.ground_meaning.specs.declared.faults.GroundFault.TheVariants as fault
use Rattle.ground_meaning.specs.Refusals.{IsGrounded, places_refusal}
use Rattle.ground_meaning.specs.Worlds.{StandsFor}
use Rattle.ground_meaning.specs.Tasks.{IsFact, IsFluent, first_true, first_value, numbered_action, numbered_condition}
use Rattle.ground_meaning.proofs.KeptAtoms.{IsCodeOf}
use Rattle.numbering.specs.Named.{IsRisingFrom, named_facts}
use Rattle.numbering.specs.Reached.{AreRelevant}
use Rattle.grounder.specs.internal.Decoded.{fact_of, fluent_of}

-- each is the code of a fact of the pair
abbrev pub AreFactCodes : Pair → List ℕ → Type 0
AreFactCodes p codes = (n : ℕ) → Stands n codes → IsCodeOf (IsFact p) (fact_code p) n

-- each is the code of a fluent of the pair
abbrev pub AreFluentCodes : Pair → List ℕ → Type 0
AreFluentCodes p codes = (n : ℕ) → Stands n codes → IsCodeOf (IsFluent p) (fluent_code p) n

-- the codes of the facts and the fluents of a task, no more than may be
pub record AreCodesOf (actions : List Ground) (goal : GCond) (facts fluents : List ℕ) : Type 0 where
  pub are_facts : IsRisingFrom (named_facts actions goal) facts
  pub are_fluents : AreRelevant actions goal fluents
  pub few_facts : length facts ≤ MAX_FACTS
  pub few_fluents : length fluents ≤ MAX_FLUENTS

-- why they are too many
pub data IsCodesFault (actions : List Ground) (goal : GCond) : GroundFault → Type 0 where
  many_facts : (facts : List ℕ) → IsRisingFrom (named_facts actions goal) facts → MAX_FACTS < length facts
      → IsCodesFault actions goal (fault.TooMany what.Facts MAX_FACTS)
  many_fluents : (facts fluents : List ℕ) → IsRisingFrom (named_facts actions goal) facts → length facts ≤ MAX_FACTS → AreRelevant actions goal fluents
      → MAX_FLUENTS < length fluents → IsCodesFault actions goal (fault.TooMany what.Fluents MAX_FLUENTS)
  by_memory : IsCodesFault actions goal fault.NoMemory

pub record IsMadeOf (p : Pair) (facts fluents : List ℕ) (actions : List Ground) (goal : GCond) (raw : RawTask) : Type 0 where
  pub fact_texts : raw.facts ≡ map (λ n. text_of_atom (fact_of p n)) facts
  pub fluent_texts : raw.fluents ≡ map (λ n. text_of_atom (fluent_of p n)) fluents
  pub true_facts : raw.true_facts ≡ first_true p (map (fact_of p) facts)
  pub values : raw.values ≡ map (λ n. first_value p (fluent_of p n)) fluents
  pub by_number : raw.actions ≡ map (numbered_action facts fluents) actions
  pub is_goal : raw.goal ≡ numbered_condition facts fluents goal

-- the data's fluents and actions have the texts of these
pub record AreNamedBy (p : Pair) (fluents : List ℕ) (actions : List CodedAction) (raw : RawTask) : Type 0 where
  pub fluent_texts : raw.fluents ≡ map (λ n. text_of_atom (fluent_of p n)) fluents
  pub action_texts : map (λ a. a.name) raw.actions ≡ map (λ a. a.name) actions

-- a refusal for places; nothing is said where memory is wanting
pub data IsPlacesRefusal (raw : RawTask) : GroundFault → Type 0 where
  refused : (f : PlacesFault) → IsPlacesFault raw f → IsPlacesRefusal raw (places_refusal raw f)
  by_memory : IsPlacesRefusal raw fault.NoMemory

-- the task of the pair, which stands for it
pub record IsTaskOf (p : Pair) (t : TaskValue) : Type 0 where
  pub grounded : IsGrounded p t
  pub stands : StandsFor p t
  pub placed : IsPlaced t.raw t.places
  pub in_range : AreFirstInRange t.places t.raw.values (length t.raw.fluents)
