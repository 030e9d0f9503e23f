-- Why a pair is refused before its task has facts and fluents.
use Rattle.std.proofs.Common.{◌<◌, ◌≤◌, ℕ, List, length}
use Rattle.pddl_terms.specs.declared.limits.TheConstants.{MAX_FACTS, MAX_FLUENTS, MAX_OBJECTS}
use Rattle.pddl_terms.specs.declared.limits.What.TheVariants as what
use Rattle.pddl_types.specs.declared.pairs.Pair.{Pair}
use Rattle.pddl_types.specs.Pairs.{objects_of}
use Rattle.ground_task.specs.declared.raw.GCond.{GCond}
use Rattle.ground_task.specs.declared.raw.Ground.{Ground}
use Rattle.coded_actions.specs.declared.coded.CodedAction.{CodedAction}
use Rattle.ground_meaning.specs.declared.faults.GroundFault.{GroundFault}
use Rattle.ground_meaning.specs.declared.faults.GroundFault.TheVariants as fault
use Rattle.ground_meaning.specs.Goals.{AreBound}
use Rattle.ground_meaning.specs.Refusals.{IsRefused}
use Rattle.folded_terms.specs.Goals.{IsGoalFault}
use Rattle.numbering.specs.Named.{IsRisingFrom, named_facts}
use Rattle.numbering.specs.Reached.{AreRelevant}
use Rattle.grounder.specs.internal.Made.{AreCodesOf, IsCodesFault}
use Rattle.grounder.specs.internal.Taken.{AreKept, IsBindingFault}

pub binding_refused : (p : Pair) (f : GroundFault) → length (objects_of p) ≤ MAX_OBJECTS → IsBindingFault p f → IsRefused p f
binding_refused p f few (IsBindingFault.refused g h) = IsRefused.by_binding f few h
binding_refused p f few IsBindingFault.by_memory = IsRefused.by_memory

pub goal_refused : (p : Pair) (actions : List CodedAction) (f : GroundFault) → length (objects_of p) ≤ MAX_OBJECTS → AreKept p actions → IsGoalFault p f → IsRefused p f
goal_refused p actions f few kept h = of_fault f h
  where
    bound : AreBound p
    bound = record { few_objects = few; none_refused = kept.none_refused }

    of_fault : (g : GroundFault) → IsGoalFault p g → IsRefused p g
    of_fault g (IsGoalFault.unset text e) = IsRefused.by_goal text bound e
    of_fault g (IsGoalFault.unfolded fold all_set e) = IsRefused.by_folding fold bound all_set e
    of_fault g IsGoalFault.by_memory = IsRefused.by_memory

pub memory_refused : (p : Pair) → IsRefused p fault.NoMemory
memory_refused p = IsRefused.by_memory

pub objects_refused : (p : Pair) → MAX_OBJECTS < length (objects_of p) → IsRefused p (fault.TooMany what.Objects MAX_OBJECTS)
objects_refused p many = IsRefused.by_objects many

-- ---- facts and fluents that are too many

pub memory_codes : (actions : List Ground) (goal : GCond) → IsCodesFault actions goal fault.NoMemory
memory_codes actions goal = IsCodesFault.by_memory

pub facts_too_many : (actions : List Ground) (goal : GCond) (facts : List ℕ) → IsRisingFrom (named_facts actions goal) facts → MAX_FACTS < length facts
    → IsCodesFault actions goal (fault.TooMany what.Facts MAX_FACTS)
facts_too_many actions goal facts rising many = IsCodesFault.many_facts facts rising many

pub fluents_too_many : (actions : List Ground) (goal : GCond) (facts fluents : List ℕ) → IsRisingFrom (named_facts actions goal) facts → length facts ≤ MAX_FACTS
    → AreRelevant actions goal fluents → MAX_FLUENTS < length fluents → IsCodesFault actions goal (fault.TooMany what.Fluents MAX_FLUENTS)
fluents_too_many actions goal facts fluents rising few relevant many = IsCodesFault.many_fluents facts fluents rising few relevant many

pub codes_found : (actions : List Ground) (goal : GCond) (facts fluents : List ℕ) → IsRisingFrom (named_facts actions goal) facts → length facts ≤ MAX_FACTS
    → AreRelevant actions goal fluents → length fluents ≤ MAX_FLUENTS → AreCodesOf actions goal facts fluents
codes_found actions goal facts fluents rising few relevant some = record { are_facts = rising; are_fluents = relevant; few_facts = few; few_fluents = some }
