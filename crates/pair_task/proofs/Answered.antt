-- From what was found to a task of the texts, or to a fault.
use Rattle.std.proofs.Common.{◌≡◌, ℕ, List, Option, None, Some, Result, Ok, Err, IfErr, IfOk, length, refl, sym, subst}
use Rattle.std.specs.Option.{option_map_or}
use Rattle.ground_meaning.specs.Answers.{IsWholeTask}
use Rattle.ground_meaning.specs.Refusals.{IsGrounded, IsRefused}
use Rattle.ground_meaning.specs.declared.faults.GroundFault.{GroundFault}
use Rattle.ground_task.specs.Placed.{IsPlaced}
use Rattle.ground_task.specs.Tasks.{AreFirstInRange, TaskValue}
use Rattle.ground_text.specs.Refusals.{grounding_refusal}
use Rattle.pair_text.specs.Reasons.{IsAcceptedPair, IsPairFault as IsTextFault}
use Rattle.pair_text.specs.declared.refusals.PairFault.{PairFault}
use Rattle.pair_text.specs.declared.refusals.PairFault.TheVariants as fault
use Rattle.pair_text.specs.declared.refusals.Refusal.{Refusal}
use Rattle.pddl_types.specs.declared.pairs.Pair.{Pair}
use Rattle.pair_task.specs.Faults.{IsPairFault, IsTaskFault}
use Rattle.pair_task.specs.Refusals.{IsFault, IsGroundingFault, IsGroundingRefusal, IsRefusal}
use Rattle.pair_task.specs.Tasks.{IsWholeTaskOf}

-- ---- a pair

pub whole_task : (pair : Pair) (t : TaskValue) → IsGrounded pair t → IsPlaced t.raw t.places × AreFirstInRange t.places t.raw.values (length t.raw.fluents) → IsWholeTask pair t
whole_task pair t grounded suffices = record { grounded = grounded; placed = suffices.0; in_range = suffices.1 }

-- a reason against the ground task of a pair
pub of_grounding : (domain problem : List ℕ) (pair : Pair) (f : GroundFault) → IsRefused pair f → IsPairFault domain problem pair (option_map_or fault.Refused (grounding_refusal domain problem f) fault.NoMemory)
of_grounding domain problem pair f refused = at (grounding_refusal domain problem f) refl
  where
    at : (told : Option Refusal) → grounding_refusal domain problem f ≡ told → IsPairFault domain problem pair (option_map_or fault.Refused told fault.NoMemory)
    at None is = tt
    at (Some r) is = (f, refused, is)

-- ---- two texts

-- a reason against the texts
pub of_texts : (domain problem : List ℕ) (f : PairFault) → IsTextFault domain problem f → IsGroundingFault domain problem f
of_texts domain problem (fault.Refused r) is = IsGroundingRefusal.reason r is
of_texts domain problem fault.NoMemory is = tt

-- the task of the pair that they spell
pub of_accepted : {E : Type 0} (domain problem : List ℕ) (pair : Pair) (result : Result TaskValue E) → IsAcceptedPair domain problem pair → IfOk result (IsWholeTask pair) → IfOk result (IsWholeTaskOf domain problem)
of_accepted domain problem pair (Err e) accepted is = tt
of_accepted domain problem pair (Ok task) accepted is = record { pair = pair; accepted = accepted; whole = is }

-- a reason against the pair that they spell
pub of_pair : {A : Type 0} (domain problem : List ℕ) (pair : Pair) (result : Result A PairFault) → IsAcceptedPair domain problem pair → IfErr result (IsPairFault domain problem pair) → IfErr result (IsGroundingFault domain problem)
of_pair domain problem pair (Ok v) accepted is = tt
of_pair domain problem pair (Err (fault.Refused r)) accepted is = IsGroundingRefusal.not_grounded is.0 r (pair, accepted, is.1) is.2
of_pair domain problem pair (Err fault.NoMemory) accepted is = tt

-- ---- supporters

-- a reason against a task that the texts have
pub of_task : (domain problem : List ℕ) (t : TaskValue) (f : PairFault) → IsWholeTaskOf domain problem t → IsTaskFault t f → IsFault domain problem f
of_task domain problem t (fault.Refused r) whole is =
    subst (IsRefusal domain problem) (sym is.0) (IsRefusal.too_many_supporters t whole is.1)
of_task domain problem t fault.NoMemory whole is = tt

-- a reason against the texts or their pair is one against the answer
pub of_grounding_fault : (domain problem : List ℕ) (f : PairFault) → IsGroundingFault domain problem f → IsFault domain problem f
of_grounding_fault domain problem (fault.Refused r) is = IsRefusal.no_task r is
of_grounding_fault domain problem fault.NoMemory is = tt
