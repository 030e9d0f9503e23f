-- The answer of grounding apart from want of memory: the task with its places, or the first reason against it.
use Rattle.std.specs.Prelude.{◌≡◌, length, Result, Ok, Err}
use Rattle.pddl_types.specs.declared.pairs.Pair.{Pair}
use Rattle.ground_task.specs.Placed.{IsPlaced}
use Rattle.ground_task.specs.Tasks.{TaskValue, AreFirstInRange}
use Rattle.ground_meaning.specs.declared.faults.GroundFault.{GroundFault}
use Rattle.ground_meaning.specs.declared.faults.GroundFault.TheVariants as fault
use Rattle.ground_meaning.specs.Refusals.{IsGrounded, IsRefused}

-- a task with places that suffice and at which each first value is in range
pub record IsWholeTask (p : Pair) (t : TaskValue) : Type 0 where
  pub grounded : IsGrounded p t
  pub placed : IsPlaced t.raw t.places
  pub in_range : AreFirstInRange t.places t.raw.values (length t.raw.fluents)

abbrev pub IsAnswer : Pair → Result TaskValue GroundFault → Type 0
IsAnswer p (Ok t) = IsWholeTask p t
IsAnswer p (Err f) = IsRefused p f × (f ≡ fault.NoMemory → ⊥)
