-- What the answers of a folder say of the outcome of a binding.
use Rattle.std.specs.Prelude.{◌≡◌, Option, Some, None}
use Rattle.coded_actions.specs.declared.coded.CodedAction.{CodedAction}
use Rattle.coded_actions.specs.Coded.{action_of}
use Rattle.ground_meaning.specs.declared.faults.GroundFault.{GroundFault}
use Rattle.ground_meaning.specs.declared.faults.GroundFault.TheVariants as fault
use Rattle.ground_meaning.specs.Outcomes.{Outcome}
use Rattle.ground_meaning.specs.Outcomes.Outcome.{Dropped, Kept, Refused}

-- the binding is left out, or gives this action
abbrev pub IsKept : Outcome → Option CodedAction → Type 0
IsKept o None = o ≡ Dropped
IsKept o (Some a) = o ≡ Kept (action_of a)

-- the binding refuses the pair for this reason; memory may be missing at any time
abbrev pub IsRefusedBy : Outcome → GroundFault → Type 0
IsRefusedBy o (fault.Unset text) = o ≡ Refused (fault.Unset text)
IsRefusedBy o (fault.Divide at place) = o ≡ Refused (fault.Divide at place)
IsRefusedBy o (fault.Places text) = o ≡ Refused (fault.Places text)
IsRefusedBy o (fault.Range text) = o ≡ Refused (fault.Range text)
IsRefusedBy o (fault.TooMany what limit) = o ≡ Refused (fault.TooMany what limit)
IsRefusedBy o fault.NoMemory = Unit {0}
