-- The refusals of pairs that have no ground task.
use Rattle.std.specs.Prelude.{ℕ, List, [], Option, Some, None}
use Rattle.pddl_types.specs.declared.faults.CheckKind.TheVariants as kind
use Rattle.pair_text.specs.declared.refusals.Refusal.{Refusal}
use Rattle.pair_text.specs.declared.refusals.Refusal.TheVariants as refusal
use Rattle.pair_text.specs.declared.refusals.Reason.TheVariants as reason
use Rattle.pair_text.specs.Places.{place_of}
use Rattle.pair_text.specs.Reasons.{side_text, source_of}
use Rattle.ground_meaning.specs.declared.faults.GroundFault.{GroundFault}
use Rattle.ground_meaning.specs.declared.faults.GroundFault.TheVariants as fault

-- the refusal that a reason against a pair is, by the texts of its domain and its problem; want of memory is none
abbrev pub grounding_refusal : List ℕ → List ℕ → GroundFault → Option Refusal
grounding_refusal domain problem (fault.Unset text) = Some (refusal.Unset text)
grounding_refusal domain problem (fault.Divide file at) = Some (refusal.At (source_of file) (place_of (side_text file domain problem) at) (reason.Ill kind.Divide []))
grounding_refusal domain problem (fault.Places text) = Some (refusal.Places text)
grounding_refusal domain problem (fault.Range text) = Some (refusal.Range text)
grounding_refusal domain problem (fault.TooMany what limit) = Some (refusal.Limit what)
grounding_refusal domain problem fault.NoMemory = None
