-- From what was found to a reading of the texts, or to a fault.
use Rattle.std.proofs.Common.{List, ℕ, refl}
use Rattle.std.specs.Option.{option_map_or}
use Rattle.cert_reader.specs.Certificates.{IsFirstFault}
use Rattle.cert_reader.specs.declared.faults.CertFault.{CertFault}
use Rattle.cert_reader.specs.declared.faults.CertFault.TheVariants as line
use Rattle.ground_task.specs.Tasks.{TaskValue}
use Rattle.pair_task.specs.Refusals.{IsGroundingFault}
use Rattle.pair_task.specs.Tasks.{IsWholeTaskOf}
use Rattle.pair_text.specs.declared.refusals.PairFault.{PairFault}
use Rattle.pair_text.specs.declared.refusals.PairFault.TheVariants as fault
use Rattle.pair_certificate.specs.Readings.{IsFault, line_refusal}
use Rattle.pair_certificate.specs.Readings.IsRefusal.{no_task, at_line}

-- a reason against the pair or its task is one against the texts
pub of_grounding : (domain problem certificate : List ℕ) (f : PairFault) → IsGroundingFault domain problem f → IsFault domain problem certificate f
of_grounding domain problem certificate (fault.Refused r) is = no_task r is
of_grounding domain problem certificate fault.NoMemory is = tt

-- so is the first fault of the certificate's text
pub of_line : (domain problem certificate : List ℕ) (task : TaskValue) (f : CertFault) → IsWholeTaskOf domain problem task → IsFirstFault task certificate f
    → IsFault domain problem certificate (option_map_or fault.Refused (line_refusal f) fault.NoMemory)
of_line domain problem certificate task (line.BadLine n) is first = at_line task (line.BadLine n) _ is first refl
of_line domain problem certificate task (line.EndsEarly n) is first = at_line task (line.EndsEarly n) _ is first refl
of_line domain problem certificate task (line.TooMany n) is first = at_line task (line.TooMany n) _ is first refl
of_line domain problem certificate task line.NoMemory is first = tt
