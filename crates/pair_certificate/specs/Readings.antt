-- The certificate that a text reads as, for the ground task of the pair that two texts spell; or why the texts are refused.
use Rattle.std.specs.Prelude.{ℕ, ◌≡◌, ⊤, List, Option, Some, None}
use Rattle.cert_reader.specs.Certificates.{IsFirstFault, ReadsAs}
use Rattle.cert_reader.specs.declared.faults.CertFault.{CertFault}
use Rattle.cert_reader.specs.declared.faults.CertFault.TheVariants as fault
use Rattle.cert_text.specs.declared.cert.Cert.{Cert}
use Rattle.ground_task.specs.Tasks.{TaskValue}
use Rattle.pair_task.specs.Refusals.{IsGroundingRefusal}
use Rattle.pair_task.specs.Tasks.{IsGroundable, IsWholeTaskOf}
use Rattle.pair_text.specs.declared.refusals.LineReason.TheVariants as reason
use Rattle.pair_text.specs.declared.refusals.PairFault.{PairFault}
use Rattle.pair_text.specs.declared.refusals.PairFault.TheVariants.{Refused, NoMemory}
use Rattle.pair_text.specs.declared.refusals.Refusal.{Refusal}
use Rattle.pair_text.specs.declared.refusals.Refusal.TheVariants.{InCertificate}

-- the ground task of the first two texts, and the certificate that the third reads as for it
pub record IsReading (domain problem certificate : List ℕ) (task : TaskValue) (cert : Cert) : Type 0 where
  pub is_task : IsWholeTaskOf domain problem task
  pub reads : ReadsAs task certificate cert.boxes cert.states

-- the refusal that a fault of a certificate's text is; want of memory is none
abbrev pub line_refusal : CertFault → Option Refusal
line_refusal (fault.BadLine line) = Some (InCertificate line reason.BadLine)
line_refusal (fault.EndsEarly line) = Some (InCertificate line reason.EndsEarly)
line_refusal (fault.TooMany line) = Some (InCertificate line reason.TooMany)
line_refusal fault.NoMemory = None

-- Why the texts may be refused: since the first two give no ground task; or, where they give one, by the first fault of the
-- certificate's text.
pub data IsRefusal (domain problem certificate : List ℕ) : Refusal → Type 0 where
  no_task : (refusal : Refusal) → IsGroundingRefusal domain problem refusal → IsRefusal domain problem certificate refusal
  at_line : (task : TaskValue) (f : CertFault) (refusal : Refusal) → IsWholeTaskOf domain problem task
      → IsFirstFault task certificate f → line_refusal f ≡ Some refusal → IsRefusal domain problem certificate refusal

-- a refusal, or want of memory
abbrev pub IsFault : List ℕ → List ℕ → List ℕ → PairFault → Type 0
IsFault domain problem certificate (Refused refusal) = IsRefusal domain problem certificate refusal
IsFault domain problem certificate NoMemory = ⊤

-- no reason stands against the texts
pub record IsAccepted (domain problem certificate : List ℕ) : Type 0 where
  pub groundable : IsGroundable domain problem
  pub cert : Cert
  pub reads : ReadsAs groundable.task certificate cert.boxes cert.states
