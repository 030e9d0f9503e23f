-- What `upgrade` may answer to the texts of a domain, a problem and a certificate.
use Rattle.std.specs.Prelude.{ℕ, ◌≡◌, List, [], ◌∷◌}
use Rattle.answer_text.specs.Texts.{certificate_text}
use Rattle.cert_reader.specs.Certificates.{ReadsAs}
use Rattle.cert_text.specs.declared.cert.Cert.{Cert}
use Rattle.ground_task.specs.Tasks.{TaskValue}
use Rattle.pair_certificate.specs.Readings.{IsReading, IsRefusal}
use Rattle.pair_certificate.specs.Readings as readings
use Rattle.pair_text.specs.declared.refusals.Refusal.{Refusal}
use Rattle.run_answers.specs.Refused.{refused}
use Rattle.run_answers.specs.declared.answers.Answer.{Answer}

-- the certificate in version 2, its boxes and states in their order
abbrev pub upgraded : TaskValue → Cert → Answer
upgraded t cert = record { status = 0; text = certificate_text t cert }

-- The answer is the certificate that the third text reads as for the ground task of the first two, in version 2. What is written
-- reads as the same boxes and the same states for the same task, so it is good exactly where what was read is.
pub record IsUpgraded (domain problem certificate : List ℕ) (answer : Answer) : Type 0 where
  pub task : TaskValue
  pub cert : Cert
  pub reading : IsReading domain problem certificate task cert
  pub is : answer ≡ upgraded task cert
  pub reads_as_before : ReadsAs task answer.text cert.boxes cert.states

-- the certificate in version 2, or a refusal
pub data IsAnswer (domain problem certificate : List ℕ) : Answer → Type 0 where
  written : (answer : Answer) → IsUpgraded domain problem certificate answer → IsAnswer domain problem certificate answer
  refusal : (r : Refusal) → IsRefusal domain problem certificate r → IsAnswer domain problem certificate (refused r)

-- no reason stands against the texts
abbrev pub IsAccepted : List ℕ → List ℕ → List ℕ → Type 0
IsAccepted domain problem certificate = readings.IsAccepted domain problem certificate

-- how the command ends where none does
abbrev pub statuses : List ℕ
statuses = 0 ∷ []
