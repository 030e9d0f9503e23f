-- What `certify` may answer to the texts of a domain, a problem and a certificate.
use Rattle.std.specs.Prelude.{ℕ, List, [], ◌∷◌}
use Rattle.pair_certificate.specs.Readings.{IsRefusal}
use Rattle.pair_certificate.specs.Readings as readings
use Rattle.pair_text.specs.declared.refusals.Refusal.{Refusal}
use Rattle.run_answers.specs.Refused.{refused}
use Rattle.run_answers.specs.declared.answers.Answer.{Answer}
use Rattle.certify_command.specs.Verdicts.{IsVerdict}

-- the verdict on the certificate for the pair that the texts spell, or a refusal
pub data IsAnswer (domain problem certificate : List ℕ) : Answer → Type 0 where
  checked : (answer : Answer) → IsVerdict domain problem certificate answer → IsAnswer domain problem certificate answer
  refusal : (r : Refusal) → IsRefusal domain problem certificate r → IsAnswer domain problem certificate (refused r)

-- no reason stands against the texts
abbrev pub IsAccepted : List ℕ → List ℕ → List ℕ → Type 0
IsAccepted domain problem certificate = readings.IsAccepted domain problem certificate

-- how the command ends where none does: certified, or not certified
abbrev pub statuses : List ℕ
statuses = 0 ∷ 1 ∷ []
