-- What a status says of a certificate for a pair.
use Rattle.std.specs.Prelude.{ℕ, ◌≡◌, ◌↔◌, List}
use Rattle.certify_command.specs.Answers.{IsAccepted}
use Rattle.dead_ends.specs.Certificates.{IsGood, IsNowhereOver}
use Rattle.plan_command.specs.Found.{HasPlan}

-- the certificate that accepted texts give is good for the task of their pair, and no number leaves its range on a state line
abbrev pub IsGoodWithin : {domain problem certificate : List ℕ} → IsAccepted domain problem certificate → Type 0
IsGoodWithin accepted =
    IsGood accepted.groundable.task accepted.cert.boxes accepted.cert.states × IsNowhereOver accepted.groundable.task accepted.cert.states

-- what the status of the command `certify` says
pub record Certifies (domain problem certificate : List ℕ) (status : ℕ) : Type 0 where
  -- at status 0 the pair has no plan
  pub no_plan : status ≡ 0 → HasPlan domain problem → ⊥
  -- accepted texts are answered by status 0 exactly where their certificate is good within the range of numbers
  pub good : (accepted : IsAccepted domain problem certificate) → status ≡ 0 ↔ IsGoodWithin accepted
