-- Why two texts give no ground task.
use Rattle.std.specs.Prelude.{ℕ, ◌≡◌, ◌<◌, ⊤, List, Some}
use Rattle.ground_meaning.specs.Refusals.{IsRefused}
use Rattle.ground_meaning.specs.declared.faults.GroundFault.{GroundFault}
use Rattle.ground_task.specs.Tasks.{TaskValue}
use Rattle.ground_text.specs.Refusals.{grounding_refusal}
use Rattle.pair_text.specs.Reasons.{IsFirstReason}
use Rattle.pair_text.specs.declared.refusals.PairFault.{PairFault}
use Rattle.pair_text.specs.declared.refusals.PairFault.TheVariants.{Refused, NoMemory}
use Rattle.pair_text.specs.declared.refusals.Refusal.{Refusal}
use Rattle.pair_text.specs.declared.refusals.Refusal.TheVariants.{Limit}
use Rattle.pddl_terms.specs.declared.limits.TheConstants.{MAX_SUPPORTERS}
use Rattle.pddl_terms.specs.declared.limits.What.TheVariants.{Supporters}
use Rattle.run_answers.specs.Accepted.{Accepts}
use Rattle.supporter_count.specs.Counts.{supporter_count}
use Rattle.pair_task.specs.Tasks.{IsWholeTaskOf}

-- ---- refusals

-- by the first reason against the texts; or, where they spell a well-formed pair, by the first reason against its ground task
pub data IsGroundingRefusal (domain problem : List ℕ) : Refusal → Type 0 where
  reason : (refusal : Refusal) → IsFirstReason domain problem refusal → IsGroundingRefusal domain problem refusal
  not_grounded : (f : GroundFault) (refusal : Refusal) → Accepts (λ pair. IsRefused pair f) domain problem
      → grounding_refusal domain problem f ≡ Some refusal → IsGroundingRefusal domain problem refusal

-- or, where the pair has a ground task, since that has too many supporters
pub data IsRefusal (domain problem : List ℕ) : Refusal → Type 0 where
  no_task : (refusal : Refusal) → IsGroundingRefusal domain problem refusal → IsRefusal domain problem refusal
  too_many_supporters : (task : TaskValue) → IsWholeTaskOf domain problem task → MAX_SUPPORTERS < supporter_count task
      → IsRefusal domain problem (Limit Supporters)

-- ---- faults: a refusal, or want of memory

abbrev pub IsGroundingFault : List ℕ → List ℕ → PairFault → Type 0
IsGroundingFault domain problem (Refused refusal) = IsGroundingRefusal domain problem refusal
IsGroundingFault domain problem NoMemory = ⊤

abbrev pub IsFault : List ℕ → List ℕ → PairFault → Type 0
IsFault domain problem (Refused refusal) = IsRefusal domain problem refusal
IsFault domain problem NoMemory = ⊤
