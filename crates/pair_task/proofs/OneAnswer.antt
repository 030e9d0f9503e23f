-- Texts that have a ground task aren't refused.
use Rattle.std.proofs.Common.{◌≡◌, ◌≤◌, ℕ, List, None, Some, sym, subst, ap, ◌∙◌, arith}
use Rattle.ground_meaning.proofs.OneRefusal.{only_memory}
use Rattle.ground_meaning.specs.Answers.{IsWholeTask}
use Rattle.ground_meaning.specs.Refusals.{IsRefused}
use Rattle.ground_meaning.specs.declared.faults.GroundFault.{GroundFault}
use Rattle.ground_meaning.specs.declared.faults.GroundFault.TheVariants as fault
use Rattle.ground_task.specs.Tasks.{TaskValue}
use Rattle.ground_text.specs.Refusals.{grounding_refusal}
use Rattle.pair_text.proofs.OneReason.{one_pair, pair_or_reason}
use Rattle.pair_text.specs.declared.refusals.Refusal.{Refusal}
use Rattle.pddl_terms.specs.Readable.{IsReadable}
use Rattle.pddl_terms.specs.declared.limits.TheConstants.{MAX_SUPPORTERS}
use Rattle.pddl_types.specs.declared.pairs.Pair.{Pair}
use Rattle.supporter_count.specs.Counts.{supporter_count}
use Rattle.pair_task.specs.Refusals.{IsGroundingRefusal, IsRefusal}
use Rattle.pair_task.specs.Refusals.IsGroundingRefusal.{reason, not_grounded}
use Rattle.pair_task.specs.Refusals.IsRefusal.{no_task, too_many_supporters}
use Rattle.pair_task.specs.Tasks.{IsAccepted, IsGroundable}
use Rattle.pair_task.proofs.Tasks.{readable_pair, same_task}

-- a pair that has a task isn't refused by grounding
no_pair_refusal : (domain problem : List ℕ) (pair : Pair) (t : TaskValue) (f : GroundFault) (r : Refusal) → IsReadable pair.domain pair.problem → IsWholeTask pair t → IsRefused pair f → grounding_refusal domain problem f ≡ Some r → ⊥
no_pair_refusal domain problem pair t f r readable whole refused told =
    let memory : f ≡ fault.NoMemory = only_memory pair readable t whole.grounded whole.placed whole.in_range f refused in
    let none : None ≡ Some r = sym (ap (grounding_refusal domain problem) memory) ∙ told in absurd (cc none)

pub no_grounding_refusal : (domain problem : List ℕ) (r : Refusal) → IsGroundable domain problem → IsGroundingRefusal domain problem r → ⊥
no_grounding_refusal domain problem r has (reason r' first) =
    pair_or_reason domain problem has.is_task.pair r' has.is_task.accepted first
no_grounding_refusal domain problem r has (not_grounded f r' other told) =
    let is = has.is_task in
    let same : other.0 ≡ is.pair = one_pair domain problem other.0 is.pair other.1 is.accepted in
    no_pair_refusal domain problem is.pair has.task f r' (readable_pair domain problem has.few_in_domain has.few_in_problem is.pair is.accepted) is.whole
    (subst (λ (p : Pair). IsRefused p f) same other.2) told

pub groundable : (domain problem : List ℕ) → IsAccepted domain problem → IsGroundable domain problem
groundable domain problem accepted =
    record {
      few_in_domain = accepted.few_in_domain;
      few_in_problem = accepted.few_in_problem;
      task = accepted.task;
      is_task = accepted.is_task.whole;
    }

pub no_refusal : (domain problem : List ℕ) (r : Refusal) → IsAccepted domain problem → IsRefusal domain problem r → ⊥
no_refusal domain problem r accepted (no_task r' is) = no_grounding_refusal domain problem r' (groundable domain problem accepted) is
no_refusal domain problem r accepted (too_many_supporters t is many) =
    let same : accepted.task ≡ t = same_task domain problem accepted.few_in_domain accepted.few_in_problem accepted.task t accepted.is_task.whole is in
    let few : supporter_count t ≤ MAX_SUPPORTERS = subst (λ (u : TaskValue). supporter_count u ≤ MAX_SUPPORTERS) same accepted.is_task.few_supporters in
    omega (arith, few, many)
