-- Two texts have a ground task or a refusal, and one refusal at most.
use Rattle.std.proofs.Common.{◌≡◌, ◌⊎◌, ◌≤◌, ◌^◌, inl, inr, ℕ, List, Option, None, Some, Result, Ok, Err, length, refl, sym, subst, ap, ◌∙◌}
use Rattle.std.proofs.lemmas.Bool.{cases_lt}
use Rattle.std.proofs.lemmas.Option.{same_Some}
use Rattle.ground_meaning.proofs.OneRefusal.{one_refusal}
use Rattle.ground_meaning.proofs.SomeTask.{some_answer}
use Rattle.ground_meaning.specs.Answers.{IsAnswer}
use Rattle.ground_meaning.specs.Refusals.{IsRefused}
use Rattle.ground_meaning.specs.declared.faults.GroundFault.{GroundFault}
use Rattle.ground_meaning.specs.declared.faults.GroundFault.TheVariants as fault
use Rattle.ground_task.specs.Tasks.{TaskValue}
use Rattle.ground_text.specs.Refusals.{grounding_refusal}
use Rattle.pair_text.proofs.OneReason.{one_pair, one_reason, pair_or_reason}
use Rattle.pair_text.proofs.OneReason.{some_answer as some_pair}
use Rattle.pair_text.specs.Reasons.{IsAcceptedPair}
use Rattle.pair_text.specs.declared.refusals.Refusal.{Refusal}
use Rattle.pair_text.specs.declared.refusals.Refusal.TheVariants.{Limit}
use Rattle.pddl_terms.specs.declared.limits.TheConstants.{MAX_SUPPORTERS}
use Rattle.pddl_terms.specs.declared.limits.What.TheVariants.{Supporters}
use Rattle.pddl_types.specs.declared.pairs.Pair.{Pair}
use Rattle.supporter_count.specs.Counts.{supporter_count}
use Rattle.pair_task.specs.Refusals.{IsGroundingRefusal, IsRefusal}
use Rattle.pair_task.specs.Refusals.IsGroundingRefusal.{reason, not_grounded}
use Rattle.pair_task.specs.Refusals.IsRefusal.{no_task, too_many_supporters}
use Rattle.pair_task.specs.Tasks.{IsAccepted, IsGroundable, IsWholeTaskOf}
use Rattle.pair_task.proofs.OneAnswer.{no_grounding_refusal}
use Rattle.pair_task.proofs.Tasks.{readable_pair}

module _ (domain problem : List ℕ) (few_in_domain : length domain ≤ 2 ^ 30) (few_in_problem : length problem ≤ 2 ^ 30) where
  groundable_by : (task : TaskValue) → IsWholeTaskOf domain problem task → IsGroundable domain problem
  groundable_by task is = record { few_in_domain = few_in_domain; few_in_problem = few_in_problem; task = task; is_task = is }

  -- ---- some answer

  abbrev Grounded : Type 0
  Grounded = IsGroundable domain problem ⊎ ((r : Refusal) × IsGroundingRefusal domain problem r)

  -- what isn't want of memory is told
  told : (f : GroundFault) → (f ≡ fault.NoMemory → ⊥) → (r : Refusal) × (grounding_refusal domain problem f ≡ Some r)
  told f real = at (grounding_refusal domain problem f) refl
    where
      nothing : (g : GroundFault) → grounding_refusal domain problem g ≡ None → g ≡ fault.NoMemory
      nothing (fault.Unset text) is = absurd (cc is)
      nothing (fault.Divide file place) is = absurd (cc is)
      nothing (fault.Places text) is = absurd (cc is)
      nothing (fault.Range text) is = absurd (cc is)
      nothing (fault.TooMany what limit) is = absurd (cc is)
      nothing fault.NoMemory is = refl

      at : (o : Option Refusal) → grounding_refusal domain problem f ≡ o → (r : Refusal) × (grounding_refusal domain problem f ≡ Some r)
      at None is = absurd (real (nothing f is))
      at (Some r) is = (r, is)

  grounded : (pair : Pair) → IsAcceptedPair domain problem pair → (answer : Result TaskValue GroundFault) → IsAnswer pair answer → Grounded
  grounded pair accepted (Ok t) is = inl (groundable_by t (record { pair = pair; accepted = accepted; whole = is }))
  grounded pair accepted (Err f) is =
      let why = told f is.1 in
      inr (why.0, not_grounded f why.0 (pair, accepted, is.0) why.1)

  pub task_or_reason : Grounded
  task_or_reason =
      elim (some_pair domain problem) [
        | inl spelled ↦
            let answer = some_answer spelled.0 (readable_pair domain problem few_in_domain few_in_problem spelled.0 spelled.1) spelled.1.well_formed in
            grounded spelled.0 spelled.1 answer.0 answer.1
        | inr first ↦ inr (first.0, reason first.0 first.1)
      ]

  abbrev Answered : Type 0
  Answered = IsAccepted domain problem ⊎ ((r : Refusal) × IsRefusal domain problem r)

  counted : IsGroundable domain problem → Answered
  counted has =
      elim (cases_lt MAX_SUPPORTERS (supporter_count has.task)) [
        | inl many ↦ inr (Limit Supporters, too_many_supporters has.task has.is_task many)
        | inr few ↦ inl (record {
          few_in_domain = few_in_domain;
          few_in_problem = few_in_problem;
          task = has.task;
          is_task = record { whole = has.is_task; few_supporters = few };
        })
      ]

  pub accepted_or_refused : Answered
  accepted_or_refused =
      elim task_or_reason [
        | inl has ↦ counted has
        | inr refused ↦ inr (refused.0, no_task refused.0 refused.1)
      ]

  -- ---- one refusal

  real : (f : GroundFault) (r : Refusal) → grounding_refusal domain problem f ≡ Some r → f ≡ fault.NoMemory → ⊥
  real f r is memory = let none : None ≡ Some r = sym (ap (grounding_refusal domain problem) memory) ∙ is in absurd (cc none)

  one_ground_refusal : (pair : Pair) (f g : GroundFault) (r s : Refusal) → IsAcceptedPair domain problem pair → IsRefused pair f → IsRefused pair g
      → grounding_refusal domain problem f ≡ Some r → grounding_refusal domain problem g ≡ Some s → r ≡ s
  one_ground_refusal pair f g r s accepted first second h k =
      let same : f ≡ g = one_refusal pair (readable_pair domain problem few_in_domain few_in_problem pair accepted) f g first second (real f r h) (real g s k) in
      same_Some r s (sym h ∙ ap (grounding_refusal domain problem) same ∙ k)

  pub one_grounding_refusal : (a b : Refusal) → IsGroundingRefusal domain problem a → IsGroundingRefusal domain problem b → a ≡ b
  one_grounding_refusal a b (reason r first) (reason s second) = one_reason domain problem a b first second
  one_grounding_refusal a b (reason r first) (not_grounded g s that k) = absurd (pair_or_reason domain problem that.0 r that.1 first)
  one_grounding_refusal a b (not_grounded f r this h) (reason s second) = absurd (pair_or_reason domain problem this.0 s this.1 second)
  one_grounding_refusal a b (not_grounded f r this h) (not_grounded g s that k) =
      let same : that.0 ≡ this.0 = one_pair domain problem that.0 this.0 that.1 this.1 in
      one_ground_refusal this.0 f g a b this.1 this.2 (subst (λ (p : Pair). IsRefused p g) same that.2) h k

  pub one_task_refusal : (a b : Refusal) → IsRefusal domain problem a → IsRefusal domain problem b → a ≡ b
  one_task_refusal a b (no_task r first) (no_task s second) = one_grounding_refusal a b first second
  one_task_refusal a b (no_task r first) (too_many_supporters t is many) = absurd (no_grounding_refusal domain problem r (groundable_by t is) first)
  one_task_refusal a b (too_many_supporters t is many) (no_task s second) = absurd (no_grounding_refusal domain problem s (groundable_by t is) second)
  one_task_refusal a b (too_many_supporters t is many) (too_many_supporters u also more) = refl
