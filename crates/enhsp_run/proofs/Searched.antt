-- From what a search gave to what may be told.
use Rattle.std.proofs.Common.{◌≡◌, ℕ, List, [], ◌∷◌, Some, Result, Ok, Err, IfOk, IfErr, get_or, sym, subst}
use Rattle.answer_text.specs.Texts.{HasText}
use Rattle.enhsp_words.specs.declared.job.Job.{Job}
use Rattle.generate_command.specs.Generated.{IsGenerated, IsFault as IsSizeFault}
use Rattle.pair_task.specs.Refusals.{IsFault}
use Rattle.pair_text.specs.declared.refusals.PairFault.{PairFault}
use Rattle.pair_text.specs.declared.refusals.PairFault.TheVariants.{Refused, NoMemory}
use Rattle.plan_command.specs.Found.{IsFound}
use Rattle.run_answers.specs.Refused.{refused}
use Rattle.search_records.specs.Records.{IsLegalRecord}
use Rattle.search_records.specs.declared.record.Record.{Record}
use Rattle.task_gen.specs.Counters.{domain_text, problem_text}
use Rattle.enhsp_run.specs.Commands.{Finds, FitFiles, generate_rules, plan_rules}
use Rattle.enhsp_run.specs.Outcomes.{CanTell, IsOutcomeOf, text_in}
use Rattle.enhsp_run.specs.Told.{Told}
use Rattle.enhsp_run.specs.Told.TellsSearch.{found, refusal}
use Rattle.enhsp_run.specs.declared.outcomes.Form.{Form}
use Rattle.enhsp_run.specs.declared.outcomes.Form.TheVariants.{Whole, Summary}
use Rattle.enhsp_run.specs.declared.outcomes.Outcome.{Outcome}
use Rattle.enhsp_run.specs.declared.outcomes.Outcome.TheVariants.{Found}
use Rattle.enhsp_run.proofs.Answered.{written}

-- a search that is told in this form
abbrev MayFind : Form → ℕ → List ℕ → List ℕ → Told → Type 0
MayFind form limit d p told = Finds (text_in form) limit told d p

pub of_search : {E : Type 0} (form : Form) (d p : List ℕ) (limit : ℕ) (gave : Result Record PairFault) (result : Result Outcome E) → IfOk gave (IsFound d p limit) → IfOk gave IsLegalRecord → IfOk gave HasText → IfErr gave (IsFault d p) → IfOk result (IsOutcomeOf (Found form) gave) → IfOk result (CanTell (MayFind form limit d p))
of_search form d p limit gave (Err e) is legal has fault outcome = tt
of_search form d p limit (Ok r) (Ok o) is legal has fault outcome =
    subst (CanTell (MayFind form limit d p)) (sym outcome)
    (record { sent = (legal, has); tells = λ told tells. found r told is tells })
of_search form d p limit (Err (Refused r)) (Ok o) is legal has fault outcome =
    subst (CanTell (MayFind form limit d p)) (sym outcome) (written (MayFind form limit d p) (refused r) (refusal r fault))
of_search form d p limit (Err NoMemory) (Ok o) is legal has fault outcome = absurd outcome

pub plan_told : {E : Type 0} (job : Job) (texts : List (List ℕ)) (x y d p : List ℕ) (gave : Result Record PairFault) (result : Result Outcome E) → FitFiles (Some plan_rules.files) texts
    → d ≡ get_or texts 0 x → p ≡ get_or texts 1 y
    → IfOk gave (IsFound d p job.limit) → IfOk gave IsLegalRecord → IfOk gave HasText → IfErr gave (IsFault d p) → IfOk result (IsOutcomeOf (Found Whole) gave) → IfOk result (CanTell (plan_rules.IsAnswer job texts))
plan_told job [] x y d p gave result fit first second is legal has fault outcome = absurd fit
plan_told job (a ∷ []) x y d p gave result fit first second is legal has fault outcome = absurd fit.1
plan_told job (a ∷ b ∷ []) x y d p gave result fit first second is legal has fault outcome =
    subst (λ (t : List ℕ). IfOk result (CanTell (MayFind Whole job.limit t b))) first
    (subst (λ (t : List ℕ). IfOk result (CanTell (MayFind Whole job.limit d t))) second (of_search Whole d p job.limit gave result is legal has fault outcome))
plan_told job (a ∷ b ∷ t ∷ ts) x y d p gave result fit first second is legal has fault outcome = absurd fit.1.1

pub generate_told : {E : Type 0} (job : Job) (texts : List (List ℕ)) (gave : Result Record PairFault) (result : Result Outcome E) → FitFiles (Some generate_rules.files) texts
    → IfOk gave (IsGenerated job.size job.limit) → IfOk gave IsLegalRecord → IfOk gave HasText → IfErr gave (IsSizeFault job.size) → IfOk result (IsOutcomeOf (Found (Summary job.size)) gave) → IfOk result (CanTell (generate_rules.IsAnswer job texts))
generate_told job [] gave result fit is legal has fault outcome =
    of_search (Summary job.size) domain_text (problem_text job.size) job.limit gave result is legal has fault outcome
generate_told job (t ∷ ts) gave result fit is legal has fault outcome = absurd fit
