-- Which statuses may be told, and when the files had no fault.
use Rattle.std.proofs.Common.{ℕ, ◌≤◌, List, Option, None, Some, sym, subst, arith}
use Rattle.enhsp_words.specs.Jobs.{job_of}
use Rattle.enhsp_words.specs.declared.job.Job.{Job}
use Rattle.pair_text.specs.declared.refusals.Refusal.{Refusal}
use Rattle.run_answers.specs.Refused.{refused}
use Rattle.run_answers.proofs.Statuses.{refused_status}
use Rattle.whole_files.specs.Seen.{Seen}
use Rattle.enhsp_run.specs.Answers.{AnswersBuilt, AnswersJob, AnswersRead, IsAnswer}
use Rattle.enhsp_run.specs.Answers.AnswersBuilt.{read, missing, too_large}
use Rattle.enhsp_run.specs.Commands.{CommandRules, Entry, entry_of}
use Rattle.enhsp_run.specs.Commands.Entry.{Built, Unbuilt}
use Rattle.enhsp_run.specs.Told.{Told}
use Rattle.enhsp_run.proofs.Laws.{Keeps, KeepsBuilt, keeps}

known_refused : (r : Refusal) → (refused r).status ≤ 6
known_refused r = omega (arith, refused_status r)

known_built : (rules : CommandRules) (seen : Seen) (job : Job) (told : Told) → Keeps rules → AnswersBuilt rules seen job told → told.status ≤ 6
known_built rules seen job told laws (read texts t are is) = omega (arith, laws.known job texts t is)
known_built rules seen job told laws (missing k file kth at) = omega arith
known_built rules seen job told laws (too_large k file kth at) = known_refused _

known_job : (e : Entry) (seen : Seen) (job : Job) (told : Told) → KeepsBuilt e → AnswersJob e seen job told → told.status ≤ 6
known_job Unbuilt seen job told laws is = subst (λ (t : Told). t.status ≤ 6) (sym is.0) (known_refused _)
known_job (Built rules) seen job told laws is = known_built rules seen job told laws is

known_read : (seen : Seen) (read : Option Job) (told : Told) → AnswersRead seen read told → told.status ≤ 6
known_read seen None told is = subst (λ (t : Told). t.status ≤ 6) (sym is.0) (omega arith)
known_read seen (Some job) told is = known_job (entry_of job.command) seen job told (keeps job.command) is

-- what is told ends neither as a fault of the sink nor as want of memory
pub known : (seen : Seen) (words : List (List ℕ)) (told : Told) → IsAnswer seen words told → told.status ≤ 6
known seen words told is = known_read seen (job_of words) told is
