-- The verdict on a certificate for a pair, with its line and its status.
use Rattle.std.specs.Prelude.{ℕ, ◌≡◌, ◌++◌, List, [], codes, decimal, slice_get}
use Rattle.std.specs.Option.{option_map_or}
use Rattle.cert_check.specs.Checks.{IsChecked}
use Rattle.cert_check.specs.declared.answers.Checked.{Checked}
use Rattle.cert_check.specs.declared.answers.Checked.TheVariants.{Certified, Refused}
use Rattle.cert_check.specs.declared.answers.Reason.{Reason}
use Rattle.cert_check.specs.declared.answers.Reason.TheVariants.{Unmet, MayGoal, GoalHolds, Successor, Over, Initial}
use Rattle.cert_text.specs.declared.cert.Cert.{Cert}
use Rattle.ground_task.specs.Steps.{IsTaskPlan}
use Rattle.ground_task.specs.Tasks.{TaskValue}
use Rattle.pair_certificate.specs.Readings.{IsReading}
use Rattle.pair_task.specs.Tasks.{IsPlanOfTexts}
use Rattle.run_answers.specs.declared.answers.Answer.{Answer}
use Rattle.search_runs.specs.declared.answers.Site.{Site}
use Rattle.search_runs.specs.declared.answers.Site.TheVariants as site

-- ---- lines

-- the name and the objects of a ground action, in brackets
abbrev pub action_text : TaskValue → ℕ → List ℕ
action_text t a = option_map_or (λ action. action.name) (slice_get t.raw.actions a) []

abbrev pub site_text : TaskValue → Site → List ℕ
site_text t site.Goal = codes "goal"
site_text t (site.Action a) = action_text t a

-- what stands against a line
abbrev pub reason_text : TaskValue → Reason → List ℕ
reason_text t (Unmet a) = codes "unmet " ++ action_text t a
reason_text t MayGoal = codes "maygoal"
reason_text t GoalHolds = codes "goal"
reason_text t (Successor a) = codes "successor " ++ action_text t a
reason_text t (Over place) = codes "over " ++ site_text t place
reason_text t Initial = codes "initial"

-- the line of an answer on a certificate; lines of the certificate are numbered from 1
abbrev pub checked_line : TaskValue → Checked → List ℕ
checked_line t Certified = codes "CERTIFIED\n"
checked_line t (Refused line reason) = codes "NOT CERTIFIED " ++ decimal line ++ codes " " ++ reason_text t reason ++ codes "\n"

abbrev pub checked_status : Checked → ℕ
checked_status Certified = 0
checked_status (Refused line reason) = 1

abbrev pub checked_answer : TaskValue → Checked → Answer
checked_answer t checked = record { status = checked_status checked; text = checked_line t checked }

-- ---- verdicts

-- the answer tells what a check of the certificate of a task finds; where it is certified, the task has no plan
pub record IsTaskVerdict (t : TaskValue) (cert : Cert) (answer : Answer) : Type 0 where
  pub checked : Checked
  pub is_checked : IsChecked t cert.boxes cert.states checked
  pub is : answer ≡ checked_answer t checked
  pub no_plan : checked ≡ Certified → (numbers : List ℕ) → IsTaskPlan t numbers → ⊥

-- The answer tells what a check finds of the certificate that the third text reads as for the ground task of the first two.
-- Where it is certified, which is where it is good and no number leaves its range on a state line, the pair has no plan.
pub record IsVerdict (domain problem certificate : List ℕ) (answer : Answer) : Type 0 where
  pub task : TaskValue
  pub cert : Cert
  pub reading : IsReading domain problem certificate task cert
  pub verdict : IsTaskVerdict task cert answer
  pub no_plan : verdict.checked ≡ Certified → (steps : List (List ℕ × List (List ℕ))) → IsPlanOfTexts domain problem steps → ⊥
