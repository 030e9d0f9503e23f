-- From what the command found to its answer.
use Rattle.std.proofs.Common.{◌≡◌, ◌≤◌, ◌^◌, ℕ, List, Result, Ok, Err, IfOk, length, sym, subst}
use Rattle.cert_check.specs.Checks.{IsChecked}
use Rattle.cert_check.specs.declared.answers.Checked.{Checked}
use Rattle.cert_check.specs.declared.answers.Checked.TheVariants.{Certified}
use Rattle.cert_text.specs.declared.cert.Cert.{Cert}
use Rattle.ground_task.specs.Steps.{IsTaskPlan}
use Rattle.ground_task.specs.Tasks.{TaskValue}
use Rattle.pair_certificate.specs.Readings.{IsReading, IsRefusal}
use Rattle.pair_task.proofs.Tasks.{no_plan}
use Rattle.pair_text.specs.declared.refusals.Refusal.{Refusal}
use Rattle.run_answers.specs.Refused.{refused}
use Rattle.run_answers.specs.declared.answers.Answer.{Answer}
use Rattle.certify_command.specs.Answers.{IsAnswer}
use Rattle.certify_command.specs.Answers.IsAnswer.{checked, refusal}
use Rattle.certify_command.specs.Verdicts.{IsTaskVerdict, checked_answer}

-- what a check found is answered
pub of_check : {E : Type 0} (t : TaskValue) (cert : Cert) (c : Checked) (result : Result Answer E) → IsChecked t cert.boxes cert.states c
    → (c ≡ Certified → (numbers : List ℕ) → IsTaskPlan t numbers → ⊥) → IfOk result (λ answer. answer ≡ checked_answer t c) → IfOk result (IsTaskVerdict t cert)
of_check t cert c (Err e) is_checked none is = tt
of_check t cert c (Ok answer) is_checked none is = record { checked = c; is_checked = is_checked; is = is; no_plan = none }

-- what is answered of the task and the certificate of the texts is answered of the texts
pub of_verdict : {E : Type 0} (domain problem certificate : List ℕ) (t : TaskValue) (cert : Cert) (result : Result Answer E) → length domain ≤ 2 ^ 30 → length problem ≤ 2 ^ 30
    → IsReading domain problem certificate t cert → IfOk result (IsTaskVerdict t cert) → IfOk result (IsAnswer domain problem certificate)
of_verdict domain problem certificate t cert (Err e) few fewer reading is = tt
of_verdict domain problem certificate t cert (Ok answer) few fewer reading is =
    checked answer (record {
      task = t;
      cert = cert;
      reading = reading;
      verdict = is;
      no_plan = λ certified. no_plan domain problem few fewer t reading.is_task (is.no_plan certified);
    })

pub of_refusal : {E : Type 0} (domain problem certificate : List ℕ) (r : Refusal) (result : Result Answer E) → IsRefusal domain problem certificate r → IfOk result (λ answer. answer ≡ refused r)
    → IfOk result (IsAnswer domain problem certificate)
of_refusal domain problem certificate r (Err e) why is = tt
of_refusal domain problem certificate r (Ok answer) why is = subst (IsAnswer domain problem certificate) (sym is) (refusal r why)
