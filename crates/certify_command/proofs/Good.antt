-- Accepted certificates are certified exactly where they are good.
use Rattle.std.proofs.Common.{◌≡◌, ◌↔◌, ℕ, List, refl, sym, subst, ap, ◌∙◌}
use Rattle.box_model.specs.declared.state_box.StateBox.{StateBox}
use Rattle.cert_check.specs.Checks.{IsChecked, IsRefused}
use Rattle.cert_check.specs.declared.answers.Checked.{Checked}
use Rattle.cert_check.specs.declared.answers.Checked.TheVariants.{Certified, Refused}
use Rattle.cert_check.specs.declared.answers.Reason.{Reason}
use Rattle.dead_ends.specs.Certificates.{IsGood, IsNowhereOver}
use Rattle.ground_task.specs.Placed.{IsPlaced}
use Rattle.ground_task.specs.States.{StateValue}
use Rattle.ground_task.specs.Tasks.{TaskValue}
use Rattle.pair_certificate.proofs.OneReading.{accepted_reading, no_refusal, same_reading}
use Rattle.run_answers.specs.declared.answers.Answer.{Answer}
use Rattle.certify_command.specs.Answers.{IsAccepted, IsAnswer}
use Rattle.certify_command.specs.Answers.IsAnswer.{checked, refusal}
use Rattle.certify_command.specs.Verdicts.{IsVerdict, checked_status}

-- the boxes and states are good, and no number leaves its range
abbrev pub IsGoodWithin : TaskValue → List StateBox → List StateValue → Type 0
IsGoodWithin t boxes states = IsGood t boxes states × IsNowhereOver t states

-- where something stands against a line, they aren't
abbrev pub RefusedAreBad : Type 0
RefusedAreBad = (t : TaskValue) (boxes : List StateBox) (states : List StateValue) (line : ℕ) (reason : Reason) → IsPlaced t.raw t.places
    → IsRefused t boxes states line reason → IsGood t boxes states → IsNowhereOver t states → ⊥

by_check : RefusedAreBad → (t : TaskValue) (boxes : List StateBox) (states : List StateValue) (c : Checked) → IsPlaced t.raw t.places → IsChecked t boxes states c
    → checked_status c ≡ 0 ↔ IsGoodWithin t boxes states
by_check bad t boxes states Certified placed is = (λ _. is, λ _. refl)
by_check bad t boxes states (Refused line reason) placed is = (λ zero. absurd (cc zero), λ good. absurd (bad t boxes states line reason placed is good.0 good.1))

by_verdict : RefusedAreBad → (domain problem certificate : List ℕ) (accepted : IsAccepted domain problem certificate) (answer : Answer) → IsVerdict domain problem certificate answer
    → answer.status ≡ 0 ↔ IsGoodWithin accepted.groundable.task accepted.cert.boxes accepted.cert.states
by_verdict bad domain problem certificate accepted answer is =
    let has = accepted.groundable in
    let one = same_reading domain problem certificate has.few_in_domain has.few_in_problem is.task has.task is.cert accepted.cert is.reading (accepted_reading domain problem certificate accepted) in
    let same = by_check bad is.task is.cert.boxes is.cert.states is.verdict.checked is.reading.is_task.whole.placed is.verdict.is_checked in
    let told : answer.status ≡ checked_status is.verdict.checked = ap (λ (a : Answer). a.status) is.verdict.is in
    let there : IsGoodWithin is.task is.cert.boxes is.cert.states → IsGoodWithin has.task accepted.cert.boxes accepted.cert.states = λ good.
    subst (λ (t : TaskValue). IsGoodWithin t accepted.cert.boxes accepted.cert.states) one.0
    (subst (λ (bs : List StateBox). IsGoodWithin is.task bs accepted.cert.states) one.1 (subst (λ (ss : List StateValue). IsGoodWithin is.task is.cert.boxes ss) one.2 good)) in
    let back : IsGoodWithin has.task accepted.cert.boxes accepted.cert.states → IsGoodWithin is.task is.cert.boxes is.cert.states = λ good.
    subst (λ (ss : List StateValue). IsGoodWithin is.task is.cert.boxes ss) (sym one.2)
    (subst (λ (bs : List StateBox). IsGoodWithin is.task bs accepted.cert.states) (sym one.1) (subst (λ (t : TaskValue). IsGoodWithin t accepted.cert.boxes accepted.cert.states) (sym one.0) good)) in
    (λ zero. there (same.0 (sym told ∙ zero)), λ good. told ∙ same.1 (back good))

pub certified_where_good : RefusedAreBad → (domain problem certificate : List ℕ) (accepted : IsAccepted domain problem certificate) (answer : Answer) → IsAnswer domain problem certificate answer
    → answer.status ≡ 0 ↔ IsGoodWithin accepted.groundable.task accepted.cert.boxes accepted.cert.states
certified_where_good bad domain problem certificate accepted answer (checked a is) = by_verdict bad domain problem certificate accepted a is
certified_where_good bad domain problem certificate accepted answer (refusal r is) = absurd (no_refusal domain problem certificate r accepted is)
