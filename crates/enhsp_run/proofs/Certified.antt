-- From what the commands on certificates gave to what may be told.
use Rattle.std.proofs.Common.{◌≡◌, ◌↔◌, ℕ, List, [], ◌∷◌, Some, Result, Ok, Err, IfOk, IfErr, get_or, refl, sym, subst, ap, ◌∙◌}
use Rattle.answer_text.specs.Texts.{IsCertOf}
use Rattle.cert_check.specs.declared.answers.Checked.{Checked}
use Rattle.cert_check.specs.declared.answers.Checked.TheVariants as checked
use Rattle.certify_command.specs.Answers as certify
use Rattle.certify_command.specs.Verdicts.{checked_status}
use Rattle.enhsp_words.specs.declared.job.Job.{Job}
use Rattle.pair_certificate.specs.Readings.{IsFault}
use Rattle.pair_certificate.specs.declared.readings.TaskCertificate.{TaskCertificate}
use Rattle.pair_text.specs.declared.refusals.PairFault.{PairFault}
use Rattle.pair_text.specs.declared.refusals.PairFault.TheVariants.{Refused, NoMemory}
use Rattle.plan_command.specs.Found.{HasPlan}
use Rattle.run_answers.proofs.Statuses.{refused_status}
use Rattle.run_answers.specs.Refused.{refused}
use Rattle.run_answers.specs.declared.answers.Answer.{Answer}
use Rattle.upgrade_command.specs.Answers as upgrade
use Rattle.enhsp_run.specs.Certificates.{Certifies, IsGoodWithin}
use Rattle.enhsp_run.specs.Commands.{FitFiles, OfThree, Plainly, certify_rules, upgrade_rules}
use Rattle.enhsp_run.specs.Outcomes.{CanTell, IsOutcomeOf}
use Rattle.enhsp_run.specs.Told.{Told, plainly}
use Rattle.enhsp_run.specs.declared.outcomes.Outcome.{Outcome}
use Rattle.enhsp_run.specs.declared.outcomes.Outcome.TheVariants.{Upgraded, Written}
use Rattle.enhsp_run.proofs.Answered.{written}

-- what holds of the texts of three files holds of the texts that were read
of_three : (P : List ℕ → List ℕ → List ℕ → Type 0) (texts : List (List ℕ)) (x y z d p c : List ℕ) → OfThree (λ _ _ _. Unit {0}) texts
    → d ≡ get_or texts 0 x → p ≡ get_or texts 1 y → c ≡ get_or texts 2 z → P d p c → OfThree P texts
of_three P (a ∷ b ∷ e ∷ []) x y z d p c three first second third is =
    subst (λ (t : List ℕ). P t b e) first (subst (λ (t : List ℕ). P d t e) second (subst (P d p) third is))
of_three P [] x y z d p c three first second third is = absurd three
of_three P (a ∷ []) x y z d p c three first second third is = absurd three
of_three P (a ∷ b ∷ []) x y z d p c three first second third is = absurd three
of_three P (a ∷ b ∷ e ∷ f ∷ texts) x y z d p c three first second third is = absurd three

-- as many texts as the commands read files
three : (texts : List (List ℕ)) → FitFiles (Some certify_rules.files) texts → OfThree (λ _ _ _. Unit {0}) texts
three (a ∷ b ∷ e ∷ []) fit = tt
three [] fit = absurd fit
three (a ∷ []) fit = absurd fit.1
three (a ∷ b ∷ []) fit = absurd fit.1.1
three (a ∷ b ∷ e ∷ f ∷ texts) fit = absurd fit.1.1.1

-- ---- certificates that are checked

-- accepted texts are answered by status 0 exactly where their certificate is good
abbrev pub GoodAreCertified : Type 0
GoodAreCertified = (d p c : List ℕ) (accepted : certify.IsAccepted d p c) (answer : Answer) → certify.IsAnswer d p c answer → answer.status ≡ 0 ↔ IsGoodWithin accepted

is_certified : (c : Checked) → checked_status c ≡ 0 → c ≡ checked.Certified
is_certified checked.Certified zero = refl
is_certified (checked.Refused line reason) zero = absurd (cc zero)

no_plan : (d p c : List ℕ) (answer : Answer) → certify.IsAnswer d p c answer → answer.status ≡ 0 → HasPlan d p → ⊥
no_plan d p c answer (certify.IsAnswer.checked a is) zero plan =
    let status : checked_status is.verdict.checked ≡ 0 = sym (ap (λ (x : Answer). x.status) is.verdict.is) ∙ zero in
    is.no_plan (is_certified is.verdict.checked status) plan.0 plan.1
no_plan d p c answer (certify.IsAnswer.refusal r is) zero plan = absurd (cc (refused_status r, zero))

pub certify_told : (law : GoodAreCertified) (job : Job) (texts : List (List ℕ)) (x y z d p c : List ℕ) (answer : Answer) → FitFiles (Some certify_rules.files) texts
    → d ≡ get_or texts 0 x → p ≡ get_or texts 1 y → c ≡ get_or texts 2 z → certify.IsAnswer d p c answer → CanTell (certify_rules.IsAnswer job texts) (Written answer)
certify_told law job texts x y z d p c answer fit first second third is =
    let certifies : Certifies d p c answer.status = record { no_plan = no_plan d p c answer is; good = λ accepted. law d p c accepted answer is } in
    written (certify_rules.IsAnswer job texts) answer
    (
    of_three (λ d p c. Plainly (certify.IsAnswer d p c) (plainly answer) × Certifies d p c answer.status) texts x y z d p c (three texts fit) first second third
    ((answer, is, refl), certifies)
    )

-- ---- certificates that are written anew

-- what is told of texts by a certificate in version 2
abbrev MayUpgrade : List ℕ → List ℕ → List ℕ → Told → Type 0
MayUpgrade d p c told = Plainly (upgrade.IsAnswer d p c) told

of_reading : {E : Type 0} (d p c : List ℕ) (gave : Result TaskCertificate PairFault) (result : Result Outcome E) → IfOk gave (λ r. upgrade.IsAnswer d p c (upgrade.upgraded r.task r.cert)) → IfOk gave (λ r. IsCertOf r.task r.cert)
    → IfErr gave (IsFault d p c) → IfOk result (IsOutcomeOf Upgraded gave) → IfOk result (CanTell (MayUpgrade d p c))
of_reading d p c gave (Err e) is cert fault outcome = tt
of_reading d p c (Ok r) (Ok o) is cert fault outcome =
    subst (CanTell (MayUpgrade d p c)) (sym outcome)
    (record { sent = cert; tells = λ told tells. (upgrade.upgraded r.task r.cert, is, tells) })
of_reading d p c (Err (Refused r)) (Ok o) is cert fault outcome =
    subst (CanTell (MayUpgrade d p c)) (sym outcome)
    (written (MayUpgrade d p c) (refused r) (refused r, upgrade.IsAnswer.refusal r fault, refl))
of_reading d p c (Err NoMemory) (Ok o) is cert fault outcome = absurd outcome

pub upgrade_told : {E : Type 0} (job : Job) (texts : List (List ℕ)) (x y z d p c : List ℕ) (gave : Result TaskCertificate PairFault) (result : Result Outcome E) → FitFiles (Some upgrade_rules.files) texts
    → d ≡ get_or texts 0 x → p ≡ get_or texts 1 y → c ≡ get_or texts 2 z
    → IfOk gave (λ r. upgrade.IsAnswer d p c (upgrade.upgraded r.task r.cert)) → IfOk gave (λ r. IsCertOf r.task r.cert) → IfErr gave (IsFault d p c)
    → IfOk result (IsOutcomeOf Upgraded gave) → IfOk result (CanTell (upgrade_rules.IsAnswer job texts))
upgrade_told job texts x y z d p c gave (Err e) fit first second third is cert fault outcome = tt
upgrade_told job texts x y z d p c gave (Ok o) fit first second third is cert fault outcome =
    let can : CanTell (MayUpgrade d p c) o = of_reading {E = ⊥} d p c gave (Ok o) is cert fault outcome in
    record {
      sent = can.sent;
      tells = λ told tells. of_three (λ d p c. MayUpgrade d p c told) texts x y z d p c (three texts fit) first second third (can.tells told tells);
    }
