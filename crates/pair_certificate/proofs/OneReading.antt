-- Three texts have one reading, and none where they are refused.
use Rattle.std.proofs.Common.{◌≡◌, ◌≢◌, ◌≤◌, ◌^◌, ℕ, List, None, Some, length, sym, subst, ap, ◌∙◌}
use Rattle.cert_reader.proofs.OneAnswer.{read_once, read_or_fault}
use Rattle.cert_reader.specs.Certificates.{IsFirstFault, ReadsAs}
use Rattle.cert_reader.specs.declared.faults.CertFault.{CertFault}
use Rattle.cert_reader.specs.declared.faults.CertFault.TheVariants as line
use Rattle.cert_text.specs.declared.cert.Cert.{Cert}
use Rattle.ground_meaning.proofs.ValidTask.{task_is_valid}
use Rattle.ground_task.specs.Tasks.{TaskValue}
use Rattle.ground_task.specs.Valid.{IsValid}
use Rattle.pair_task.proofs.OneAnswer.{no_grounding_refusal}
use Rattle.pair_task.proofs.Tasks.{readable_pair, same_task}
use Rattle.pair_task.specs.Tasks.{IsWholeTaskOf}
use Rattle.pair_text.specs.declared.refusals.Refusal.{Refusal}
use Rattle.pair_certificate.specs.Readings.{IsAccepted, IsReading, IsRefusal, line_refusal}
use Rattle.pair_certificate.specs.Readings.IsRefusal.{no_task, at_line}

-- what is refused isn't want of memory
real : (f : CertFault) (r : Refusal) → line_refusal f ≡ Some r → f ≢ line.NoMemory
real f r told memory = let none : None ≡ Some r = sym (ap line_refusal memory) ∙ told in cc none

module _ (domain problem certificate : List ℕ) (few_in_domain : length domain ≤ 2 ^ 30) (few_in_problem : length problem ≤ 2 ^ 30) where
  valid_task : (task : TaskValue) → IsWholeTaskOf domain problem task → IsValid task.raw
  valid_task task is =
      task_is_valid is.pair (readable_pair domain problem few_in_domain few_in_problem is.pair is.accepted) is.accepted.well_formed task.raw is.whole.grounded.task

  pub same_reading : (task other : TaskValue) (cert further : Cert) → IsReading domain problem certificate task cert → IsReading domain problem certificate other further
      → (task ≡ other) × (cert.boxes ≡ further.boxes) × (cert.states ≡ further.states)
  same_reading task other cert further is that =
      let same : task ≡ other = same_task domain problem few_in_domain few_in_problem task other is.is_task that.is_task in
      let reads : ReadsAs task certificate further.boxes further.states =
      subst (λ (t : TaskValue). ReadsAs t certificate further.boxes further.states) (sym same) that.reads in
      let one = read_once task (valid_task task is.is_task) certificate cert.boxes further.boxes cert.states further.states is.reads reads in
      (same, one.0, one.1)

  -- a certificate has no fault
  no_fault : (task other : TaskValue) (cert : Cert) (f : CertFault) → IsReading domain problem certificate task cert → IsWholeTaskOf domain problem other
      → f ≢ line.NoMemory → IsFirstFault other certificate f → ⊥
  no_fault task other cert f is that not_memory first =
      let same : other ≡ task = same_task domain problem few_in_domain few_in_problem other task that is.is_task in
      read_or_fault task (valid_task task is.is_task) certificate cert.boxes cert.states f not_memory is.reads
      (subst (λ (t : TaskValue). IsFirstFault t certificate f) same first)

-- accepted texts are read
pub accepted_reading : (domain problem certificate : List ℕ) (accepted : IsAccepted domain problem certificate) → IsReading domain problem certificate accepted.groundable.task accepted.cert
accepted_reading domain problem certificate accepted = record { is_task = accepted.groundable.is_task; reads = accepted.reads }

-- and not refused
pub no_refusal : (domain problem certificate : List ℕ) (r : Refusal) → IsAccepted domain problem certificate → IsRefusal domain problem certificate r → ⊥
no_refusal domain problem certificate r accepted (no_task r' is) = no_grounding_refusal domain problem r' accepted.groundable is
no_refusal domain problem certificate r accepted (at_line task f r' is first told) =
    let has = accepted.groundable in
    no_fault domain problem certificate has.few_in_domain has.few_in_problem has.task task accepted.cert f
    (accepted_reading domain problem certificate accepted) is (real f r' told) first
