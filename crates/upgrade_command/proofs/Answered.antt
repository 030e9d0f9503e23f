-- A certificate that is read is answered in version 2.
use Rattle.std.proofs.Common.{ℕ, List, ◌≤◌, ◌^◌, length, refl}
use Rattle.cert_text.specs.declared.cert.Cert.{Cert}
use Rattle.ground_meaning.proofs.ValidTask.{task_is_valid}
use Rattle.ground_task.specs.Tasks.{TaskValue}
use Rattle.ground_task.specs.Valid.{IsValid}
use Rattle.pair_certificate.specs.Readings.{IsReading}
use Rattle.pair_task.proofs.Tasks.{readable_pair}
use Rattle.pair_task.specs.Tasks.{IsWholeTaskOf}
use Rattle.read_back.proofs.Again.{reads_again}
use Rattle.upgrade_command.specs.Answers.{IsAnswer, upgraded}
use Rattle.upgrade_command.specs.Answers.IsAnswer.{written}

module _ (domain problem : List ℕ) (few_in_domain : length domain ≤ 2 ^ 30) (few_in_problem : length problem ≤ 2 ^ 30) where
  valid_task : (t : TaskValue) → IsWholeTaskOf domain problem t → IsValid t.raw
  valid_task t is =
      task_is_valid is.pair (readable_pair domain problem few_in_domain few_in_problem is.pair is.accepted) is.accepted.well_formed t.raw is.whole.grounded.task

  pub of_reading : (certificate : List ℕ) (t : TaskValue) (cert : Cert) → IsReading domain problem certificate t cert → IsAnswer domain problem certificate (upgraded t cert)
  of_reading certificate t cert reading =
      let placed = reading.is_task.whole.placed in
      written (upgraded t cert) (record {
        task = t;
        cert = cert;
        reading = reading;
        is = refl;
        reads_as_before = reads_again t placed.a_count_each certificate cert reading.reads (valid_task t reading.is_task) placed;
      })
