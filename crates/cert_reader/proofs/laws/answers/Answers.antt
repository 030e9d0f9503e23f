use Rattle.cert_reader.proofs.OneAnswer.{read_once, read_or_fault, faulty_once}
use Rattle.cert_reader.proofs.SomeAnswer.{some_answer}
use Rattle.cert_reader.proofs.laws.answers.Goals as goal

pub returns : goal.returns
returns c = record {
  one_certificate = λ t text boxes others states further valid h k. read_once t valid text boxes others states further h k;
  one_fault = λ t text fault other valid real also h k. faulty_once t valid text fault other real also h k;
  not_both = λ t text boxes states fault valid real h k. read_or_fault t valid text boxes states fault real h k;
  not_neither = λ t text no_cert no_fault. some_answer t text no_cert no_fault;
}
