use Rattle.std.proofs.Common.{◌++◌, ◌∷◌}
use Rattle.cert_reader.specs.Certificates.{first_line}
use Rattle.cert_reader.proofs.InTexts.{no_version, boxes_in_answer, states_in_answer}
use Rattle.cert_reader.proofs.read.read_cert.Goals as goal

pub returns-in_default-version_of-clause-answer : goal.returns-in_default-version_of-clause-answer
returns-in_default-version_of-clause-answer c =
    no_version c.args.task.now c.args.bytes.now c.in-Some.first.now c.in-Some.behind.now c.in-Some.ensures.0 c.in-Some.ensures.1 c.in_default-version_of.ensures

pub returns-clause-boxes : goal.returns-clause-boxes
returns-clause-boxes c =
    boxes_in_answer c.args.task.now c.raw-raw.ensures.placed.a_count_each (first_line c.in-Some-version_of.version ++ 10 ∷ c.in-Some.behind.now) c.read_lines.result c.read_lines.ensures

pub returns-clause-states : goal.returns-clause-states
returns-clause-states c =
    states_in_answer c.args.task.now c.raw-raw.ensures.placed.a_count_each (first_line c.in-Some-version_of.version ++ 10 ∷ c.in-Some.behind.now) c.read_lines.result c.read_lines.ensures
