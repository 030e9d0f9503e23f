use Rattle.std.proofs.Common.{map}
use Rattle.answer_text.specs.Texts.{certificate_text}
use Rattle.read_back.specs.Certificates.{trimmed_box}
use Rattle.read_back.proofs.Again.{reads_again}
use Rattle.read_back.proofs.Texts.{certificate_reads}
use Rattle.read_back.proofs.laws.certificates_are_read_back.Goals as goal

pub returns-clause-reads : goal.returns-clause-reads
returns-clause-reads c = certificate_reads

pub returns-clause-only : goal.returns-clause-only
returns-clause-only c = λ t cert boxes states valid placed is reads.
    c.answers.ensures.one_certificate t (certificate_text t cert) boxes (map trimmed_box cert.boxes) states cert.states valid reads (certificate_reads t cert valid placed is)

pub returns-clause-faultless : goal.returns-clause-faultless
returns-clause-faultless c = λ t cert fault valid placed is other first.
    c.answers.ensures.not_both t (certificate_text t cert) (map trimmed_box cert.boxes) cert.states fault valid other (certificate_reads t cert valid placed is) first

pub returns-clause-again : goal.returns-clause-again
returns-clause-again c = λ t text cert valid placed reads. reads_again t placed.a_count_each text cert reads valid placed
