use Rattle.cert_check.proofs.Verdicts.{proved}
use Rattle.cert_check.proofs.laws.good_lines.Goals as goal

pub returns : goal.returns
returns c = λ t boxes states placed dead good covered. (
  c.proved_certificates_are_the_good_ones.ensures.good t boxes states placed (proved t boxes states dead good covered),
  c.proved_certificates_are_the_good_ones.ensures.nowhere_over t boxes states (proved t boxes states dead good covered),
)
