use Rattle.certify_command.proofs.Good.{certified_where_good}
use Rattle.certify_command.proofs.laws.good_certificates_are_certified.Goals as goal

pub returns : goal.returns
returns c = certified_where_good c.refused_certificates.ensures
