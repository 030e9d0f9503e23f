use Rattle.cert_check.proofs.Verdicts.{refused}
use Rattle.cert_check.proofs.laws.refused_certificates.Goals as goal

pub returns : goal.returns
returns c = λ t boxes states line reason placed against good never.
    refused t boxes states line reason (c.proved_certificates_are_the_good_ones.ensures.proved t boxes states placed good never) against
