use Rattle.std.proofs.Common.{◌∙◌}
use Rattle.enhsp_run.proofs.Certified.{certify_told}
use Rattle.enhsp_run.proofs.answers.of_certify.Goals as goal

pub returns : goal.returns
returns c =
    certify_told c.good_certificates_are_certified.ensures c.args.job.now c.args.texts.now _ _ _
    c.as_slice-domain.result.now c.as_slice-problem.result.now c.as_slice-certificate.result.now c.in_ok-answer.answer c.requires
    (c.as_slice-domain.ensures ∙ c.index-texts-0.is) (c.as_slice-problem.ensures ∙ c.index-texts-1.is) (c.as_slice-certificate.ensures ∙ c.index-texts-2.is)
    c.in_ok-answer.ensures
