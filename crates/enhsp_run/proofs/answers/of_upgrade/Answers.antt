use Rattle.std.proofs.Common.{◌∙◌}
use Rattle.enhsp_run.proofs.Certified.{upgrade_told}
use Rattle.enhsp_run.proofs.answers.of_upgrade.Goals as goal

pub returns : goal.returns
returns c =
    upgrade_told c.args.job.now c.args.texts.now _ _ _
    c.as_slice-domain.result.now c.as_slice-problem.result.now c.as_slice-certificate.result.now c.read-read.result c.upgraded.result c.requires
    (c.as_slice-domain.ensures ∙ c.index-texts-0.is) (c.as_slice-problem.ensures ∙ c.index-texts-1.is) (c.as_slice-certificate.ensures ∙ c.index-texts-2.is)
    c.read-read.ensures.answer c.read-read.ensures.cert c.read-read.ensures.fault c.upgraded.ensures
