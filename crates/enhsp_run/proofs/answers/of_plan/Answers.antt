use Rattle.std.proofs.Common.{◌∙◌}
use Rattle.enhsp_run.proofs.Searched.{plan_told}
use Rattle.enhsp_run.proofs.answers.of_plan.Goals as goal

pub returns : goal.returns
returns c =
    plan_told c.args.job.now c.args.texts.now _ _ c.as_slice.result.now c.as_slice-2.result.now c.search-found.result c.searched.result c.requires
    (c.as_slice.ensures ∙ c.index-texts-0.is) (c.as_slice-2.ensures ∙ c.index-texts-1.is)
    c.search-found.ensures.found c.search-found.ensures.legal c.search-found.ensures.told c.search-found.ensures.fault c.searched.ensures
