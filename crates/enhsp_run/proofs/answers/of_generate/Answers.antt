use Rattle.enhsp_run.proofs.Searched.{generate_told}
use Rattle.enhsp_run.proofs.answers.of_generate.Goals as goal

pub returns : goal.returns
returns c =
    generate_told c.args.job.now c.args.texts.now c.search-found.result c.searched.result c.requires.texts
    c.search-found.ensures.found c.search-found.ensures.legal c.search-found.ensures.told c.search-found.ensures.fault c.searched.ensures
