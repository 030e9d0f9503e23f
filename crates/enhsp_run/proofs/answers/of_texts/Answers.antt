use Rattle.enhsp_run.proofs.Sizes.{size_within}
use Rattle.enhsp_run.proofs.answers.of_texts.Goals as goal

pub of_generate-requires-clause-some : goal.of_generate-requires-clause-some
of_generate-requires-clause-some c = (size_within c.args.job.now c.requires.job c.in-Generate.is).0

pub of_generate-requires-clause-few : goal.of_generate-requires-clause-few
of_generate-requires-clause-few c = (size_within c.args.job.now c.requires.job c.in-Generate.is).1
