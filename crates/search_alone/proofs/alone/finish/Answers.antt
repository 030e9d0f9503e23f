use Rattle.search_alone.proofs.Rounds.{finished}
use Rattle.search_alone.proofs.alone.finish.Goals as goal

pub returns-in-Ok : goal.returns-in-Ok
returns-in-Ok g c = finished c.args.search c.run.new.search c.finish.result c.in-Ok.ensures.ok c.requires.bounds c.finish.ensures.value
