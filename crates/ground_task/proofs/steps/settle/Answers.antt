use Rattle.ground_task.proofs.NumberWords.{least_narrow}
use Rattle.ground_task.proofs.steps.settle.Goals as goal

pub returns-then-not-is_wide-clause-least : goal.returns-then-not-is_wide-clause-least
returns-then-not-is_wide-clause-least c = least_narrow c.args.row.now.is_wide c.args.row.now.values c.if-not-is_wide.ensures.value c.if-not-is_wide.ensures.fits
