use Rattle.ground_task.proofs.NumberWords.{least_narrow}
use Rattle.ground_task.proofs.steps.state_of.Goals as goal

pub from_row-requires : goal.from_row-requires
from_row-requires c = record { least = least_narrow c.args.row.is_wide c.args.row.values c.if-not-is_wide.ensures.value c.if-not-is_wide.ensures.fits }
