use Rattle.box_rows.proofs.SystemLaws.{least_box}
use Rattle.box_rows.proofs.laws.least_rows_stand_for_least_boxes.Goals as goal

pub returns : goal.returns
returns c = λ t sup s row ok least. least_box t sup s ok row least
