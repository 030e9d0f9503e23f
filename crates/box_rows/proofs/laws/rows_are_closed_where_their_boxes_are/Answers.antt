use Rattle.box_rows.proofs.SystemLaws.{box_closed, closed_box}
use Rattle.box_rows.proofs.laws.rows_are_closed_where_their_boxes_are.Goals as goal

pub returns : goal.returns
returns c = λ t sup s row ok is_row past. (closed_box t sup s ok row, box_closed t sup s ok row is_row past)
