use Rattle.box_rows.proofs.Order.{boxes_order}
use Rattle.box_rows.proofs.RowBoxes.{box_further}
use Rattle.box_rows.proofs.SystemLaws.{row_further}
use Rattle.box_rows.proofs.laws.rows_are_ordered_as_their_boxes.Goals as goal

pub returns : goal.returns
returns c = λ t sup s a b ok past_a past_b ranked_a ranked_b.
    (λ past. box_further t sup s ok a b (row_further t sup s ok a b past), λ within. boxes_order t sup s ok a b past_a past_b ranked_a ranked_b within)
