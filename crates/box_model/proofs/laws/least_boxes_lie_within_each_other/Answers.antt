use Rattle.box_model.proofs.laws.least_boxes_lie_within_each_other.Goals as goal

pub returns : goal.returns
returns c = λ t b d s h k. h.least d k.a_box k.contains k.closed
