use Rattle.box_model.proofs.ReadLemmas.{all_fit}
use Rattle.box_model.proofs.Monotony.{hold_wider}
use Rattle.box_model.proofs.laws.wider_boxes_hold_more.Goals as goal

pub returns : goal.returns
returns c = λ t b wider g a a' within h. hold_wider t.places b wider within (all_fit t b a) (all_fit t wider a') a.inhabited g h
