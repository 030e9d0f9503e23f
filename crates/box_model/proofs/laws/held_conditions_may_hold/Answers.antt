use Rattle.box_model.proofs.ReadLemmas.{all_fit}
use Rattle.box_model.proofs.Soundness.{holds_sound}
use Rattle.box_model.proofs.laws.held_conditions_may_hold.Goals as goal

pub returns : goal.returns
returns c = λ t b s g a inside h. holds_sound t.places b s inside (all_fit t b a) g h
