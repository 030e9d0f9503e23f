use Rattle.std.proofs.Common.{[], refl}
use Rattle.dead_ends.proofs.laws.goal_states_are_live.Goals as goal

pub returns : goal.returns
returns c = λ t s holds_there dead. c.dead_boxes_have_no_plan.ensures t dead.0 s [] dead.1 dead.2 (s, refl, holds_there)
