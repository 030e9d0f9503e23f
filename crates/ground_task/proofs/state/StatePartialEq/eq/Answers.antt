use Rattle.ground_task.proofs.SameRows.{same_rows}
use Rattle.ground_task.proofs.state.StatePartialEq.eq.Goals as goal

pub returns : goal.returns
returns c =
    same_rows c.self.inside.row c.other.inside.row c.args.self.now c.args.other.now c.is_same.result c.self.invariant c.other.invariant c.self.view_is c.other.view_is c.is_same.ensures.one c.is_same.ensures.itself
