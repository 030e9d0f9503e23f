use Rattle.std.proofs.Common.{subst}
use Rattle.num_ends.specs.Decimal.{IsDec}
use Rattle.pddl_trees.proofs.Numbers.{number_read, number_refused}
use Rattle.pddl_trees.proofs.words.number_in.Goals as goal

pub returns-in-Ok : goal.returns-in-Ok
returns-in-Ok c = number_read c.args.word.now c.in-Ok.number c.in-Ok.ensures (subst IsDec c.number.view_is c.number.invariant)

pub returns-in-Err : goal.returns-in-Err
returns-in-Err c = number_refused c.args.word.now c.in-Err.field-0 c.in-Err.ensures
