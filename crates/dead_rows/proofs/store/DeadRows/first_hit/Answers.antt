use Rattle.std.proofs.Common.{rules, IsFalse}
use Rattle.dead_rows.specs.Seats.{task_of}
use Rattle.dead_rows.proofs.Growing.{later_trans, passed_next}
use Rattle.dead_rows.proofs.store.DeadRows.first_hit.Goals as goal

pub rows-preserved : goal.rows-preserved
rows-preserved c = let inv = c.rows.invariant in let v0 = c.args.seat.now.me.0 in let v = c.rows.seat.me.0 in let w = c.look.new.seat.me.0 in let missed : IsFalse c.look.result = search rules in record {
  seat = c.look.ensures.seat;
  later = later_trans v0 v w inv.later c.look.ensures.looked.later;
  passed = passed_next (task_of c.args.self.now) c.args.state.now v0 v w c.rows.row inv.later c.look.ensures.looked inv.passed (c.look.ensures.passed missed);
}
