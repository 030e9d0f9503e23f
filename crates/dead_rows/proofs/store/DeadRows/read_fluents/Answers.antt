use Rattle.std.proofs.Common.{rules, ◌∙◌}
use Rattle.box_words.specs.Words.{interval_at}
use Rattle.dead_rows.specs.Seats.{row_words}
use Rattle.dead_rows.proofs.Steps.{read_interval, filled}
use Rattle.dead_rows.proofs.store.DeadRows.read_fluents.Goals as goal

pub fluents-preserved : goal.fluents-preserved
fluents-preserved c = let inv = c.fluents.invariant in let row = c.args.row in let x = c.fluents.fluent in let n = c.args.self.now.shape.facts in record {
  seat = c.read_fluent.ensures.seat;
  view = c.read_fluent.ensures.view ∙ inv.view;
  count = search rules;
  room = search rules;
  read = filled (interval_at n (row_words c.args.seat.now row)) c.fluents.fluents.items c.push_reserved.new.self.items x c.read_fluent.result inv.read
      (read_interval c.args.seat.now.me.0 c.fluents.seat.me.0 row n x c.read_fluent.result inv.view c.read_fluent.ensures.fluent) c.push_reserved.ensures.items;
}
