use Rattle.std.proofs.Common.{sym, ◌∙◌}
use Rattle.std.specs.List.{length_refill}
use Rattle.bound_words.proofs.Rows.{row_past_trans}
use Rattle.bound_words.proofs.Between.{between-later}
use Rattle.bound_words.proofs.table.RelaxTable.sweep.Goals as goal

pub returns-clause-seat : goal.returns-clause-seat
returns-clause-seat g c = let t = g.S.System.terms c.args.self.now.table.shared.key.system.value in let old = c.args.seat.seat.me.0.seen in let e = c.sweep_words-swept.ensures in let new = c.sweep_words-swept.new.seat.me.0 in let s = c.requires.seat in record {
  fitting = e.fits;
  room = let row = c.args.seat.row in sym (length_refill row.len row.items c.sweep_words-swept.new.row row.ok.0) ∙ (row.ok.0 ∙ s.room);
  start_row = s.start_row;
  between = between-later t c.args.self.now.table.shared.key.start.value old new.seen s.between (row_past_trans t old new.loaded new.seen e.loaded.1 e.loaded.2) e.within;
}

pub returns-clause-past : goal.returns-clause-past
returns-clause-past g c = let t = g.S.System.terms c.args.self.now.table.shared.key.system.value in let e = c.sweep_words-swept.ensures in let new = c.sweep_words-swept.new.seat.me.0 in
    row_past_trans t c.args.seat.seat.me.0.seen new.loaded new.seen e.loaded.1 e.loaded.2
