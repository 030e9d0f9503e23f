use Rattle.std.proofs.Common.{arith, refl, sym, ap, ◌∙◌}
use Rattle.word_rows.specs.Views.{opened}
use Rattle.word_rows.proofs.Picks.{allows_open}
use Rattle.word_rows.proofs.Fitting.{fits_after}
use Rattle.word_rows.proofs.rows.WordRows.open.Goals as goal

pub store-requires : goal.store-requires
store-requires g c = let rows = c.args.self.now in let size = rows.sized in let h = c.requires.row in let w = c.requires.whole in
    (c.requires.seat.table, omega arith, allows_open _ _ _ _ _ _ _ w.0 w.1 (w.2 ∙ sym rows.same_width) w.3)

pub returns-clause-seat : goal.returns-clause-seat
returns-clause-seat g c = let s = c.args.seat.now in fits_after c.args.self.now.table.shared.table_id s c.store.new.seat (opened s.me.0) c.requires.seat c.store.ensures.0 c.store.ensures.2 refl

pub returns-clause-view : goal.returns-clause-view
returns-clause-view g c = ap (λ m. m.0) c.store.ensures.2
