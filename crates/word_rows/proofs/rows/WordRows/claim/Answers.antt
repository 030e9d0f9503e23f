use Rattle.std.proofs.Common.{arith, refl, ap}
use Rattle.word_rows.specs.Views.{claimed}
use Rattle.word_rows.proofs.Picks.{allows_claim}
use Rattle.word_rows.proofs.Fitting.{fits_after}
use Rattle.word_rows.proofs.rows.WordRows.claim.Goals as goal

pub fetch_add-requires : goal.fetch_add-requires
fetch_add-requires g c = let size = c.args.self.now.sized in (c.requires.seat.table, omega arith, allows_claim _ _ _ _ _ _ c.requires.few c.requires.seat.some_seat)

pub returns-clause-seat : goal.returns-clause-seat
returns-clause-seat g c = let s = c.args.seat.now in fits_after c.args.self.now.table.shared.table_id s c.fetch_add.new.seat (claimed s.me.0 c.fetch_add.result) c.requires.seat c.fetch_add.ensures.0 c.fetch_add.ensures.2 refl

pub returns-clause-view : goal.returns-clause-view
returns-clause-view g c = ap (λ m. m.0) c.fetch_add.ensures.2
