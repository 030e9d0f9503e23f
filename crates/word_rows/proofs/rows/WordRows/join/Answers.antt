use Rattle.std.proofs.Common.{arith, ◌≤◌, ℕ, sym, ap, ◌∙◌, subst}
use Rattle.word_rows.proofs.Sharing.{joins}
use Rattle.word_rows.proofs.rows.WordRows.join.Goals as goal

pub join_seat-requires : goal.join_seat-requires
join_seat-requires g c = let rows = c.args.self.now in let size = rows.sized in (
  c.requires.first.fits.table,
  c.requires.second.fits.table,
  c.requires.second.fits.no_slot,
  omega arith,
  joins _ _ _ _ _ _ _,
)

pub returns-clause-seat : goal.returns-clause-seat
returns-clause-seat g c = let e = c.join_seat.ensures.2 in let v = c.args.first.me.0 in let u = c.args.second.me.0 in record {
  fits = record {
    table = c.join_seat.ensures.0 ∙ c.requires.first.fits.table;
    no_slot = ap (λ m. m.1) e ∙ c.requires.first.fits.no_slot;
    some_seat = subst (λ (n : ℕ). 1 ≤ n) (sym (ap (λ m. m.0.seats) e)) (let a = c.requires.first.fits.some_seat in omega arith);
  };
  idle = ap (λ m. m.0.writing) e;
}

pub returns-clause-view : goal.returns-clause-view
returns-clause-view g c = ap (λ m. m.0) c.join_seat.ensures.2
