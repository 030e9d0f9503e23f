use Rattle.std.proofs.Common.{arith, sym, ap, ◌∙◌, List, ℕ, subst}
use Rattle.bound_words.specs.Protocol.{joined}
use Rattle.bound_words.specs.Rows.{IsRowPast}
use Rattle.bound_words.proofs.Picks.{Mine}
use Rattle.bound_words.proofs.Sharing.{joins, fits_joined, further_row_left, further_row_right}
use Rattle.bound_words.proofs.steps.take_in.Goals as goal

pub join_seat-requires : goal.join_seat-requires
join_seat-requires g c = let key = c.args.shared.now.key in let t = g.S.System.terms key.system.value in let s = c.args.seat.now in let o = c.args.other in let f = c.requires.fits in let h = c.requires.other in
    let a = f.seen_row.length_is in let b = h.seen_row.length_is in let size = f.sized in (
      f.table,
      h.table,
      h.no_slot,
      omega arith,
      joins t key.start.value key.seats s.id o.id s.me.0 o.me.0 f.idle h.idle (a ∙ sym b) (omega arith),
    )

pub returns-clause-fits : goal.returns-clause-fits
returns-clause-fits g c = let t = g.S.System.terms c.args.shared.now.key.system.value in let s = c.args.seat.now in let o = c.args.other in
    fits_joined t c.args.shared.now.table_id s o c.join_seat.new.seat c.requires.fits c.requires.other c.join_seat.ensures.0 (c.join_seat.ensures.2 ∙ ap (λ l. (joined t s.me.0 o.me.0, l)) c.requires.fits.no_slot)

pub returns-clause-past : goal.returns-clause-past
returns-clause-past g c = let t = g.S.System.terms c.args.shared.now.key.system.value in let a = c.args.seat.now.me.0.seen in let b = c.args.other.me.0.seen in
    let ea = c.requires.fits.seen_row.length_is in let eb = c.requires.other.seen_row.length_is in
    subst (λ (l : List ℕ). IsRowPast t a l × IsRowPast t b l) (sym (ap (λ (m : Mine). m.0.seen) c.join_seat.ensures.2)) (further_row_left t a b ea eb, further_row_right t a b ea eb)
