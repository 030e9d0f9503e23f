use Rattle.std.proofs.Common.{arith, ⊎_elim, refl, ap, ◌∙◌}
use Rattle.word_rows.specs.Views.{missed, learnt}
use Rattle.word_rows.proofs.Picks.{Missed, Learnt, allows_look, eq_one, not_one}
use Rattle.word_rows.proofs.Fitting.{fits_after}
use Rattle.word_rows.proofs.rows.WordRows.load_ready.Goals as goal

pub load-requires : goal.load-requires
load-requires g c = let rows = c.args.self.now in let size = rows.sized in let h = c.requires.row in (c.requires.seat.table, omega arith, allows_look _ _ _ _ _ _ _ h)

pub returns-clause-seat : goal.returns-clause-seat
returns-clause-seat g c = let s = c.args.seat.now in let key = c.args.self.now.table.shared.key in let id = c.args.self.now.table.shared.table_id in ⊎_elim
    (λ (m : Missed c.args.row c.load.result s.me c.load.new.seat.me). fits_after id s c.load.new.seat (missed s.me.0 c.args.row) c.requires.seat c.load.ensures.0 m.1 refl)
    (λ (m : Learnt key.width (g.E.Entries.IsEntry key.entries.value) c.args.row c.load.result s.me c.load.new.seat.me). fits_after id s c.load.new.seat (learnt s.me.0 c.args.row m.1) c.requires.seat c.load.ensures.0 m.2 refl)
    (c.load.ensures.2 c.args.row refl)

pub returns-clause-not_ready : goal.returns-clause-not_ready
returns-clause-not_ready g c = λ no. let s = c.args.seat.now in let key = c.args.self.now.table.shared.key in ⊎_elim
    (λ (m : Missed c.args.row c.load.result s.me c.load.new.seat.me). (ap (λ m. m.0) m.1, m.2))
    (λ (m : Learnt key.width (g.E.Entries.IsEntry key.entries.value) c.args.row c.load.result s.me c.load.new.seat.me). absurd (not_one c.load.result m.0 no))
    (c.load.ensures.2 c.args.row refl)

pub returns-clause-ready : goal.returns-clause-ready
returns-clause-ready g c = λ yes. let s = c.args.seat.now in let key = c.args.self.now.table.shared.key in ⊎_elim
    (λ (m : Missed c.args.row c.load.result s.me c.load.new.seat.me). absurd (eq_one c.load.result m.0 yes))
    (λ (m : Learnt key.width (g.E.Entries.IsEntry key.entries.value) c.args.row c.load.result s.me c.load.new.seat.me). (m.1, ap (λ m. m.0) m.2, m.3 ∙ c.args.self.now.same_width, m.4))
    (c.load.ensures.2 c.args.row refl)
