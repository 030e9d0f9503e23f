use Rattle.std.proofs.Common.{arith, ◌≡◌, ℕ, ◌+◌, ◌<◌, length, refl, sym, ap, ◌∙◌, subst}
use mathlib.Core.Option.{none}
use Rattle.atomic_table.specs.Table.{Allows, step}
use Rattle.word_rows.specs.Views.{pushed}
use Rattle.word_rows.specs.Rule.{row_start, Kept}
use Rattle.word_rows.proofs.Picks.{Pushed, allows_store}
use Rattle.word_rows.proofs.Fitting.{fits_after}
use Rattle.word_rows.proofs.rows.WordRows.store.Goals as goal

pub store-requires : goal.store-requires
store-requires g c = let rows = c.args.self.now in let key = rows.table.shared.key in let id = rows.table.shared.table_id in let s = c.args.seat.now in let w = c.requires.writes in let place : ℕ = c.place-place.result in
    let short : length w.0 < key.width = let h = c.requires.index in let e = w.2 in let k = rows.same_width in omega arith in
    let at : row_start key.width c.args.row + length w.0 ≡ place = ap (λ (n : ℕ). row_start n c.args.row + length w.0) rows.same_width ∙ (ap (λ (n : ℕ). row_start rows.width c.args.row + n) w.2 ∙ sym c.place-place.ensures.place) in (
      c.requires.seat.table,
      (let size = rows.sized in let h = c.place-place.ensures.inside in omega arith),
      subst (λ (p : ℕ). Allows (Kept key.width (g.E.Entries.IsEntry key.entries.value) key.seats) id.slots s.id s.me p (λ _. c.args.word) (λ _. Pushed (step id.slots p c.args.word 0 none) s.me c.args.word)) at
          (allows_store key.width (g.E.Entries.IsEntry key.entries.value) key.seats id.slots s.id s.me c.args.row c.args.word w.0 w.1 short),
    )

pub returns-clause-seat : goal.returns-clause-seat
returns-clause-seat g c = let s = c.args.seat.now in fits_after c.args.self.now.table.shared.table_id s c.store.new.seat (pushed s.me.0 c.args.word) c.requires.seat c.store.ensures.0 c.store.ensures.2 refl

pub returns-clause-view : goal.returns-clause-view
returns-clause-view g c = ap (λ m. m.0) c.store.ensures.2
