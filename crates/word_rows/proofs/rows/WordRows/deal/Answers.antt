use Rattle.std.proofs.Common.{rules, arith, ◌≡◌, ◌≤◌, ◌+◌, ◌-◌, ℕ, [], All, subst, sym, ap, ◌∙◌}
use Rattle.std.proofs.lemmas.List.Elements.{All-push}
use Rattle.atomic_table.specs.Table.{Splits}
use Rattle.word_rows.specs.declared.view.View.{View}
use Rattle.word_rows.specs.Views.{fresh_view}
use Rattle.word_rows.specs.Rule.{Kept}
use Rattle.word_rows.specs.Tables.{IsFresh}
use Rattle.word_rows.proofs.Fitting.{fresh_seat}
use Rattle.word_rows.proofs.Sharing.{hands_over}
use Rattle.word_rows.proofs.rows.WordRows.deal.Goals as goal

pub split_seat-next-requires : goal.split_seat-next-requires
split_seat-next-requires g c = let rows = c.args.self.now in let key = rows.table.shared.key in let inv = c.seats.invariant in let size = rows.sized in let before = c.seats-test.true in
    let some_seat : 1 ≤ c.args.seats - c.seats._seat = omega arith in (
      inv.0 ∙ c.requires.seat.0,
      omega arith,
      subst (λ (v : View). Splits (Kept key.width (g.E.Entries.IsEntry key.entries.value) key.seats) c.seats.first.id v (fresh_view (v.seats - 1)) (fresh_view 1)) (sym (ap (λ m. m.0) inv.1))
          (hands_over key.width (g.E.Entries.IsEntry key.entries.value) key.seats c.seats.first.id (c.args.seats - c.seats._seat) some_seat),
    )

pub seats-preserved : goal.seats-preserved
seats-preserved g c = let inv = c.seats.invariant in let w = c.seats._seat in let before = c.seats-test.true in
    let less : (c.args.seats - w) - 1 ≡ c.args.seats - (w + 1) = omega arith in let seat = c.split_seat-next.result in
    let fresh : IsFresh c.args.first.table_id seat = fresh_seat c.args.first.table_id seat (c.split_seat-next.ensures.3 ∙ inv.0) c.split_seat-next.ensures.4 in (
      c.split_seat-next.ensures.0 ∙ inv.0,
      c.split_seat-next.ensures.2 ∙ (ap (λ m. (fresh_view (m.0.seats - 1), m.1)) inv.1 ∙ ap (λ (n : ℕ). (fresh_view n, [])) less),
      search rules,
      search rules,
      subst (All (IsFresh c.args.first.table_id)) (sym c.push_reserved.ensures.items) (All-push (IsFresh c.args.first.table_id) c.seats.row.items seat inv.4 fresh),
    )

pub returns-clause-seats : goal.returns-clause-seats
returns-clause-seats g c = let inv = c.seats.invariant in let w = c.seats._seat in let id = c.args.first.table_id in
    let last : w ≡ c.args.seats - 1 = search rules in let some_seat = c.requires.seat.2 in let one : c.args.seats - w ≡ 1 = omega arith in
    let fresh : IsFresh id c.seats.first = fresh_seat id c.seats.first inv.0 (inv.1 ∙ ap (λ (n : ℕ). (fresh_view n, [])) one) in
    subst (λ z. All (IsFresh z) c.from_vec.result) c.requires.seat.0
    (subst (All (IsFresh id)) (sym (c.from_vec.ensures ∙ c.push_reserved-2.ensures.items)) (All-push (IsFresh id) c.seats.row.items c.seats.first inv.4 fresh))
