use Rattle.std.proofs.Common.{◌≡◌, ◌≤◌, ◌-◌, [], length, All, vec_capacity}
use Rattle.word_rows.specs.Views.{fresh_view}
use Rattle.word_rows.specs.Tables.{IsFresh}
use Rattle.word_rows.proofs.rows.WordRows.deal.Given as goal

abbrev pub invariant-seats : goal.invariant-seats
invariant-seats g l = (l.first.table_id ≡ l.fn.first.table_id) × (l.first.me ≡ (fresh_view (l.fn.seats - l._seat), [])) × (length l.row.items ≡ l._seat) × (l.fn.seats ≤ vec_capacity l.row)
    × All (IsFresh l.fn.first.table_id) l.row.items
