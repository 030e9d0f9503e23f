use Rattle.std.proofs.Common.{ℕ, List, sym, ap, ◌∙◌}
use Rattle.name_table.specs.Tables.{table_number, with_number}
use Rattle.name_table.proofs.Hashed.{as_texts, not_some, numbered_last}
use Rattle.name_table.proofs.table.NameTable.add.Goals as goal

pub returns-clause-added : goal.returns-clause-added
returns-clause-added c =
    ap (as_texts (λ k. k.items)) c.in_ok-insert.ensures.entries
    ∙ numbered_last (λ k. k.items) c.in_ok-key.key c.args.text.now c.args.number c.self.inside.places.entries c.in_ok-key.ensures.items
    (ap (table_number c.args.text.now) c.self.view_is ∙ sym c.number.ensures ∙ not_some c.number.result (sym c.is_some.ensures ∙ c.if-is_some.false))
    ∙ ap (λ (es : List (List ℕ × ℕ)). with_number es c.args.text.now c.args.number) c.self.view_is
