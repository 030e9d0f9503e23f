use Rattle.std.proofs.Common.{ap, ◌∙◌}
use Rattle.name_table.specs.Tables.{table_number}
use Rattle.name_table.proofs.Hashed.{looked_up}
use Rattle.name_table.proofs.table.NameTable.number.Goals as goal

pub returns : goal.returns
returns c =
    c.copied.ensures ∙ c.get.ensures.value ∙ looked_up (λ k. k.items) c.args.text.now c.self.inside.places.entries
    ∙ ap (table_number c.args.text.now) c.self.view_is
