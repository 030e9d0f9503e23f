use Rattle.std.proofs.Common.{ap, refl, ◌∙◌}
use Rattle.std.specs.Prelude.{bytes_eq}
use Rattle.name_table.specs.Tables.{is_text_among}
use Rattle.name_table.proofs.Hashed.{any_item}
use Rattle.name_table.proofs.set.NameSet.has.Goals as goal

pub returns : goal.returns
returns c =
    c.contains.ensures
    ∙ any_item (λ t. t.now) bytes_eq (λ x y. bytes_eq x.now y.now) (λ x y. refl) c.args.text c.self.inside.texts.keys
    ∙ ap (is_text_among c.args.text.now) c.self.view_is
