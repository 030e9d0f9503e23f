use Rattle.std.proofs.Common.{ap, ◌∙◌}
use Rattle.std.specs.Option.{option_and_then}
use Rattle.std.specs.Prelude.{slice_get}
use Rattle.name_table.proofs.Numbered.{first_by_number}
use Rattle.pddl_types.proofs.lists.first_sig.Goals as goal

pub returns-in-Some : goal.returns-in-Some
returns-in-Some c =
    c.at.ensures ∙ ap (option_and_then (slice_get c.args.sigs.now)) c.in-Some.ensures
    ∙ first_by_number (λ s. s.name) c.args.text.now c.args.table.now c.args.sigs.now c.requires

pub returns-in-None : goal.returns-in-None
returns-in-None c =
    ap (option_and_then (slice_get c.args.sigs.now)) c.in-None.ensures
    ∙ first_by_number (λ s. s.name) c.args.text.now c.args.table.now c.args.sigs.now c.requires
