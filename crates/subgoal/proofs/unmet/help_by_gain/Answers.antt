use Rattle.std.proofs.Common.{List, ap, sym, ◌∙◌}
use Rattle.std.specs.List.{list_any}
use Rattle.simple_atoms.specs.Forms.{Term}
use Rattle.subgoal.specs.Help.{changes, help_by_gain, once_where}
use Rattle.subgoal.proofs.unmet.help_by_gain.Goals as goal

pub returns-in-None : goal.returns-in-None
returns-in-None c =
    c.once_where.ensures
    ∙ ap once_where (c.changes_term.ensures ∙ ap (λ (ts : List Term). list_any (λ t. changes c.args.action.now t.0) ts) c.as_slice.ensures)
    ∙ ap (help_by_gain c.args.form.now c.args.value c.args.action.now) (sym c.in-None.is)
