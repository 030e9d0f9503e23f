use Rattle.std.proofs.Common.{◌∙◌, ap, sym}
use Rattle.ground_task.specs.declared.answers.Truth.{Truth}
use Rattle.ground_task.specs.Ranged.{ranged_truth}
use Rattle.subgoal.specs.Equations.{atom_value}
use Rattle.subgoal.specs.Help.{help_by_truth}
use Rattle.subgoal.specs.Unmet.{value_seen}
use Rattle.subgoal.proofs.Seen.{literal_known, seen_Cmp, seen_Fact}
use Rattle.subgoal.proofs.atoms.weight.Goals as goal

pub returns-in-Fact : goal.returns-in-Fact
returns-in-Fact c =
    let view = c.args.view.now in
    let atom = c.args.atom.now in
    c.literal.ensures (literal_known view.task.now.raw.actions atom.cond.now atom.leaf c.in-Fact.fact c.in-Fact.truth c.requires.atom.known c.in-Fact.is)
    ∙ sym (ap (value_seen view) c.in-Fact.is ∙ seen_Fact view c.in-Fact.fact c.in-Fact.truth)

pub returns-in-Cmp : goal.returns-in-Cmp
returns-in-Cmp c =
    let view = c.args.view.now in
    let r = c.in-Cmp.rel in
    let left = c.in-Cmp.left in
    let right = c.in-Cmp.right in
    c.comparison.ensures
    ∙ ap (λ (t : Truth). atom_value view.task.now.raw.actions view.values.now (help_by_truth view.task.now view.state.now r left right t))
    (c.truth-truth.ensures ∙ ap (ranged_truth view.task.now view.state.now) c.in-Cmp.is)
    ∙ sym (ap (value_seen view) c.in-Cmp.is ∙ seen_Cmp view r left right)
