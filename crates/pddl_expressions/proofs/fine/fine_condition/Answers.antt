use Rattle.std.proofs.Common.{ap, ◌∙◌}
use Rattle.pddl_expressions.specs.internal.Fine.{fine_of}
use Rattle.pddl_trees.specs.Trees.{form_of}
use Rattle.pddl_expressions.proofs.Low.{low_cond}
use Rattle.pddl_trees.proofs.Quiet.{no_faults}
use Rattle.pddl_expressions.proofs.fine.fine_condition.Goals as goal

pub returns-clause-value : goal.returns-clause-value
returns-clause-value c = λ quiet.
    let text = c.args.text.now in
    let t = c.args.tree.now in
    let read = c.in_ok-found.ensures in
    c.fine.ensures ∙ ap fine_of read.value ∙ low_cond text t (no_faults c.args.notes.now.first c.condition.new.notes.first (form_of text t).cond.faults read.faults quiet)
