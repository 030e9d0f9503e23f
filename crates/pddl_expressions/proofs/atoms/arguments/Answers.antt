use Rattle.std.proofs.Common.{◌∙◌}
use Rattle.pddl_trees.proofs.Noted.{walked}
use Rattle.pddl_expressions.proofs.Arguments.{arguments_gathered, argument_faults_noted, with_argument_of, with_faults_of}
use Rattle.pddl_expressions.proofs.atoms.arguments.Goals as goal

pub returns-clause-value : goal.returns-clause-value
returns-clause-value c =
    walked (with_argument_of c.args.variables c.args.text.now) c.each.args _ c.args.trees.now c.each.tree-index c.each-test.false c.each.invariant.args
    ∙ arguments_gathered c.args.variables c.args.text.now c.args.trees.now

pub returns-clause-faults : goal.returns-clause-faults
returns-clause-faults c =
    walked (with_faults_of c.args.variables c.args.text.now) c.each.notes.first _ c.args.trees.now c.each.tree-index c.each-test.false c.each.invariant.faults
    ∙ argument_faults_noted c.args.variables c.args.text.now c.args.notes.now.first c.args.trees.now
