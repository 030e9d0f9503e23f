use Rattle.std.proofs.Common.{◌≡◌, [], drop, Some}
use Rattle.std.specs.Prelude.{fold}
use Rattle.pddl_expressions.proofs.Arguments.{with_argument_of, with_faults_of}
use Rattle.pddl_expressions.proofs.atoms.arguments.Given as goal

abbrev pub invariant-each : goal.invariant-each
invariant-each l = record {
  args : fold (with_argument_of l.variables l.text) l.args (drop l.tree-index l.trees) ≡ fold (with_argument_of l.variables l.text) (Some []) l.trees;
  faults : fold (with_faults_of l.variables l.text) l.notes.first (drop l.tree-index l.trees) ≡ fold (with_faults_of l.variables l.text) l.initial.notes.first l.trees;
}
