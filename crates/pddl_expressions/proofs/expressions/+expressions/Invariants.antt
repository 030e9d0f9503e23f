use Rattle.std.proofs.Common.{◌≡◌, ◌+◌, ◌*◌, None, drop}
use Rattle.std.specs.Prelude.{fold}
use denote.Param.Weighed.{most}
use Rattle.sexp_text.proofs.trees.Tree.TheLaws.{the_size}
use Rattle.pddl_expressions.specs.Cut.{cut_expr}
use Rattle.pddl_expressions.specs.internal.CutSteps.{with_operand}
use Rattle.pddl_trees.proofs.Noted.{with_faults_in, with_taken}
use Rattle.pddl_expressions.proofs.expressions.+expressions.Given as goal

abbrev pub decreases-expression : goal.decreases-expression
decreases-expression l = 3 * the_size l.tree.now

abbrev pub decreases-grouped : goal.decreases-grouped
decreases-grouped l = 3 * most the_size l.operands.now + 1

abbrev pub decreases-list_expression : goal.decreases-list_expression
decreases-list_expression l = 3 * most the_size l.trees.now + 2

abbrev pub invariant-grouped-each : goal.invariant-grouped-each
invariant-grouped-each l = record {
  operands : fold (with_taken (with_operand l.at l.op) (λ t. cut_expr t.expr.value) l.text) l.grouped (drop l.tree-index l.operands)
      ≡ fold (with_taken (with_operand l.at l.op) (λ t. cut_expr t.expr.value) l.text) None l.operands;
  faults : fold (with_faults_in (λ t. t.expr.faults) l.text) l.notes.first (drop l.tree-index l.operands)
      ≡ fold (with_faults_in (λ t. t.expr.faults) l.text) l.initial.notes.first l.operands;
}
