use Rattle.std.proofs.Common.{◌≡◌, ◌+◌, ◌*◌, [], drop}
use Rattle.std.specs.Prelude.{fold}
use denote.Param.Weighed.{most}
use Rattle.sexp_text.proofs.trees.Tree.TheLaws.{the_size}
use Rattle.pddl_expressions.specs.declared.found.Found.TheVariants.{Fine}
use Rattle.pddl_expressions.specs.Cut.{cut_cond}
use Rattle.pddl_expressions.specs.internal.CutSteps.{with_condition}
use Rattle.pddl_trees.proofs.Noted.{with_faults_in, with_taken}
use Rattle.pddl_expressions.proofs.conditions.+conditions.Given as goal

abbrev pub decreases-condition : goal.decreases-condition
decreases-condition l = 4 * the_size l.tree.now

abbrev pub decreases-part : goal.decreases-part
decreases-part l = 4 * most the_size l.parts.now + 1

abbrev pub decreases-members : goal.decreases-members
decreases-members l = 4 * most the_size l.parts.now + 1

abbrev pub decreases-negated : goal.decreases-negated
decreases-negated l = 4 * most the_size l.parts.now + 2

abbrev pub decreases-implied : goal.decreases-implied
decreases-implied l = 4 * most the_size l.parts.now + 2

abbrev pub decreases-list_condition : goal.decreases-list_condition
decreases-list_condition l = 4 * most the_size l.trees.now + 3

abbrev pub invariant-members-each : goal.invariant-members-each
invariant-members-each l = record {
  conds : fold (with_taken with_condition (λ t. cut_cond t.cond.value) l.text) l.conds (drop l.tree-index l.parts)
      ≡ fold (with_taken with_condition (λ t. cut_cond t.cond.value) l.text) (Fine [] 0) l.parts;
  faults : fold (with_faults_in (λ t. t.cond.faults) l.text) l.notes.first (drop l.tree-index l.parts)
      ≡ fold (with_faults_in (λ t. t.cond.faults) l.text) l.initial.notes.first l.parts;
}
