use Rattle.std.proofs.Common.{◌∙◌, arith}
use Rattle.std.proofs.lemmas.Result.{IfOk-weaker}
use Rattle.sexp_text.proofs.trees.Tree.TheLaws.{the_size}
use Rattle.pddl_trees.proofs.Noted.{faults_walked, if_ok_both, walked, with_faults_in}
use Rattle.pddl_expressions.proofs.Tails.{most_tail}
use Rattle.pddl_expressions.proofs.Listed.{listed_operation, built_operation, built_faults}
use Rattle.pddl_expressions.proofs.expressions.+expressions.Goals as goal

pub list_expression-grouped-requires : goal.list_expression-grouped-requires
list_expression-grouped-requires t c = (omega (arith, most_tail the_size c.args.trees.now), tt)

pub grouped-returns-clause-faults : goal.grouped-returns-clause-faults
grouped-returns-clause-faults t c =
    walked (with_faults_in (λ t. t.expr.faults) c.args.text.now) c.each.notes.first _ c.args.operands.now c.each.tree-index c.each-test.false c.each.invariant.faults
    ∙ faults_walked (λ t. t.expr.faults) c.args.text.now c.args.notes.now.first c.args.operands.now

pub list_expression-returns-in_ok-grouped-in-Some-clause-value : goal.list_expression-returns-in_ok-grouped-in-Some-clause-value
list_expression-returns-in_ok-grouped-in-Some-clause-value t c =
    let listed = listed_operation c.args.text.now c.args.at c.args.trees.now c.head-item.result c.in-Some.op c.in-len1-up.len_at_least c.head-item.is c.in-Some.ensures in
    IfOk-weaker c.operation.result _ _
    (λ found built. built_operation c.args.text.now c.args.at c.args.trees.now c.in-Some.op c.in_ok-grouped-in-Some.grouped found listed c.in_ok-grouped-in-Some.ensures.value built)
    (c.operation.ensures.value c.args.text.now)

pub list_expression-returns-in_ok-grouped-in-Some-clause-faults : goal.list_expression-returns-in_ok-grouped-in-Some-clause-faults
list_expression-returns-in_ok-grouped-in-Some-clause-faults t c =
    let text = c.args.text.now in
    let trees = c.args.trees.now in
    let listed = listed_operation text c.args.at trees c.head-item.result c.in-Some.op c.in-len1-up.len_at_least c.head-item.is c.in-Some.ensures in
    if_ok_both c.operation.result _ _ _
    (λ found built noted. built_faults text c.args.at trees c.in-Some.op c.args.notes.now.first c.grouped.new.notes.first c.operation.new.notes.first found listed c.in_ok-grouped-in-Some.ensures.faults
    (built_operation text c.args.at trees c.in-Some.op c.in_ok-grouped-in-Some.grouped found listed c.in_ok-grouped-in-Some.ensures.value built) noted)
    (c.operation.ensures.value text)
    (c.operation.ensures.faults text)
