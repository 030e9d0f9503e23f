use Rattle.std.proofs.Common.{◌∙◌, ap, sym}
use Rattle.std.proofs.lemmas.Result.{IfOk-weaker}
use Rattle.pddl_terms.specs.declared.conditions.Cond.{Cond}
use Rattle.pddl_terms.specs.declared.conditions.Cond.TheVariants as condition
use Rattle.pddl_trees.specs.Faults.{all_noted}
use Rattle.pddl_expressions.specs.declared.conditions.Connective.TheVariants as connective
use Rattle.pddl_trees.specs.Forms.{Parsed}
use Rattle.pddl_trees.specs.Trees.{forms_of}
use Rattle.pddl_expressions.specs.Cut.{cut_cond}
use Rattle.pddl_expressions.specs.internal.CutSteps.{raised}
use Rattle.pddl_trees.proofs.Noted.{faults_walked, walked, with_faults_in}
use Rattle.pddl_expressions.proofs.Tails.{tail_of}
use Rattle.pddl_expressions.proofs.Connecting.{all_And, all_Or, conditions_gathered, listed_connective, all_conditions}
use Rattle.pddl_expressions.proofs.conditions.+conditions.Goals as goal

pub members-returns-clause-faults : goal.members-returns-clause-faults
members-returns-clause-faults t c =
    walked (with_faults_in (λ t. t.cond.faults) c.args.text.now) c.each.notes.first _ c.args.parts.now c.each.tree-index c.each-test.false c.each.invariant.faults
    ∙ faults_walked (λ t. t.cond.faults) c.args.text.now c.args.notes.now.first c.args.parts.now

pub list_condition-returns-in_ok-members-in-And-clause-value : goal.list_condition-returns-in_ok-members-in-And-clause-value
list_condition-returns-in_ok-members-in-And-clause-value t c =
    let text = c.args.text.now in
    let trees = c.args.trees.now in
    let listed = listed_connective text c.args.at trees c.head-item.result connective.And c.in-len1-up.len_at_least c.head-item.is (sym c.in-And.is ∙ c.connective_at.ensures) in
    c.conjunction.ensures
    ∙ ap (raised condition.And) (c.in_ok-members-in-And.ensures.value ∙ conditions_gathered (forms_of text (tail_of trees)))
    ∙ all_And (all_conditions (forms_of text (tail_of trees)))
    ∙ ap (λ (p : Parsed Cond). cut_cond p.value) (sym listed)

pub list_condition-returns-in_ok-members-in-And-clause-faults : goal.list_condition-returns-in_ok-members-in-And-clause-faults
list_condition-returns-in_ok-members-in-And-clause-faults t c =
    let listed = listed_connective c.args.text.now c.args.at c.args.trees.now c.head-item.result connective.And c.in-len1-up.len_at_least c.head-item.is (sym c.in-And.is ∙ c.connective_at.ensures) in
    c.in_ok-members-in-And.ensures.faults ∙ ap (λ (p : Parsed Cond). all_noted c.args.notes.now.first p.faults) (sym listed)

pub list_condition-returns-in_ok-members-in-Or-clause-value : goal.list_condition-returns-in_ok-members-in-Or-clause-value
list_condition-returns-in_ok-members-in-Or-clause-value t c =
    let text = c.args.text.now in
    let trees = c.args.trees.now in
    let listed = listed_connective text c.args.at trees c.head-item.result connective.Or c.in-len1-up.len_at_least c.head-item.is (sym c.in-Or.is ∙ c.connective_at.ensures) in
    c.disjunction.ensures
    ∙ ap (raised condition.Or) (c.in_ok-members-in-Or.ensures.value ∙ conditions_gathered (forms_of text (tail_of trees)))
    ∙ all_Or (all_conditions (forms_of text (tail_of trees)))
    ∙ ap (λ (p : Parsed Cond). cut_cond p.value) (sym listed)

pub list_condition-returns-in_ok-members-in-Or-clause-faults : goal.list_condition-returns-in_ok-members-in-Or-clause-faults
list_condition-returns-in_ok-members-in-Or-clause-faults t c =
    let listed = listed_connective c.args.text.now c.args.at c.args.trees.now c.head-item.result connective.Or c.in-len1-up.len_at_least c.head-item.is (sym c.in-Or.is ∙ c.connective_at.ensures) in
    c.in_ok-members-in-Or.ensures.faults ∙ ap (λ (p : Parsed Cond). all_noted c.args.notes.now.first p.faults) (sym listed)

pub list_condition-returns-in-Not-clause-value : goal.list_condition-returns-in-Not-clause-value
list_condition-returns-in-Not-clause-value t c =
    let listed = listed_connective c.args.text.now c.args.at c.args.trees.now c.head-item.result connective.Not c.in-len1-up.len_at_least c.head-item.is (sym c.in-Not.is ∙ c.connective_at.ensures) in
    IfOk-weaker c.negated.result _ _ (λ found e. e ∙ ap (λ (p : Parsed Cond). cut_cond p.value) (sym listed)) c.negated.ensures.value

pub list_condition-returns-in-Not-clause-faults : goal.list_condition-returns-in-Not-clause-faults
list_condition-returns-in-Not-clause-faults t c =
    let listed = listed_connective c.args.text.now c.args.at c.args.trees.now c.head-item.result connective.Not c.in-len1-up.len_at_least c.head-item.is (sym c.in-Not.is ∙ c.connective_at.ensures) in
    IfOk-weaker c.negated.result _ _ (λ found e. e ∙ ap (λ (p : Parsed Cond). all_noted c.args.notes.now.first p.faults) (sym listed)) c.negated.ensures.faults

pub list_condition-returns-in-Imply-clause-value : goal.list_condition-returns-in-Imply-clause-value
list_condition-returns-in-Imply-clause-value t c =
    let listed = listed_connective c.args.text.now c.args.at c.args.trees.now c.head-item.result connective.Imply c.in-len1-up.len_at_least c.head-item.is (sym c.in-Imply.is ∙ c.connective_at.ensures) in
    IfOk-weaker c.implied.result _ _ (λ found e. e ∙ ap (λ (p : Parsed Cond). cut_cond p.value) (sym listed)) c.implied.ensures.value

pub list_condition-returns-in-Imply-clause-faults : goal.list_condition-returns-in-Imply-clause-faults
list_condition-returns-in-Imply-clause-faults t c =
    let listed = listed_connective c.args.text.now c.args.at c.args.trees.now c.head-item.result connective.Imply c.in-len1-up.len_at_least c.head-item.is (sym c.in-Imply.is ∙ c.connective_at.ensures) in
    IfOk-weaker c.implied.result _ _ (λ found e. e ∙ ap (λ (p : Parsed Cond). all_noted c.args.notes.now.first p.faults) (sym listed)) c.implied.ensures.faults

pub list_condition-returns-in-Compared-clause-value : goal.list_condition-returns-in-Compared-clause-value
list_condition-returns-in-Compared-clause-value t c =
    let listed = listed_connective c.args.text.now c.args.at c.args.trees.now c.head-item.result (connective.Compared c.in-Compared.rel) c.in-len1-up.len_at_least c.head-item.is (sym c.in-Compared.is ∙ c.connective_at.ensures) in
    IfOk-weaker c.comparison.result _ _ (λ found e. e ∙ ap (λ (p : Parsed Cond). cut_cond p.value) (sym listed)) c.comparison.ensures.value

pub list_condition-returns-in-Compared-clause-faults : goal.list_condition-returns-in-Compared-clause-faults
list_condition-returns-in-Compared-clause-faults t c =
    let listed = listed_connective c.args.text.now c.args.at c.args.trees.now c.head-item.result (connective.Compared c.in-Compared.rel) c.in-len1-up.len_at_least c.head-item.is (sym c.in-Compared.is ∙ c.connective_at.ensures) in
    IfOk-weaker c.comparison.result _ _ (λ found e. e ∙ ap (λ (p : Parsed Cond). all_noted c.args.notes.now.first p.faults) (sym listed)) c.comparison.ensures.faults

pub list_condition-returns-in-Fact-clause-value : goal.list_condition-returns-in-Fact-clause-value
list_condition-returns-in-Fact-clause-value t c =
    let listed = listed_connective c.args.text.now c.args.at c.args.trees.now c.head-item.result connective.Fact c.in-len1-up.len_at_least c.head-item.is (sym c.in-Fact.is ∙ c.connective_at.ensures) in
    IfOk-weaker c.fact.result _ _ (λ found e. e ∙ ap (λ (p : Parsed Cond). cut_cond p.value) (sym listed)) c.fact.ensures.value

pub list_condition-returns-in-Fact-clause-faults : goal.list_condition-returns-in-Fact-clause-faults
list_condition-returns-in-Fact-clause-faults t c =
    let listed = listed_connective c.args.text.now c.args.at c.args.trees.now c.head-item.result connective.Fact c.in-len1-up.len_at_least c.head-item.is (sym c.in-Fact.is ∙ c.connective_at.ensures) in
    IfOk-weaker c.fact.result _ _ (λ found e. e ∙ ap (λ (p : Parsed Cond). all_noted c.args.notes.now.first p.faults) (sym listed)) c.fact.ensures.faults
