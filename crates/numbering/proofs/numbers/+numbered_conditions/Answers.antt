use Rattle.std.proofs.Common.{ℕ, List, map, sym, ap, ◌∙◌}
use Rattle.ground_meaning.specs.Tasks.{numbered_condition, numbered_expression}
use Rattle.coded_actions.specs.declared.coded.CodedCond.{CodedCond}
use Rattle.coded_actions.specs.Coded.{condition_of, expression_of}
use Rattle.numbering.proofs.Numbered.{made_And, made_Cmp, made_Or}
use Rattle.numbering.proofs.numbers.+numbered_conditions.Goals as goal

pub numbered_condition-returns-in_ok-right-in-Cmp : goal.numbered_condition-returns-in_ok-right-in-Cmp
numbered_condition-returns-in_ok-right-in-Cmp t c =
    let fs = c.args.codes.now.facts.items in
    let xs = c.args.codes.now.fluents.items in
    let first = c.in_ok-left-in-Cmp.ensures ∙ ap (λ (l : List ℕ). numbered_expression l (expression_of c.in-Cmp.a)) c.deref-in-Cmp.ensures.value in
    let second = c.in_ok-right-in-Cmp.ensures ∙ ap (λ (l : List ℕ). numbered_expression l (expression_of c.in-Cmp.b)) c.deref-in-Cmp-2.ensures.value in
    made_Cmp fs xs c.in-Cmp.rel c.in-Cmp.a c.in-Cmp.b c.in_ok-left-in-Cmp.left c.in_ok-right-in-Cmp.right first second
    ∙ ap (λ (d : CodedCond). numbered_condition fs xs (condition_of d)) (sym c.in-Cmp.is)

pub numbered_condition-returns-in_ok-members-in-And : goal.numbered_condition-returns-in_ok-members-in-And
numbered_condition-returns-in_ok-members-in-And t c =
    let fs = c.args.codes.now.facts.items in
    let xs = c.args.codes.now.fluents.items in
    let same = c.in_ok-members-in-And.ensures ∙ ap (map (λ (d : CodedCond). numbered_condition fs xs (condition_of d))) c.as_slice.ensures in
    made_And fs xs c.in-And.conds c.in_ok-members-in-And.field-0 same ∙ ap (λ (d : CodedCond). numbered_condition fs xs (condition_of d)) (sym c.in-And.is)

pub numbered_condition-returns-in_ok-members-in-Or : goal.numbered_condition-returns-in_ok-members-in-Or
numbered_condition-returns-in_ok-members-in-Or t c =
    let fs = c.args.codes.now.facts.items in
    let xs = c.args.codes.now.fluents.items in
    let same = c.in_ok-members-in-Or.ensures ∙ ap (map (λ (d : CodedCond). numbered_condition fs xs (condition_of d))) c.as_slice-in-Or.ensures in
    made_Or fs xs c.in-Or.conds c.in_ok-members-in-Or.field-0 same ∙ ap (λ (d : CodedCond). numbered_condition fs xs (condition_of d)) (sym c.in-Or.is)
