use Rattle.std.proofs.Common.{◌≡◌, ◌++◌, true, false, not, List, ap, subst, ◌∙◌, append_assoc}
use Rattle.std.specs.Prelude.{flat_map, OnOk}
use Rattle.pddl_terms.specs.declared.conditions.Cond.{Cond}
use Rattle.static_facts.specs.Literals.{conjuncts}
use Rattle.binder.specs.declared.checks.Check.{Check}
use Rattle.binder.specs.internal.Checks.{checks_of}
use Rattle.binder.proofs.Collected.{all_of_And, all_of_Or, both_of_Imply, none_of_And, none_of_Cmp, none_of_Imply, none_of_Or, turned_Not}
use Rattle.binder.proofs.resolve.+checks.Goals as goal

pub push_checks-returns-then-not-polarity : goal.push_checks-returns-then-not-polarity
push_checks-returns-then-not-polarity t c =
    none_of_And c.args.scope.now.checked.now c.args.scope.now.params.now c.args.checks.now c.args.cond.now c.in-And.conds c.args.polarity c.in-And.is c.if-not-polarity.true

pub push_checks-returns-then-polarity : goal.push_checks-returns-then-polarity
push_checks-returns-then-polarity t c =
    none_of_Or c.args.scope.now.checked.now c.args.scope.now.params.now c.args.checks.now c.args.cond.now c.in-Or.conds c.args.polarity c.in-Or.is c.if-polarity.true

pub push_checks-returns-then-polarity-2 : goal.push_checks-returns-then-polarity-2
push_checks-returns-then-polarity-2 t c =
    none_of_Imply c.args.scope.now.checked.now c.args.scope.now.params.now c.args.checks.now c.args.cond.now c.in-Imply.first c.in-Imply.second c.args.polarity c.in-Imply.is c.if-polarity-2.true

pub push_checks-returns-else-not-polarity : goal.push_checks-returns-else-not-polarity
push_checks-returns-else-not-polarity t c =
    let p = c.args.scope.now.checked.now in
    let params = c.args.scope.now.params.now in
    subst (λ (ks : List Check). OnOk c.push_all_checks.result (c.push_all_checks.new.checks ≡ c.args.checks.now ++ ks))
    (ap (flat_map (λ (d : Cond). checks_of p params (conjuncts d true))) c.as_slice.ensures
    ∙ all_of_And p params c.args.cond.now c.in-And.conds c.args.polarity c.in-And.is c.if-not-polarity.false)
    c.push_all_checks.ensures

pub push_checks-returns-else-polarity : goal.push_checks-returns-else-polarity
push_checks-returns-else-polarity t c =
    let p = c.args.scope.now.checked.now in
    let params = c.args.scope.now.params.now in
    subst (λ (ks : List Check). OnOk c.push_all_checks-in-Or.result (c.push_all_checks-in-Or.new.checks ≡ c.args.checks.now ++ ks))
    (ap (flat_map (λ (d : Cond). checks_of p params (conjuncts d false))) c.as_slice-in-Or.ensures
    ∙ all_of_Or p params c.args.cond.now c.in-Or.conds c.args.polarity c.in-Or.is c.if-polarity.false)
    c.push_all_checks-in-Or.ensures

pub push_checks-returns-in-Not : goal.push_checks-returns-in-Not
push_checks-returns-in-Not t c =
    let p = c.args.scope.now.checked.now in
    let params = c.args.scope.now.params.now in
    subst (λ (ks : List Check). OnOk c.push_checks.result (c.push_checks.new.checks ≡ c.args.checks.now ++ ks))
    (ap (λ (d : Cond). checks_of p params (conjuncts d (not c.args.polarity))) c.get.ensures ∙ turned_Not p params c.args.cond.now c.in-Not.cond c.args.polarity c.in-Not.is)
    c.push_checks.ensures

pub push_checks-returns-in_ok-push_checks-in-Imply : goal.push_checks-returns-in_ok-push_checks-in-Imply
push_checks-returns-in_ok-push_checks-in-Imply t c =
    let p = c.args.scope.now.checked.now in
    let params = c.args.scope.now.params.now in
    subst (λ (ks : List Check). OnOk c.push_checks-in-Imply-2.result (c.push_checks-in-Imply-2.new.checks ≡ ks))
    (ap (λ (ks : List Check). ks ++ checks_of p params (conjuncts c.get-in-Imply-2.result.now false)) c.in_ok-push_checks-in-Imply.ensures
    ∙ append_assoc c.args.checks.now (checks_of p params (conjuncts c.get-in-Imply.result.now true)) (checks_of p params (conjuncts c.get-in-Imply-2.result.now false))
    ∙ ap (λ (ks : List Check). c.args.checks.now ++ ks)
    (ap (λ (d : Cond). checks_of p params (conjuncts d true) ++ checks_of p params (conjuncts c.get-in-Imply-2.result.now false)) c.get-in-Imply.ensures
    ∙ ap (λ (d : Cond). checks_of p params (conjuncts c.in-Imply.first true) ++ checks_of p params (conjuncts d false)) c.get-in-Imply-2.ensures
    ∙ both_of_Imply p params c.args.cond.now c.in-Imply.first c.in-Imply.second c.args.polarity c.in-Imply.is c.if-polarity-2.false))
    c.push_checks-in-Imply-2.ensures

pub push_checks-returns-in-Cmp : goal.push_checks-returns-in-Cmp
push_checks-returns-in-Cmp t c =
    none_of_Cmp c.args.scope.now.checked.now c.args.scope.now.params.now c.args.checks.now c.args.cond.now c.in-Cmp.field-0 c.in-Cmp.field-1 c.in-Cmp.field-2 c.args.polarity c.in-Cmp.is
