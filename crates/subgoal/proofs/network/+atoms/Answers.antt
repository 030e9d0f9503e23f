use Rattle.std.proofs.Common.{◌∙◌, All, List, OnOk, ap, rules, subst, sym}
use Rattle.std.specs.List.{flat_map}
use Rattle.ground_task.specs.declared.raw.GCond.{GCond}
use Rattle.ground_task.specs.declared.raw.GCond.TheViews.{the_lemmas}
use Rattle.ground_task.specs.Inside.{IsDecidable}
use Rattle.ground_task.proofs.Evaluable.{members_And, members_Or}
use Rattle.subgoal.specs.Network.{atoms_of, Adds}
use Rattle.subgoal.proofs.AtomLists.{atoms_And, atoms_False, atoms_Or, atoms_True, own_Cmp, own_Fact}
use Rattle.subgoal.proofs.Networks.{none_added}
use Rattle.subgoal.proofs.network.+atoms.Goals as goal

pub push_condition-push_conditions-requires : goal.push_condition-push_conditions-requires
push_condition-push_conditions-requires t c =
    let whole = subst (IsDecidable c.args.task.now) c.in-And.is c.requires.decidable in
    let members = members_And c.args.task.now c.in-And.conds whole in
    (search (rules, the_lemmas), subst (All (IsDecidable c.args.task.now)) (sym c.as_slice.ensures) members)

pub push_condition-push_conditions-requires-in-Or : goal.push_condition-push_conditions-requires-in-Or
push_condition-push_conditions-requires-in-Or t c =
    let whole = subst (IsDecidable c.args.task.now) c.in-Or.is c.requires.decidable in
    let members = members_Or c.args.task.now c.in-Or.conds whole in
    (search (rules, the_lemmas), subst (All (IsDecidable c.args.task.now)) (sym c.as_slice-in-Or.ensures) members)

pub push_condition-returns-in-True : goal.push_condition-returns-in-True
push_condition-returns-in-True t c =
    none_added c.args.task.now c.args.network.now (atoms_of c.args.cond.now) (ap atoms_of c.in-True.is ∙ atoms_True)

pub push_condition-returns-in-False : goal.push_condition-returns-in-False
push_condition-returns-in-False t c =
    none_added c.args.task.now c.args.network.now (atoms_of c.args.cond.now) (ap atoms_of c.in-False.is ∙ atoms_False)

pub push_condition-returns-in-Fact : goal.push_condition-returns-in-Fact
push_condition-returns-in-Fact t c =
    subst (λ (cs : List GCond). OnOk c.push_literal.result (Adds c.args.task.now c.args.network.now c.push_literal.new.network cs))
    (own_Fact c.args.cond.now c.in-Fact.fact c.in-Fact.truth c.in-Fact.is) c.push_literal.ensures

pub push_condition-returns-in-Cmp : goal.push_condition-returns-in-Cmp
push_condition-returns-in-Cmp t c =
    subst (λ (cs : List GCond). OnOk c.push_comparison.result (Adds c.args.task.now c.args.network.now c.push_comparison.new.network cs))
    (own_Cmp c.args.cond.now c.in-Cmp.rel c.in-Cmp.left c.in-Cmp.right c.in-Cmp.is) c.push_comparison.ensures

pub push_condition-returns-in-And : goal.push_condition-returns-in-And
push_condition-returns-in-And t c =
    subst (λ (cs : List GCond). OnOk c.push_conditions.result (Adds c.args.task.now c.args.network.now c.push_conditions.new.network cs))
    (ap (flat_map atoms_of) c.as_slice.ensures ∙ sym (ap atoms_of c.in-And.is ∙ atoms_And c.in-And.conds)) c.push_conditions.ensures

pub push_condition-returns-in-Or : goal.push_condition-returns-in-Or
push_condition-returns-in-Or t c =
    subst (λ (cs : List GCond). OnOk c.push_conditions-in-Or.result (Adds c.args.task.now c.args.network.now c.push_conditions-in-Or.new.network cs))
    (ap (flat_map atoms_of) c.as_slice-in-Or.ensures ∙ sym (ap atoms_of c.in-Or.is ∙ atoms_Or c.in-Or.conds)) c.push_conditions-in-Or.ensures
