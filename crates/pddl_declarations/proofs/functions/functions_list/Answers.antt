use Rattle.std.proofs.Common.{◌+◌, List, [], drop, sym, ap, ◌∙◌}
use Rattle.sexp_text.specs.declared.trees.Tree.{Tree}
use Rattle.pddl_trees.specs.Faults.{all_noted}
use Rattle.pddl_declarations.specs.internal.FunctionSteps.{functions_with}
use Rattle.std.proofs.Math.ListN.{drop_of_length-le}
use Rattle.pddl_trees.proofs.Quiet.{quiet_behind}
use Rattle.pddl_declarations.proofs.TypedSteps.{drop_next}
use Rattle.pddl_declarations.proofs.functions.functions_list.Goals as goal

pub each-preserved : goal.each-preserved
each-preserved c =
    let text = c.args.text.now in
    let at = c.args.at in
    let rest : List Tree = drop (c.each.tree-index + 1) c.args.trees.now in
    let next = drop_next c.args.trees.now c.each.tree-index c.tree-item.result c.each-test.true c.tree-item.is in
    let taken = c.in_ok-take.ensures in
    record {
      faults = taken.faults at rest
          ∙ ap (λ (ts : List Tree). all_noted c.each.notes.first (functions_with c.each.functions text at ts).faults) (sym next) ∙ c.each.invariant.faults;
      items = λ quiet.
          taken.items quiet at rest
          ∙ ap (λ (ts : List Tree). (functions_with c.each.functions text at ts).items) (sym next) ∙ c.each.invariant.items (taken.quiet quiet);
    }

pub returns-clause-faults : goal.returns-clause-faults
returns-clause-faults c =
    let text = c.args.text.now in
    let none = drop_of_length-le c.args.trees.now c.each-test.false in
    c.finish-sigs.ensures.faults text
    ∙ ap (λ (ts : List Tree). all_noted c.each.notes.first (functions_with c.each.functions text c.args.at ts).faults) (sym none)
    ∙ c.each.invariant.faults

pub returns-clause-items : goal.returns-clause-items
returns-clause-items c = λ quiet.
    let text = c.args.text.now in
    let none = drop_of_length-le c.args.trees.now c.each-test.false in
    let before = quiet_behind c.each.notes.first c.finish-sigs.new.notes.first (functions_with c.each.functions text c.args.at []).faults (c.finish-sigs.ensures.faults text) quiet in
    c.from_vec.ensures ∙ c.finish-sigs.ensures.items text
    ∙ ap (λ (ts : List Tree). (functions_with c.each.functions text c.args.at ts).items) (sym none)
    ∙ c.each.invariant.items before
