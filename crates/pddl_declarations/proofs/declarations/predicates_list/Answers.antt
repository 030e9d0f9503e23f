use Rattle.std.proofs.Common.{◌+◌, ◌++◌, List, Option, drop, sym, ap, ◌∙◌}
use Rattle.sexp_text.specs.declared.trees.Tree.{Tree}
use Rattle.pddl_terms.specs.declared.names.Sig.{Sig}
use Rattle.pddl_trees.specs.declared.faults.Fault.{Fault}
use Rattle.pddl_trees.specs.Faults.{all_noted}
use Rattle.pddl_trees.specs.Declarations.{predicates_list, signature}
use Rattle.pddl_declarations.proofs.Gathering.{gathered_more, noted_more}
use Rattle.pddl_trees.proofs.Quiet.{quiet_behind}
use Rattle.pddl_declarations.proofs.TypedSteps.{drop_next}
use Rattle.pddl_declarations.proofs.declarations.predicates_list.Goals as goal

pub each-preserved : goal.each-preserved
each-preserved c =
    let text = c.args.text.now in
    let value : Tree → Option Sig = λ t. (signature text t).value in
    let faults : Tree → List Fault = λ t. (signature text t).faults in
    let t : Tree = c.tree-item.result in
    let rest : List Tree = drop (c.each.tree-index + 1) c.args.trees.now in
    let next = drop_next c.args.trees.now c.each.tree-index t c.each-test.true c.tree-item.is in
    let read = c.in_ok-sig.ensures in
    record {
      faults = noted_more faults t rest c.each.notes.first c.signature.new.notes.first read.faults
          ∙ ap (λ (ts : List Tree). all_noted c.each.notes.first (predicates_list text ts).faults) (sym next) ∙ c.each.invariant.faults;
      items = λ quiet.
          gathered_more value t rest c.each.sigs.items c.push_some.new.items.items c.in_ok-sig.sig (read.value quiet) c.in_ok-push_some.ensures
          ∙ ap (λ (ts : List Tree). c.each.sigs.items ++ (predicates_list text ts).items) (sym next)
          ∙ c.each.invariant.items (quiet_behind c.each.notes.first c.signature.new.notes.first (faults t) read.faults quiet);
    }
