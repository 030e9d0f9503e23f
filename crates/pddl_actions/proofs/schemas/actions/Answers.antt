use Rattle.std.proofs.Common.{◌+◌, ◌++◌, List, Option, drop, sym, ap, ◌∙◌}
use Rattle.sexp_text.specs.declared.trees.Tree.{Tree}
use Rattle.pddl_terms.specs.declared.actions.Schema.{Schema}
use Rattle.pddl_trees.specs.declared.faults.Fault.{Fault}
use Rattle.pddl_trees.specs.Faults.{all_noted}
use Rattle.pddl_actions.specs.internal.ActionLists.{action_faults, action_value, all_actions}
use Rattle.pddl_declarations.proofs.Gathering.{gathered_more, noted_more}
use Rattle.pddl_trees.proofs.Quiet.{quiet_behind}
use Rattle.pddl_declarations.proofs.TypedSteps.{drop_next}
use Rattle.pddl_actions.proofs.schemas.actions.Goals as goal

pub each-preserved : goal.each-preserved
each-preserved c =
    let text = c.args.text.now in
    let value : Tree → Option Schema = λ t. action_value text t in
    let faults : Tree → List Fault = λ t. action_faults text t in
    let t : Tree = c.section-item.result in
    let rest : List Tree = drop (c.each.section-index + 1) c.args.sections.now in
    let next = drop_next c.args.sections.now c.each.section-index t c.each-test.true c.section-item.is in
    let read = c.in_ok-schema.ensures in
    record {
      faults = noted_more faults t rest c.each.notes.first c.action.new.notes.first read.faults
          ∙ ap (λ (ts : List Tree). all_noted c.each.notes.first (all_actions text ts).faults) (sym next) ∙ c.each.invariant.faults;
      items = λ quiet.
          gathered_more value t rest c.each.schemas.items c.push_some.new.items.items c.in_ok-schema.schema (read.value quiet) c.in_ok-push_some.ensures
          ∙ ap (λ (ts : List Tree). c.each.schemas.items ++ (all_actions text ts).items) (sym next)
          ∙ c.each.invariant.items (quiet_behind c.each.notes.first c.action.new.notes.first (faults t) read.faults quiet);
    }
