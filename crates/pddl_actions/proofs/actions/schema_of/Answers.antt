use Rattle.std.proofs.Common.{◌≡◌, List, Option, None, ap, ◌∙◌}
use Rattle.std.specs.Option.{option_copied}
use Rattle.sexp_text.specs.declared.trees.Tree.{Tree}
use Rattle.pddl_terms.specs.declared.names.Name.{Name}
use Rattle.pddl_terms.specs.declared.names.Typed.{Typed}
use Rattle.pddl_terms.specs.declared.conditions.Cond.{Cond}
use Rattle.pddl_terms.specs.declared.actions.Effect.{Effect}
use Rattle.pddl_terms.specs.declared.actions.Schema.{Schema}
use Rattle.pddl_trees.specs.Forms.{both}
use Rattle.pddl_trees.specs.Trees.{form_of}
use Rattle.pddl_trees.specs.Actions.{Clauses, clauses_from, effects_in, no_clauses, parameters_of, precondition_of}
use Rattle.pddl_trees.specs.Names.{name_of}
use Rattle.pddl_trees.proofs.Quiet.{quiet_behind}
use Rattle.pddl_actions.proofs.actions.schema_of.Goals as goal

abbrev made_of : List Typed → List Effect → Option Name → Option Cond → Option Schema
made_of params effects name pre = both (λ n k. record { name = n; params = params; pre = k; effects = effects }) name pre

pub returns-clause-value : goal.returns-clause-value
returns-clause-value c = λ quiet.
    let text = c.args.text.now in
    let said : Clauses = clauses_from text c.args.at None no_clauses c.args.trees.now in
    let parts = c.action_parts-parts.result in
    let same = c.action_parts-parts.ensures.parts in
    let params = c.in_ok-params.ensures in
    let pre = c.in_ok-pre.ensures in
    let effects = c.in_ok-effects.ensures in
    let before_effects : c.precondition_of.new.notes.first ≡ None =
    quiet_behind c.precondition_of.new.notes.first c.effects_in.new.notes.first (effects_in text (option_copied parts.effect)).faults effects.faults quiet in
    let before_pre : c.parameters_of.new.notes.first ≡ None =
    quiet_behind c.parameters_of.new.notes.first c.precondition_of.new.notes.first (precondition_of text (option_copied parts.precondition)).faults pre.faults before_effects in
    let params-is : c.in_ok-params.params ≡ (parameters_of text said.parameters).items = params.items before_pre ∙ ap (λ (t : Option Tree). (parameters_of text t).items) same.parameters in
    let pre-is : c.in_ok-pre.pre ≡ (precondition_of text said.precondition).value = pre.value before_effects ∙ ap (λ (t : Option Tree). (precondition_of text t).value) same.precondition in
    let effects-is : c.in_ok-effects.effects ≡ (effects_in text said.effect).items = effects.items quiet ∙ ap (λ (t : Option Tree). (effects_in text t).items) same.effect in
    let name-is : c.in_ok-name.name ≡ (name_of (form_of text c.args.head.now)).value = c.in_ok-name.ensures.value in
    c.made.ensures
    ∙ ap (λ (x : List Typed). made_of x c.in_ok-effects.effects c.in_ok-name.name c.in_ok-pre.pre) params-is
    ∙ ap (λ (x : List Effect). made_of (parameters_of text said.parameters).items x c.in_ok-name.name c.in_ok-pre.pre) effects-is
    ∙ ap (λ (x : Option Name). made_of (parameters_of text said.parameters).items (effects_in text said.effect).items x c.in_ok-pre.pre) name-is
    ∙ ap (λ (x : Option Cond). made_of (parameters_of text said.parameters).items (effects_in text said.effect).items (name_of (form_of text c.args.head.now)).value x) pre-is
