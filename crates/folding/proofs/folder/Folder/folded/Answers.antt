use Rattle.std.proofs.Common.{◌≡◌, true, ap, sym, subst, ◌∙◌}
use Rattle.std.specs.Prelude.{MatchResult, Ok, Result}
use Rattle.pddl_terms.specs.declared.actions.Schema.{Schema}
use Rattle.pddl_types.specs.declared.pairs.Pair.{Pair}
use Rattle.static_facts.specs.Atoms.{names}
use Rattle.ground_meaning.specs.Expressions.{FoldFault}
use Rattle.ground_meaning.specs.Conditions.{folded_condition}
use Rattle.ground_meaning.specs.Actions.{FoldedAction}
use Rattle.folded_terms.specs.Faults.{IsFoldFault}
use Rattle.folded_terms.specs.Settled.{settled_of}
use Rattle.folding.specs.internal.Parts.{action_parts}
use Rattle.folding.proofs.Folded.{fault_same}
use Rattle.folding.proofs.Outcomes.{condition_refused, condition_then}
use Rattle.folding.proofs.SameParts.{condition_for}
use Rattle.folding.proofs.folder.Folder.folded.Goals as goal

pub returns-in-Ok : goal.returns-in-Ok
returns-in-Ok c =
    let q = c.self.inside.condition in
    let w = c.args.self.now in
    let os = c.args.objects.now in
    let same = c.self.invariant.is_condition ∙ ap (λ (z : Pair × Schema). (z.0, z.1.params, z.1.pre)) c.self.view_is in
    subst (λ (a : Result FoldedAction FoldFault). MatchResult c.with_effects.result (λ f. a ≡ Ok (action_parts f)) (IsFoldFault a))
    (sym (condition_then w.0 w.1 (names w.0 os) (settled_of c.in-Ok.condition) (sym (condition_for q w same os) ∙ c.in-Ok.ensures))) c.with_effects.ensures

pub returns-in-Err : goal.returns-in-Err
returns-in-Err c =
    let q = c.self.inside.condition in
    let w = c.args.self.now in
    let os = c.args.objects.now in
    let same = c.self.invariant.is_condition ∙ ap (λ (z : Pair × Schema). (z.0, z.1.params, z.1.pre)) c.self.view_is in
    condition_refused w.0 w.1 (names w.0 os) c.in-Err.error
    (fault_same (folded_condition q.0 q.1 (names q.0 os) q.2 true) (folded_condition w.0 w.1.params (names w.0 os) w.1.pre true) c.in-Err.error (condition_for q w same os) c.in-Err.ensures)
