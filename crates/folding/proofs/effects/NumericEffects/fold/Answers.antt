use Rattle.std.proofs.Common.{◌≡◌, List, [], ap, sym, subst, ◌∙◌}
use Rattle.std.specs.Prelude.{MatchResult, Ok, Result}
use Rattle.pddl_terms.specs.declared.actions.Schema.{Schema}
use Rattle.pddl_types.specs.declared.pairs.Pair.{Pair}
use Rattle.pddl_types.specs.WellFormed.{Each}
use Rattle.static_facts.specs.Atoms.{names}
use Rattle.ground_meaning.specs.Expressions.{FoldFault}
use Rattle.ground_meaning.specs.Actions.{FoldedChange, folded_changes}
use Rattle.folded_terms.specs.Faults.{IsFoldFault}
use Rattle.bound_actions.proofs.Members.{known_in, many_in}
use Rattle.folding.specs.internal.Changes.{IsChangeBoundBy, all_pending, with_patterns}
use Rattle.folding.proofs.Folded.{all_by_patterns, changes_bound}
use Rattle.folding.proofs.effects.NumericEffects.fold.Goals as goal

pub folded-requires : goal.folded-requires
folded-requires c =
    let p = c.self.inside.checked.now in
    let s = c.self.inside.schema.now in
    let os = c.args.objects.now in
    record {
      bound = subst (Each (IsChangeBoundBy os)) (sym (c.as_slice.ensures.value ∙ c.self.invariant.of_effects))
          (changes_bound p s.params os (many_in p s c.args.self.now c.self.view_is os c.requires.as_many) (known_in p s c.args.self.now c.self.view_is os c.requires.known) s.effects);
    }

pub returns : goal.returns
returns c =
    let p = c.self.inside.checked.now in
    let s = c.self.inside.schema.now in
    let os = c.args.objects.now in
    subst (λ (a : Result (List FoldedChange) FoldFault). MatchResult c.folded.result (λ cs. a ≡ Ok (all_pending cs.items)) (IsFoldFault a))
    (ap (with_patterns os []) (c.as_slice.ensures.value ∙ c.self.invariant.of_effects) ∙ all_by_patterns p s.params os s.effects
    ∙ ap (λ (z : Pair × Schema). folded_changes z.0 z.1.params (names z.0 os) z.1.effects) c.self.view_is)
    c.folded.ensures
