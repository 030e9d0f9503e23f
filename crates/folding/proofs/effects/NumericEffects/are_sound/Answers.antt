use Rattle.std.proofs.Common.{ap, sym, subst, ◌∙◌}
use Rattle.std.specs.Prelude.{flat_map}
use Rattle.pddl_terms.specs.declared.actions.Schema.{Schema}
use Rattle.pddl_types.specs.declared.pairs.Pair.{Pair}
use Rattle.pddl_types.specs.WellFormed.{Each}
use Rattle.static_facts.specs.Atoms.{names}
use Rattle.ground_meaning.specs.Actions.{folded_changes}
use Rattle.bound_actions.proofs.Members.{known_in, many_in}
use Rattle.folding.specs.internal.Changes.{IsChangeBoundBy, change_patterns}
use Rattle.folding.specs.internal.Sound.{are_sound, is_answered}
use Rattle.folding.proofs.Folded.{all_by_patterns, changes_bound}
use Rattle.folding.proofs.SoundEffects.{all_sound}
use Rattle.folding.proofs.effects.NumericEffects.are_sound.Goals as goal

pub are_sound-requires : goal.are_sound-requires
are_sound-requires c =
    let p = c.self.inside.checked.now in
    let s = c.self.inside.schema.now in
    let os = c.args.objects.now in
    record {
      bound = subst (Each (IsChangeBoundBy os)) (sym (c.as_slice.ensures.value ∙ c.self.invariant.of_effects))
          (changes_bound p s.params os (many_in p s c.args.self.now c.self.view_is os c.requires.as_many) (known_in p s c.args.self.now c.self.view_is os c.requires.known) s.effects);
    }

pub returns : goal.returns
returns c =
    let p = c.self.inside.checked.now in
    let s = c.self.inside.schema.now in
    let os = c.args.objects.now in
    λ h.
    sym (ap is_answered (all_by_patterns p s.params os s.effects ∙ ap (λ (z : Pair × Schema). folded_changes z.0 z.1.params (names z.0 os) z.1.effects) c.self.view_is))
    ∙ all_sound os (flat_map (change_patterns p s.params) s.effects) (sym (ap (are_sound os) (c.as_slice.ensures.value ∙ c.self.invariant.of_effects)) ∙ sym c.are_sound.ensures ∙ h)
