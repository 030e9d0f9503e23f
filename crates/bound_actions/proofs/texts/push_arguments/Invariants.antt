use Rattle.std.proofs.Common.{◌≡◌, ◌++◌, ◌∷◌, drop}
use Rattle.std.specs.Prelude.{flat_map}
use Rattle.pddl_terms.specs.Texts.{argument_text}
use Rattle.static_facts.specs.Atoms.{names}
use Rattle.bound_actions.proofs.texts.push_arguments.Given as goal

abbrev pub invariant-each : goal.invariant-each
invariant-each l =
    l.text.items ++ flat_map (λ a. 32 ∷ argument_text l.bound.params.now (names l.bound.checked.now l.bound.objects.now) a) (drop l.arg-index l.args)
    ≡ l.initial.text.items ++ flat_map (λ a. 32 ∷ argument_text l.bound.params.now (names l.bound.checked.now l.bound.objects.now) a) l.args
