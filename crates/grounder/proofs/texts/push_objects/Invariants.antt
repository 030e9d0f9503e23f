use Rattle.std.proofs.Common.{◌≡◌, ◌++◌, ◌∷◌, drop}
use Rattle.std.specs.Prelude.{flat_map}
use Rattle.static_facts.specs.Atoms.{object_text}
use Rattle.grounder.proofs.texts.push_objects.Given as goal

abbrev pub invariant-each : goal.invariant-each
invariant-each l =
    l.text.items ++ flat_map (λ o. 32 ∷ object_text l.checked o) (drop l.object-index l.objects)
    ≡ l.initial.text.items ++ flat_map (λ o. 32 ∷ object_text l.checked o) l.objects
