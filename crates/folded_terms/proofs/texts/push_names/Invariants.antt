use Rattle.std.proofs.Common.{◌≡◌, ◌++◌, ◌∷◌, drop}
use Rattle.std.specs.Prelude.{flat_map}
use Rattle.pddl_types.specs.Pairs.{written_text}
use Rattle.folded_terms.proofs.texts.push_names.Given as goal

abbrev pub invariant-each : goal.invariant-each
invariant-each l = l.text.items ++ flat_map (λ a. 32 ∷ written_text a) (drop l.arg-index l.args) ≡ l.initial.text.items ++ flat_map (λ a. 32 ∷ written_text a) l.args
