use Rattle.std.proofs.Common.{◌≡◌, ◌++◌, ◌∷◌, drop}
use Rattle.std.specs.Prelude.{flat_map}
use Rattle.pddl_terms.specs.Texts.{argument_text}
use Rattle.pddl_meaning.proofs.texts.append_arguments.Given as goal

abbrev pub invariant-each : goal.invariant-each
invariant-each l =
    l.out.items ++ flat_map (λ a. 32 ∷ argument_text l.binding.params.now l.binding.args.now a) (drop l.arg-index l.args)
    ≡ l.initial.out.items ++ flat_map (λ a. 32 ∷ argument_text l.binding.params.now l.binding.args.now a) l.args
