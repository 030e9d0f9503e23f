use Rattle.std.proofs.Common.{◌++◌, ℕ, List, Bor, drop, map}
use Rattle.pddl_trees.specs.Declarations.{names_of}
use Rattle.pddl_declarations.specs.internal.Typing.{AreSameWords}
use Rattle.pddl_declarations.proofs.types.known_names.Given as goal

abbrev pub invariant-each : goal.invariant-each
invariant-each l = AreSameWords (map (λ (w : Bor (List ℕ)). w.now) l.known.keys ++ names_of (drop l.one-index l.types)) (names_of l.types)
