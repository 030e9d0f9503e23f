use Rattle.std.proofs.Common.{◌≡◌, ◌++◌, ℕ, List, Bor, drop, map}
use Rattle.pddl_trees.specs.Declarations.{implied_types, names_of}
use Rattle.pddl_declarations.proofs.types.implied_types.Given as goal

abbrev pub invariant-each : goal.invariant-each
invariant-each l =
    l.implied.items ++ implied_types (map (λ (w : Bor (List ℕ)). w.now) l.known.keys) (drop l.one-index l.types)
    ≡ implied_types (names_of l.types) l.types
