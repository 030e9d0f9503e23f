-- Predicates and functions by the places of their names.
use Rattle.std.specs.Prelude.{ℕ, List, is_some, unwrap_or}
use Rattle.name_table.specs.Tables.{place_in}
use Rattle.pddl_types.specs.declared.pairs.Pair.{Pair}
use Rattle.pddl_types.specs.Pairs.{heads_of}
use Rattle.static_facts.specs.Fixed.{is_fixed_function, is_fixed_predicate}
use Rattle.bound_atoms.specs.declared.symbols.Symbol.{Symbol}

-- the predicate of a name
abbrev pub fact_symbol : Pair → List ℕ → Symbol
fact_symbol p head = record {
  number = unwrap_or (place_in head (heads_of p.domain.predicates)) 0;
  declared = is_some (place_in head (heads_of p.domain.predicates));
  fixed = is_fixed_predicate p head;
}

-- the function of a name
abbrev pub fluent_symbol : Pair → List ℕ → Symbol
fluent_symbol p head = record {
  number = unwrap_or (place_in head (heads_of p.domain.functions)) 0;
  declared = is_some (place_in head (heads_of p.domain.functions));
  fixed = is_fixed_function p head;
}
