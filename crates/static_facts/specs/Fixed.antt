-- What no action changes: a predicate or a function that no effect names is fixed.
use Rattle.std.specs.Prelude.{ℕ, Bool, List, [], ◌∷◌, map, not, flat_map}
use Rattle.pddl_terms.specs.declared.names.Name.{Name}
use Rattle.pddl_terms.specs.declared.actions.Effect.{Effect}
use Rattle.pddl_terms.specs.declared.actions.Effect.TheVariants as effect
use Rattle.pddl_terms.specs.declared.actions.Schema.{Schema}
use Rattle.pddl_terms.specs.declared.files.Domain.{Domain}
use Rattle.name_table.specs.Tables.{is_text_among}
use Rattle.pddl_types.specs.declared.pairs.Pair.{Pair}
use Rattle.pddl_types.specs.Pairs.{changed_functions}

abbrev pub changed_predicate : Effect → List Name
changed_predicate (effect.Add a) = a.head ∷ []
changed_predicate (effect.Del a) = a.head ∷ []
changed_predicate (effect.Num how a e) = []

-- the predicates whose facts effects add or delete, by their names there
abbrev pub changed_predicate_heads : List Schema → List Name
changed_predicate_heads schemas = flat_map (λ s. flat_map changed_predicate s.effects) schemas

abbrev pub changed_predicates : Domain → List (List ℕ)
changed_predicates d = map (λ n. n.text) (changed_predicate_heads d.schemas)

unfoldable pub is_fixed_predicate : Pair → List ℕ → Bool
is_fixed_predicate p head = not (is_text_among head (changed_predicates p.domain))

unfoldable pub is_fixed_function : Pair → List ℕ → Bool
is_fixed_function p head = not (is_text_among head (changed_functions p.domain))
