-- The fluents that an action assigns, with names looked up.
use Rattle.std.specs.Prelude.{◌≡◌, List, flat_map, map}
use Rattle.pddl_terms.specs.declared.actions.Schema.{Schema}
use Rattle.pddl_types.specs.declared.pairs.Pair.{Pair}
use Rattle.bound_actions.specs.declared.unset.Assigned.{Assigned}
use Rattle.bound_actions.specs.Patterns.{assigned, patterns}

-- in the order of the text
pub record AreAssigned (p : Pair) (s : Schema) (fluents : List Assigned) : Type 0 where
  pub of_effects : map (λ f. f.fluent) fluents ≡ patterns p s.params (flat_map assigned s.effects)
