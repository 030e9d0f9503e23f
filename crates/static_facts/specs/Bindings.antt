-- The bindings of an action's parameters to objects that static literals leave.
use Rattle.std.specs.Prelude.{ℕ, ◌||◌, Bool, true, not, List, [], ◌∷◌, map, take, length, filter, flat_map, sum, slice_get}
use Rattle.std.specs.Option.{option_map_or}
use Rattle.std.specs.List.{list_all, range_with_len}
use Rattle.pddl_terms.specs.declared.names.Typed.{Typed}
use Rattle.pddl_terms.specs.declared.actions.Schema.{Schema}
use Rattle.type_order.specs.Types.{is_within}
use Rattle.pddl_types.specs.declared.pairs.Pair.{Pair}
use Rattle.pddl_types.specs.Pairs.{objects_of}
use Rattle.static_facts.specs.Atoms.{names}
use Rattle.static_facts.specs.Literals.{conjuncts, is_judged, is_true_literal, Literal}

-- the type of the object with a number
abbrev pub kind_of : Pair → ℕ → List ℕ
kind_of p o = option_map_or (λ t. t.kind.text) (slice_get (objects_of p) o) []

-- the numbers of the objects that fit a parameter, rising
abbrev pub fitting : Pair → Typed → List ℕ
fitting p param = filter (λ o. is_within p.domain.types (kind_of p o) param.kind.text) (range_with_len 0 (length (objects_of p)))

-- all tuples of objects that fit parameters, in lexicographic order
abbrev pub tuples : Pair → List Typed → List (List ℕ)
tuples p [] = [] ∷ []
tuples p (param ∷ params) = flat_map (λ o. map (λ os. o ∷ os) (tuples p params)) (fitting p param)

-- a literal isn't known to be false once as many of an action's first parameters are bound to these objects
abbrev pub spares : Pair → Schema → List ℕ → Literal → Bool
spares p s os l = not (is_judged p (take (length os) s.params) l) || is_true_literal p (take (length os) s.params) (names p os) l

-- no top conjunct is known to be false
unfoldable pub survives : Pair → Schema → List ℕ → Bool
survives p s os = list_all (spares p s os) (conjuncts s.pre true)

-- the tuples of a length that survive, in lexicographic order
unfoldable pub prefixes_of : Pair → Schema → ℕ → List (List ℕ)
prefixes_of p s k = filter (survives p s) (tuples p (take k s.params))

-- the bindings of all parameters
abbrev pub bindings : Pair → Schema → List (List ℕ)
bindings p s = prefixes_of p s (length s.params)

-- how many tuples survive, of all lengths from 1
unfoldable pub prefix_count : Pair → Schema → ℕ
prefix_count p s = sum (map (λ k. length (prefixes_of p s k)) (range_with_len 1 (length s.params)))
