-- Types on cycles, found by long jumps: a type that is reached by more steps up than there are types is on a cycle.
use Rattle.std.specs.Prelude.{ℕ, zero, suc, List, [], ◌∷◌, Option, Some, None, map, slice_get}
use Rattle.std.specs.Option.{option_and_then}
use Rattle.pddl_terms.specs.declared.names.Typed.{Typed}
use Rattle.name_table.specs.Tables.{place_in, with_text}
use Rattle.name_table.specs.TypedLists.{names_of}
use Rattle.type_order.specs.Types.{parent_of}

-- the type that is one step up, doubled so often
unfoldable pub far_above : List Typed → ℕ → List ℕ → Option (List ℕ)
far_above types zero k = parent_of types k
far_above types (suc doublings) k = option_and_then (far_above types doublings) (far_above types doublings k)

abbrev pub there : Option (Option (List ℕ)) → Option (List ℕ)
there None = None
there (Some x) = x

-- from where a jump ends, the jump of the type there
abbrev pub jumped_again : List Typed → List (Option (List ℕ)) → Option (List ℕ) → Option (List ℕ)
jumped_again types jumps None = None
jumped_again types jumps (Some k) = option_and_then (λ place. there (slice_get jumps place)) (place_in k (names_of types))

-- the jumps of all types in their order
unfoldable pub jumps_of : List Typed → ℕ → List (Option (List ℕ))
jumps_of types doublings = map (λ t. far_above types doublings t.name.text) types

-- the types where jumps end, behind others
abbrev pub with_ends : List (List ℕ) → List (Option (List ℕ)) → List (List ℕ)
with_ends seen [] = seen
with_ends seen (None ∷ jumps) = with_ends seen jumps
with_ends seen (Some k ∷ jumps) = with_ends (with_text seen k) jumps
