-- The types of a domain: which are declared, and which of them descends from which.
use Rattle.std.specs.Prelude.{ℕ, ◌≡◌, ◌||◌, Bool, false, List, [], ◌∷◌, Option, Some, None, codes, bytes_eq, option_map, is_some, if◌then◌else◌}
use Rattle.std.specs.Option.{option_map_or}
use Rattle.pddl_terms.specs.declared.names.Typed.{Typed}
use Rattle.name_table.specs.TypedLists.{first_typed}

-- the type that is always there
abbrev pub top_type : List ℕ
top_type = codes "object"

abbrev pub is_declared : List Typed → List ℕ → Bool
is_declared types k = bytes_eq k top_type || is_some (first_typed k types)

-- the type right above a declared one; a type that is declared again has its first declaration, and above `object` is none
abbrev pub parent_of : List Typed → List ℕ → Option (List ℕ)
parent_of types k = if bytes_eq k top_type then None else option_map (λ t. t.kind.text) (first_typed k types)

-- a type descends from the one above it, and from those from which that one descends
pub data Descends (types : List Typed) : List ℕ → List ℕ → Type 0 where
  child : (k p : List ℕ) → parent_of types k ≡ Some p → Descends types k p
  above : (k p q : List ℕ) → parent_of types k ≡ Some p → Descends types p q → Descends types k q

-- whether one type is reached from another by one step up at least, and by one for each of some declarations at most
abbrev pub climbs_to : List Typed → List Typed → List ℕ → List ℕ → Bool
climbs_to types [] k q = false
climbs_to types (s ∷ steps) k q = option_map_or (λ p. bytes_eq p q || climbs_to types steps p q) (parent_of types k) false

-- whether a type descends from another; a walk of more steps than there are declarations only goes round
unfoldable pub descends : List Typed → List ℕ → List ℕ → Bool
descends types k q = climbs_to types types k q

-- whether a type is another one or descends from it
abbrev pub is_within : List Typed → List ℕ → List ℕ → Bool
is_within types k q = bytes_eq k q || descends types k q
