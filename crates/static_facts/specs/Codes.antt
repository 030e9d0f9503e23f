-- Atoms as numbers: no two atoms have one code, and codes rise by declaration and then by the objects from left to right.
use Rattle.std.specs.Prelude.{ℕ, zero, suc, ◌+◌, ◌*◌, ◌&&◌, Bool, List, [], ◌∷◌, Option, Some, None, map, length, nat_le, nat_lt, unwrap_or, if◌then◌else◌}
use Rattle.std.specs.List.{list_all}
use Rattle.pddl_terms.specs.declared.names.Name.{Name}
use Rattle.name_table.specs.Tables.{place_in}
use Rattle.name_table.specs.TypedLists.{names_of}
use Rattle.pddl_types.specs.declared.pairs.Pair.{Pair}
use Rattle.pddl_types.specs.Pairs.{heads_of, objects_of}

-- a number followed by as many digits to the base 4096, where a digit is an object's number and 1, and 0 stands where no object is left
abbrev pub with_digits : ℕ → ℕ → List ℕ → ℕ
with_digits zero code os = code
with_digits (suc digits) code [] = with_digits digits (code * 4096) []
with_digits (suc digits) code (o ∷ os) = with_digits digits (code * 4096 + (o + 1)) os

-- the code of the predicate or function with a number and of the objects with these numbers
unfoldable pub code_of : ℕ → List ℕ → ℕ
code_of symbol os = with_digits 8 symbol os

-- at most 8 objects, whose numbers fit a digit: of these the code can be read back
abbrev pub is_codable : List ℕ → Bool
is_codable os = nat_le (length os) 8 && list_all (λ o. nat_lt o 4095) os

-- the code, where there is one
abbrev pub coded : ℕ → List ℕ → Option ℕ
coded symbol os = if is_codable os then Some (code_of symbol os) else None

-- ---- the codes of atoms

-- the number of an object by its name
abbrev pub object_number : Pair → List ℕ → ℕ
object_number p text = unwrap_or (place_in text (names_of (objects_of p))) 0

abbrev pub code_among : List Name → Pair → List (List ℕ) → ℕ
code_among heads p [] = 0
code_among heads p (head ∷ objects) = code_of (unwrap_or (place_in head heads) 0) (map (object_number p) objects)

-- the code of a fact
abbrev pub fact_code : Pair → List (List ℕ) → ℕ
fact_code p = code_among (heads_of p.domain.predicates) p

-- the code of a fluent
abbrev pub fluent_code : Pair → List (List ℕ) → ℕ
fluent_code p = code_among (heads_of p.domain.functions) p
