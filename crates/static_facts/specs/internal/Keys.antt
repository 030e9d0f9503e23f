-- The codes of atoms as they are written in the initial state.
use Rattle.std.specs.Prelude.{ℕ, ◌+◌, Bool, false, List, [], ◌∷◌, Option, Some, find, nat_eq, option_map, option_and_then, slice_get}
use Rattle.std.specs.Option.{option_map_or}
use Rattle.std.specs.List.{list_any}
use Rattle.num_ends.specs.Decimal.{Decimal, trimmed}
use Rattle.pddl_terms.specs.declared.names.Arg.{Arg}
use Rattle.pddl_terms.specs.declared.names.Atom.{Atom}
use Rattle.name_table.specs.Tables.{place_in}
use Rattle.name_table.specs.TypedLists.{names_of}
use Rattle.pddl_types.specs.declared.pairs.Pair.{Pair}
use Rattle.pddl_types.specs.Pairs.{heads_of, objects_of, written_text}
use Rattle.static_facts.specs.Codes.{coded}

-- the digit of the object at a place, where one stands there
abbrev pub digit_at : List ℕ → ℕ → ℕ
digit_at os place = option_map_or (λ o. o + 1) (slice_get os place) 0

-- the numbers of the objects that arguments name, where each names one
abbrev pub object_numbers : Pair → List Arg → Option (List ℕ)
object_numbers p [] = Some []
object_numbers p (a ∷ args) =
    option_and_then (λ o. option_map (λ os. o ∷ os) (object_numbers p args)) (place_in (written_text a) (names_of (objects_of p)))

-- the code of an atom by the number of its head
abbrev pub code_by_number : Pair → Option ℕ → List Arg → Option ℕ
code_by_number p symbol args = option_and_then (λ n. option_and_then (coded n) (object_numbers p args)) symbol

abbrev pub fact_key : Pair → Atom → Option ℕ
fact_key p a = code_by_number p (place_in a.head.text (heads_of p.domain.predicates)) a.args

abbrev pub fluent_key : Pair → Atom → Option ℕ
fluent_key p a = code_by_number p (place_in a.head.text (heads_of p.domain.functions)) a.args

abbrev pub has_code : ℕ → Option ℕ → Bool
has_code code key = option_map_or (nat_eq code) key false

-- a fact with this code is among some
abbrev pub is_coded_fact : Pair → ℕ → List Atom → Bool
is_coded_fact p code facts = list_any (λ a. has_code code (fact_key p a)) facts

-- the value of the first fluent with this code among some
abbrev pub coded_value : Pair → ℕ → List (Atom × Decimal) → Option Decimal
coded_value p code values = option_map (λ v. trimmed v.1) (find (λ v. has_code code (fluent_key p v.0)) values)
