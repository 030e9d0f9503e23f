-- Parameters found by the table of their names.
use Rattle.std.proofs.Common.{◌≡◌, ◌<◌, ◌+◌, ℕ, suc, Bool, true, false, List, [], ◌∷◌, length, Option, Some, None, refl, ap, ◌∙◌, arith, is_some, if◌then◌else◌}
use Rattle.std.specs.Prelude.{bytes_eq, option_map, unwrap_or}
use Rattle.pddl_terms.specs.declared.names.Typed.{Typed}
use Rattle.name_table.specs.Tables.{numbered, place_in, table_number}
use Rattle.name_table.specs.TypedLists.{first_typed, names_of}
use Rattle.name_table.proofs.Numbered.{number_is_place, place_within}

pub bound_place : (text : List ℕ) (params : List Typed) → is_some (place_in text (names_of params)) ≡ is_some (first_typed text params)
bound_place text [] = refl
bound_place text (t ∷ params) = cases (bytes_eq text t.name.text) (place_in text (names_of params)) (bound_place text params)
  where
    cases : (test : Bool) (place : Option ℕ) → is_some place ≡ is_some (first_typed text params)
        → is_some (if test then Some 0 else option_map (λ j. j + 1) place) ≡ is_some (if test then Some t else first_typed text params)
    cases true place h = refl
    cases false None h = h
    cases false (Some i) h = h

-- whether a name is a parameter's, by the table
pub bound_by_table : (text : List ℕ) (table : List (List ℕ × ℕ)) (params : List Typed) (number : Option ℕ) → table ≡ numbered (names_of params) → number ≡ table_number text table
    → is_some number ≡ is_some (first_typed text params)
bound_by_table text table params number is h =
    ap is_some (h ∙ ap (table_number text) is ∙ number_is_place text (names_of params)) ∙ bound_place text params

length_names : (params : List Typed) → length (names_of params) ≡ length params
length_names [] = refl
length_names (t ∷ params) = ap suc (length_names params)

-- the number of a parameter, by the table
pub place_in_slot : (text : List ℕ) (table : List (List ℕ × ℕ)) (params : List Typed) (number : Option ℕ) → table ≡ numbered (names_of params) → number ≡ table_number text table
    → unwrap_or number 0 ≡ unwrap_or (place_in text (names_of params)) 0
place_in_slot text table params number is h = ap (λ (x : Option ℕ). unwrap_or x 0) (h ∙ ap (table_number text) is ∙ number_is_place text (names_of params))

pub place_is_small : (text : List ℕ) (table : List (List ℕ × ℕ)) (params : List Typed) (i : ℕ) → table ≡ numbered (names_of params) → Some i ≡ table_number text table → i < length params
place_is_small text table params i is h =
    let within = place_within text (names_of params) i (h ∙ ap (table_number text) is ∙ number_is_place text (names_of params)) in
    let same = length_names params in
    omega (arith, within, same)
