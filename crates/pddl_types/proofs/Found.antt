-- What is found by the tables of a pair.
use Rattle.std.proofs.Common.{◌≡◌, ◌<◌, ◌+◌, ℕ, suc, length, arith, List, [], ◌∷◌, ◌++◌, Option, Some, None, refl, sym, ap, ◌∙◌, is_some}
use Rattle.std.specs.Prelude.{bytes_eq, option_map}
use Rattle.std.specs.Option.{option_or}
use Rattle.std.proofs.lemmas.List.Folds.{find-append}
use Rattle.pddl_terms.specs.declared.actions.Schema.{Schema}
use Rattle.pddl_terms.specs.declared.names.Name.{Name}
use Rattle.pddl_terms.specs.declared.names.Sig.{Sig}
use Rattle.pddl_terms.specs.declared.names.Typed.{Typed}
use Rattle.pddl_terms.specs.declared.files.Domain.{Domain}
use Rattle.name_table.specs.Tables.{table_number, is_text_among, numbered, place_in}
use Rattle.name_table.specs.TypedLists.{first_typed, names_of}
use Rattle.pddl_types.specs.Pairs.{heads_of, changed_functions, changed_heads, schema_names}
use Rattle.name_table.proofs.Numbered.{number_is_place, place_behind, place_within, some_place}

pub constant_found : (text : List ℕ) (xs ys : List Typed) (t : Typed) → Some t ≡ first_typed text xs → Some t ≡ first_typed text (xs ++ ys)
constant_found text xs ys t h =
    ap (λ (x : Option Typed). option_or x (first_typed text ys)) h ∙ sym (find-append (λ (s : Typed). bytes_eq text s.name.text) xs ys)

pub object_found : (text : List ℕ) (xs ys : List Typed) (r : Option Typed) → None ≡ first_typed text xs → r ≡ first_typed text ys → r ≡ first_typed text (xs ++ ys)
object_found text xs ys r none h =
    h ∙ ap (λ (x : Option Typed). option_or x (first_typed text ys)) none ∙ sym (find-append (λ (s : Typed). bytes_eq text s.name.text) xs ys)

pub changed_found : (text : List ℕ) (d : Domain) (numbers : List (List ℕ × ℕ)) (number : Option ℕ) → numbers ≡ numbered (changed_heads d.schemas) → number ≡ table_number text numbers
    → is_some number ≡ is_text_among text (changed_functions d)
changed_found text d numbers number table h =
    ap is_some (h ∙ ap (table_number text) table ∙ number_is_place text (changed_heads d.schemas)) ∙ some_place text (changed_heads d.schemas)

-- ---- numbers of constants and objects

pub names_append : (xs ys : List Typed) → names_of (xs ++ ys) ≡ names_of xs ++ names_of ys
names_append [] ys = refl
names_append (x ∷ xs) ys = ap (λ (ns : List Name). x.name ∷ ns) (names_append xs ys)

length_names : (xs : List Typed) → length (names_of xs) ≡ length xs
length_names [] = refl
length_names (x ∷ xs) = ap suc (length_names xs)

length_heads : (xs : List Sig) → length (heads_of xs) ≡ length xs
length_heads [] = refl
length_heads (x ∷ xs) = ap suc (length_heads xs)

length_schema_names : (xs : List Schema) → length (schema_names xs) ≡ length xs
length_schema_names [] = refl
length_schema_names (x ∷ xs) = ap suc (length_schema_names xs)

split_place : (text : List ℕ) (xs ys : List Typed) → place_in text (names_of (xs ++ ys)) ≡ option_or (place_in text (names_of xs)) (option_map (λ i. length xs + i) (place_in text (names_of ys)))
split_place text xs ys =
    ap (place_in text) (names_append xs ys) ∙ place_behind text (names_of xs) (names_of ys)
    ∙ ap (λ (n : ℕ). option_or (place_in text (names_of xs)) (option_map (λ i. n + i) (place_in text (names_of ys)))) (length_names xs)

-- the place of a constant is that among constants and objects
pub constant_place : (text : List ℕ) (xs ys : List Typed) (i : ℕ) → Some i ≡ place_in text (names_of xs) → Some i ≡ place_in text (names_of (xs ++ ys))
constant_place text xs ys i place =
    ap (λ (x : Option ℕ). option_or x (option_map (λ j. length xs + j) (place_in text (names_of ys)))) place ∙ sym (split_place text xs ys)

-- that of an object is behind the constants
pub object_place : (text : List ℕ) (xs ys : List Typed) (place : Option ℕ) → None ≡ place_in text (names_of xs) → place ≡ place_in text (names_of ys)
    → option_map (λ i. length xs + i) place ≡ place_in text (names_of (xs ++ ys))
object_place text xs ys place none behind =
    ap (option_map (λ j. length xs + j)) behind ∙ ap (λ (x : Option ℕ). option_or x (option_map (λ j. length xs + j) (place_in text (names_of ys)))) none ∙ sym (split_place text xs ys)

pub typed_within : (text : List ℕ) (xs : List Typed) (i : ℕ) → Some i ≡ place_in text (names_of xs) → i < length xs
typed_within text xs i place = let within = place_within text (names_of xs) i place in omega (arith, length_names xs)

pub schema_within : (text : List ℕ) (xs : List Schema) (i : ℕ) → Some i ≡ place_in text (schema_names xs) → i < length xs
schema_within text xs i place = let within = place_within text (schema_names xs) i place in omega (arith, length_schema_names xs)

pub sig_within : (text : List ℕ) (xs : List Sig) (i : ℕ) → Some i ≡ place_in text (heads_of xs) → i < length xs
sig_within text xs i place = let within = place_within text (heads_of xs) i place in omega (arith, length_heads xs)
