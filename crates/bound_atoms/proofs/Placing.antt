-- The places of names, counted from the front.
use Rattle.std.proofs.Common.{◌≡◌, ◌+◌, ℕ, Bool, true, false, List, [], ◌∷◌, Option, Some, None, refl, sym, ap, ◌∙◌, arith, is_some, inl, inr, if◌then◌else◌}
use Rattle.std.specs.Prelude.{bytes_eq, map, option_map}
use Rattle.std.proofs.lemmas.Slice.Eq.{bytes_eq-Decides}
use Rattle.pddl_terms.specs.declared.names.Name.{Name}
use Rattle.name_table.specs.Tables.{place_in}
use Rattle.pddl_types.specs.WellFormed.{Stands}

pub at_start : (found : Option ℕ) → option_map (λ j. j + 0) found ≡ found
at_start None = refl
at_start (Some j) = ap Some (omega arith)

pub further : (place : ℕ) (found : Option ℕ) → option_map (λ j. j + place) (option_map (λ j. j + 1) found) ≡ option_map (λ j. j + (place + 1)) found
further place None = refl
further place (Some j) = ap Some (omega arith)

-- a name of something that stands in a list has a place
pub stands_placed : {A : Type 0} (name : A → Name) (text : List ℕ) (x : A) (xs : List A) → Stands x xs → text ≡ (name x).text → is_some (place_in text (map name xs)) ≡ true
stands_placed name text x [] s e = elim s [ ]
stands_placed name text x (y ∷ ys) s e = by_test (bytes_eq text (name y).text) refl s (λ r. stands_placed name text x ys r e)
  where
    behind : (place : Option ℕ) → is_some place ≡ true → is_some (option_map (λ j. j + 1) place) ≡ true
    behind None h = h
    behind (Some j) h = refl

    by_test : (test : Bool) → bytes_eq text (name y).text ≡ test → Stands x (y ∷ ys) → (Stands x ys → is_some (place_in text (map name ys)) ≡ true)
        → is_some (if test then Some 0 else option_map (λ j. j + 1) (place_in text (map name ys))) ≡ true
    by_test true t h rest = refl
    by_test false t (inl i) rest =
        let bad = sym t ∙ (bytes_eq-Decides text (name y).text).1 (e ∙ ap (λ z. (name z).text) i) in cc
    by_test false t (inr r) rest = behind (place_in text (map name ys)) (rest r)
