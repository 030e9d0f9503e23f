-- How the text of an atom is put together.
use Rattle.std.proofs.Common.{◌≡◌, ◌++◌, ℕ, zero, suc, Some, List, [], ◌∷◌, map, sym, ap, ◌∙◌, slice_get}
use Rattle.std.specs.Prelude.{flat_map}
use Rattle.std.specs.List.{join_with_byte}
use Rattle.std.proofs.lemmas.List.{append-nil}
use Rattle.pddl_terms.specs.declared.names.Typed.{Typed}
use Rattle.pddl_types.specs.declared.pairs.Pair.{Pair}
use Rattle.pddl_types.specs.Pairs.{objects_of}
use Rattle.name_table.specs.TypedLists.{names_of}
use Rattle.static_facts.specs.Atoms.{names, object_text, text_at, text_of_atom}

named_there : (xs : List Typed) (n : ℕ) (t : Typed) → slice_get xs n ≡ Some t → text_at (names_of xs) n ≡ t.name.text
named_there [] n t h = cc
named_there (x ∷ xs) zero t h = let same : x ≡ t = cc in ap (λ (u : Typed). u.name.text) same
named_there (x ∷ xs) (suc n) t h = named_there xs n t h

-- the name of an object
pub object_named : (p : Pair) (o : ℕ) (t : Typed) → slice_get (objects_of p) o ≡ Some t → object_text p o ≡ t.name.text
object_named p o t h = named_there (objects_of p) o t h

joined : {A : Type 0} (text : A → List ℕ) (x : List ℕ) (items : List A) → join_with_byte 32 (x ∷ map text items) ≡ x ++ flat_map (λ a. 32 ∷ text a) items
joined text x [] = sym (append-nil x)
joined text x (a ∷ items) = ap (λ (ys : List ℕ). x ++ (32 ∷ ys)) (joined text (text a) items)

-- the text of an atom by its parts
pub spelled : (p : Pair) (head : List ℕ) (os : List ℕ) → (40 ∷ (head ++ flat_map (λ o. 32 ∷ object_text p o) os)) ++ 41 ∷ [] ≡ text_of_atom (head ∷ names p os)
spelled p head os = ap (λ (ys : List ℕ). 40 ∷ (ys ++ 41 ∷ [])) (sym (joined (object_text p) head os))

-- and as it is written, part by part
pub spelled_from : (p : Pair) (head os a b c d e : List ℕ) → a ≡ [] → b ≡ a ++ 40 ∷ [] → c ≡ b ++ head → d ≡ c ++ flat_map (λ o. 32 ∷ object_text p o) os → e ≡ d ++ 41 ∷ []
    → e ≡ text_of_atom (head ∷ names p os)
spelled_from p head os a b c d e empty bracket name objects close =
    close
    ∙ ap (λ (l : List ℕ). l ++ 41 ∷ [])
    (objects
    ∙ ap (λ (l : List ℕ). l ++ flat_map (λ o. 32 ∷ object_text p o) os) (name ∙ ap (λ (l : List ℕ). l ++ head) (bracket ∙ ap (λ (l : List ℕ). l ++ 40 ∷ []) empty)))
    ∙ spelled p head os
