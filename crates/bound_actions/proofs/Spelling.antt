-- How the texts of actions and atoms are put together.
use Rattle.std.proofs.Common.{◌≡◌, ◌<◌, ◌≤◌, ◌+◌, ◌++◌, ℕ, zero, suc, Bool, false, Option, Some, List, [], ◌∷◌, map, length, drop, get_or, refl, sym, ap, ◌∙◌, arith, slice_get, slice_index_or}
use Rattle.std.specs.Prelude.{bytes_eq, flat_map, if◌then◌else◌}
use Rattle.std.specs.List.{join_with_byte}
use Rattle.pddl_terms.specs.declared.names.Arg.{Arg}
use Rattle.pddl_terms.specs.declared.names.Atom.{Atom}
use Rattle.pddl_terms.specs.declared.names.Typed.{Typed}
use Rattle.pddl_terms.specs.declared.actions.Schema.{Schema}
use Rattle.pddl_terms.specs.Texts.{argument_text, variable_text}
use Rattle.pddl_types.specs.declared.pairs.Pair.{Pair}
use Rattle.pddl_types.specs.Pairs.{objects_of}
use Rattle.name_table.specs.TypedLists.{names_of}
use Rattle.static_facts.specs.Atoms.{atom_of, names, object_text, text_at, text_of_atom}
use Rattle.ground_meaning.specs.Actions.{action_text}

named_there : (xs : List Typed) (n : ℕ) (t : Typed) → slice_get xs n ≡ Some t → text_at (names_of xs) n ≡ t.name.text
named_there [] n t h = cc
named_there (x ∷ xs) zero t h = let same : x ≡ t = cc in ap (λ (u : Typed). u.name.text) same
named_there (x ∷ xs) (suc n) t h = named_there xs n t h

-- the name of an object
pub object_named : (p : Pair) (o : ℕ) (t : Typed) → slice_get (objects_of p) o ≡ Some t → object_text p o ≡ t.name.text
object_named p o t h = named_there (objects_of p) o t h

append_none : (xs : List ℕ) → xs ++ [] ≡ xs
append_none [] = refl
append_none (y ∷ ys) = ap (λ (zs : List ℕ). y ∷ zs) (append_none ys)

joined : {A : Type 0} (text : A → List ℕ) (x : List ℕ) (items : List A) → join_with_byte 32 (x ∷ map text items) ≡ x ++ flat_map (λ a. 32 ∷ text a) items
joined text x [] = sym (append_none x)
joined text x (a ∷ items) = ap (λ (ys : List ℕ). x ++ (32 ∷ ys)) (joined text (text a) items)

-- the text of an action by its parts
pub action_spelled : (p : Pair) (s : Schema) (os : List ℕ) → (40 ∷ (s.name.text ++ flat_map (λ o. 32 ∷ object_text p o) os)) ++ 41 ∷ [] ≡ action_text s (names p os)
action_spelled p s os = ap (λ (ys : List ℕ). 40 ∷ (ys ++ 41 ∷ [])) (sym (joined (object_text p) s.name.text os))

-- the text of an atom by its parts
pub atom_spelled : (params : List Typed) (args : List (List ℕ)) (a : Atom)
    → (40 ∷ (a.head.text ++ flat_map (λ b. 32 ∷ argument_text params args b) a.args)) ++ 41 ∷ [] ≡ text_of_atom (atom_of params args a)
atom_spelled params args a = ap (λ (ys : List ℕ). 40 ∷ (ys ++ 41 ∷ [])) (sym (joined (argument_text params args) a.head.text a.args))

-- ---- variables

passed_first : (p : Pair) (params : List Typed) (os : List ℕ) (v : List ℕ) (n : ℕ) (x : Typed) → n < length params → n < length os
    → bytes_eq v (get_or params n x).name.text ≡ false → variable_text (drop (suc n) params) (names p (drop (suc n) os)) v ≡ variable_text (drop n params) (names p (drop n os)) v
passed_first p [] os v n x h k other = absurd (omega (arith, h))
passed_first p (t ∷ params) [] v n x h k other = absurd (omega (arith, k))
passed_first p (t ∷ params) (o ∷ os) v zero x h k other = sym (ap (λ (b : Bool). if b then object_text p o else variable_text params (names p os) v) other)
passed_first p (t ∷ params) (o ∷ os) v (suc n) x h k other = passed_first p params os v n x (omega (arith, h)) (omega (arith, k)) other

-- a parameter of another name is passed over
pub passed : (p : Pair) (params : List Typed) (os : List ℕ) (v : List ℕ) (n : ℕ) (x : Typed) → n < length params → n < length os
    → bytes_eq v (get_or params n x).name.text ≡ false → variable_text (drop (n + 1) params) (names p (drop (n + 1) os)) v ≡ variable_text (drop n params) (names p (drop n os)) v
passed p params os v n x h k other =
    let next : n + 1 ≡ suc n = omega arith in
    ap (λ (i : ℕ). variable_text (drop i params) (names p (drop i os)) v) next ∙ passed_first p params os v n x h k other

no_objects : (params : List Typed) (v : List ℕ) → variable_text params [] v ≡ v
no_objects [] v = refl
no_objects (t ∷ params) v = refl

-- a variable past the last object stands for itself
pub past : (p : Pair) (params : List Typed) (os : List ℕ) (v : List ℕ) (n : ℕ) → length os ≤ n → variable_text (drop n params) (names p (drop n os)) v ≡ v
past p params [] v zero h = no_objects params v
past p params [] v (suc n) h = no_objects (drop (suc n) params) v
past p params (o ∷ os) v zero h = absurd (omega (arith, h))
past p [] (o ∷ os) v (suc n) h = refl
past p (t ∷ params) (o ∷ os) v (suc n) h = past p params os v n (omega (arith, h))
