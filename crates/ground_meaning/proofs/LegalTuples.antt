-- The names of a tuple of objects that fit are legal arguments, and an action is found by its name.
use Rattle.std.proofs.Common.{◌≡◌, ◌<◌, ◌+◌, ◌++◌, ℕ, zero, suc, Bool, true, false, List, [], ◌∷◌, map, length, Option, Some, refl, sym, ap, subst, ◌∙◌, inl, inr, arith, cond}
use Rattle.std.specs.Prelude.{bytes_eq, find, slice_get}
use Rattle.std.specs.Option.{option_map_or}
use Rattle.std.specs.List.{range_with_len}
use Rattle.std.proofs.lemmas.Slice.Eq.{bytes_eq-Decides}
use Rattle.pddl_terms.specs.declared.names.Name.{Name}
use Rattle.pddl_terms.specs.declared.names.Typed.{Typed}
use Rattle.pddl_terms.specs.declared.actions.Schema.{Schema}
use Rattle.name_table.specs.TypedLists.{first_typed, names_of}
use Rattle.type_order.specs.Types.{is_within}
use Rattle.pddl_types.specs.declared.pairs.Pair.{Pair}
use Rattle.pddl_types.specs.Pairs.{objects_of}
use Rattle.pddl_types.specs.WellFormed.{AreDistinct, Stands, WellFormed, texts_of}
use Rattle.static_facts.specs.Atoms.{names, object_text, text_at}
use Rattle.static_facts.specs.Bindings.{fitting, kind_of, tuples}
use Rattle.pddl_meaning.specs.Steps.{all_fit, fits, schema_named}
use Rattle.pddl_meaning.proofs.Bounds.{true_both}
use Rattle.ground_meaning.proofs.Lists.{stands_filtered, stands_in_flat, stands_mapped}

-- ---- lists

pub below_range : (from count n : ℕ) → Stands n (range_with_len from count) → n < from + count
below_range from zero n s = elim s [ ]
below_range from (suc count) n (inl e) = omega (arith, e)
below_range from (suc count) n (inr s) = let rest = below_range (from + 1) count n s in omega (arith, rest)

pub get_map : {A B : Type 0} (f : A → B) (xs : List A) (n : ℕ) (y : B) → slice_get (map f xs) n ≡ Some y → (x : A) × Stands x xs × (y ≡ f x)
get_map f [] n y h = cc
get_map f (x ∷ xs) zero y h = let same : f x ≡ y = cc in (x, inl refl, sym same)
get_map f (x ∷ xs) (suc n) y h = let rest = get_map f xs n y h in (rest.0, inr rest.1, rest.2)

-- ---- by names

name_stands : {A : Type 0} (name : A → Name) (xs : List A) (x : A) → Stands x xs → Stands (name x).text (texts_of (map name xs))
name_stands name [] x s = elim s [ ]
name_stands name (y ∷ ys) x (inl e) = inl (ap (λ z. (name z).text) e)
name_stands name (y ∷ ys) x (inr s) = inr (name_stands name ys x s)

-- what has a name that nothing else has is found by it
pub found_once : {A : Type 0} (name : A → Name) (xs : List A) (x : A) → AreDistinct (texts_of (map name xs)) → Stands x xs → find (λ y. bytes_eq (name x).text (name y).text) xs ≡ Some x
found_once name [] x once s = elim s [ ]
found_once name (y ∷ ys) x once (inl e) =
    ap (λ (t : Bool). cond t (Some y) (find (λ z. bytes_eq (name x).text (name z).text) ys)) ((bytes_eq-Decides (name x).text (name y).text).1 (ap (λ z. (name z).text) e)) ∙ ap Some (sym e)
found_once name (y ∷ ys) x once (inr s) = by_test (bytes_eq (name x).text (name y).text) refl (found_once name ys x once.1 s)
  where
    by_test : (t : Bool) → bytes_eq (name x).text (name y).text ≡ t → find (λ z. bytes_eq (name x).text (name z).text) ys ≡ Some x
        → cond t (Some y) (find (λ z. bytes_eq (name x).text (name z).text) ys) ≡ Some x
    by_test true same rest = absurd (once.0 (subst (λ (u : List ℕ). Stands u (texts_of (map name ys))) ((bytes_eq-Decides (name x).text (name y).text).0 same) (name_stands name ys x s)))
    by_test false other rest = rest

pub schema_found : (p : Pair) → WellFormed p → (s : Schema) → Stands s p.domain.schemas → schema_named p s.name.text ≡ Some s
schema_found p formed s there = found_once (λ (z : Schema). z.name) p.domain.schemas s formed.schemas_once there

-- ---- objects by their numbers

names_joined : (xs ys : List Typed) → names_of (xs ++ ys) ≡ names_of xs ++ names_of ys
names_joined [] ys = refl
names_joined (x ∷ xs) ys = ap (λ (ns : List Name). x.name ∷ ns) (names_joined xs ys)

object_at : (xs : List Typed) (o : ℕ) → o < length xs → (own : Typed) × Stands own xs × (slice_get xs o ≡ Some own) × (text_at (names_of xs) o ≡ own.name.text)
object_at [] o within = absurd (omega (arith, within))
object_at (x ∷ xs) zero within = (x, inl refl, refl, refl)
object_at (x ∷ xs) (suc o) within = let rest = object_at xs o (omega (arith, within)) in (rest.0, inr rest.1, rest.2, rest.3)

module _ (p : Pair) (formed : WellFormed p) where
  objects_once : AreDistinct (texts_of (names_of (objects_of p)))
  objects_once = subst (λ (ns : List Name). AreDistinct (texts_of ns)) (sym (names_joined p.domain.constants p.problem.objects)) formed.objects_once

  object_fits : (param : Typed) (o : ℕ) → Stands o (fitting p param) → fits p param (object_text p o) ≡ true
  object_fits param o there =
      let parts = stands_filtered (λ n. is_within p.domain.types (kind_of p n) param.kind.text) (range_with_len 0 (length (objects_of p))) o there in
      let at = object_at (objects_of p) o (omega (arith, below_range 0 (length (objects_of p)) o parts.0)) in
      let own = at.0 in
      let found = ap (λ (text : List ℕ). first_typed text (objects_of p)) at.3 ∙ found_once (λ (t : Typed). t.name) (objects_of p) own objects_once at.1 in
      let kind = ap (λ (t : Option Typed). option_map_or (λ t. t.kind.text) t []) at.2 in
      ap (λ (t : Option Typed). option_map_or (λ own. is_within p.domain.types own.kind.text param.kind.text) t false) found
      ∙ sym (ap (λ (text : List ℕ). is_within p.domain.types text param.kind.text) kind) ∙ parts.1

  -- the names of a tuple that fits are legal arguments
  pub legal_tuple : (params : List Typed) (os : List ℕ) → Stands os (tuples p params) → all_fit p params (names p os) ≡ true
  legal_tuple [] os (inl e) = ap (λ (us : List ℕ). all_fit p [] (names p us)) e
  legal_tuple [] os (inr s) = elim s [ ]
  legal_tuple (t ∷ params) os there =
      let first = stands_in_flat (λ o. map (λ us. o ∷ us) (tuples p params)) (fitting p t) os there in
      let rest = stands_mapped (λ us. first.0 ∷ us) (tuples p params) os first.2 in
      ap (λ (us : List ℕ). all_fit p (t ∷ params) (names p us)) rest.2
      ∙ true_both (fits p t (object_text p first.0)) (all_fit p params (names p rest.0)) (object_fits t first.0 first.1) (legal_tuple params rest.0 rest.1)
