-- The code of an atom's numbers is the key of an atom of the initial state exactly where both are one atom.
use Rattle.std.proofs.Common.{◌≡◌, ◌≤◌, ◌&&◌, ℕ, suc, Bool, true, false, List, [], ◌∷◌, length, Option, Some, None, map, refl, sym, ap, ◌∙◌, arith, if◌then◌else◌}
use Rattle.std.specs.Prelude.{nat_le, nat_lt, option_map, option_and_then, bytes_eq}
use Rattle.std.specs.Option.{option_map_or}
use Rattle.std.specs.List.{list_all}
use Rattle.std.proofs.lemmas.Slice.Eq.{bytes_eq-Decides, slice_eq-Decides}
use Rattle.std.proofs.lemmas.Bool.{and_parts, leb-true, le-leb, lt-ltb}
use Rattle.std.proofs.lemmas.Bool.Decides.{Decides-eqb}
use Rattle.pddl_terms.specs.declared.names.Arg.{Arg}
use Rattle.pddl_terms.specs.declared.names.Arg.TheVariants.{Var, Obj}
use Rattle.pddl_terms.specs.declared.names.Atom.{Atom}
use Rattle.pddl_terms.specs.declared.names.Name.{Name}
use Rattle.pddl_terms.specs.Readable.{is_readable_argument, is_readable_atom, is_short_name, is_short_variable}
use Rattle.pddl_terms.specs.Texts.{argument_text}
use Rattle.name_table.specs.Tables.{place_in}
use Rattle.name_table.specs.TypedLists.{names_of}
use Rattle.name_table.proofs.Numbered.{place_within}
use Rattle.pddl_types.specs.declared.pairs.Pair.{Pair}
use Rattle.pddl_types.specs.Pairs.{objects_of, written_text}
use Rattle.pddl_types.specs.WellFormed.{AreDistinct, texts_of}
use Rattle.static_facts.specs.Atoms.{atom_of, names, same_atom, text_at}
use Rattle.static_facts.specs.Codes.{code_of, coded, is_codable}
use Rattle.static_facts.specs.internal.Keys.{code_by_number, has_code, object_numbers}
use Rattle.static_facts.proofs.Coding.{codes_apart}
use Rattle.static_facts.proofs.Named.{named_there, placed_there}

-- ---- readable names aren't empty

pub record IsSpelled (text : List ℕ) : Type 0 where
  pub first : ℕ
  pub rest : List ℕ
  pub is : text ≡ first ∷ rest

pub spelled_name : (text : List ℕ) → is_short_name text ≡ true → IsSpelled text
spelled_name [] h = cc
spelled_name (b ∷ bs) h = record { first = b; rest = bs; is = refl }

spelled_variable : (text : List ℕ) → is_short_variable text ≡ true → IsSpelled text
spelled_variable [] h = cc
spelled_variable (b ∷ bs) h = record { first = b; rest = bs; is = refl }

spelled_argument : (a : Arg) → is_readable_argument a ≡ true → IsSpelled (written_text a)
spelled_argument (Var n) h = spelled_variable n.text h
spelled_argument (Obj n) h = spelled_name n.text h

-- ---- arguments and the numbers of objects

pub written : (args : List Arg) → map (argument_text [] []) args ≡ map written_text args
written [] = refl
written (Var n ∷ args) = ap (λ (ts : List (List ℕ)). n.text ∷ ts) (written args)
written (Obj n ∷ args) = ap (λ (ts : List (List ℕ)). n.text ∷ ts) (written args)

module _ (p : Pair) where
  abbrev objects : List Name
  objects = names_of (objects_of p)

  -- the numbers that arguments name have these names
  pub numbers_name : (args : List Arg) (os : List ℕ) → object_numbers p args ≡ Some os → names p os ≡ map written_text args
  numbers_name [] [] h = refl
  numbers_name [] (o ∷ os) h = cc
  numbers_name (a ∷ args) os h = cases (place_in (written_text a) objects) refl (object_numbers p args) (λ ks e. numbers_name args ks e) os h
    where
      cases : (place : Option ℕ) → place_in (written_text a) objects ≡ place → (numbers : Option (List ℕ)) → ((ks : List ℕ) → numbers ≡ Some ks → names p ks ≡ map written_text args) → (os : List ℕ)
          → option_and_then (λ o. option_map (λ ks. o ∷ ks) numbers) place ≡ Some os → names p os ≡ written_text a ∷ map written_text args
      cases None e numbers f os h = cc
      cases (Some i) e None f os h = cc
      cases (Some i) e (Some ks) f [] h = cc
      cases (Some i) e (Some ks) f (o ∷ os) h =
          let same : i ∷ ks ≡ o ∷ os = cc in
          let first : i ≡ o = cc in
          let rest : ks ≡ os = cc in
          ap (λ (j : ℕ). text_at objects j ∷ names p os) (sym first)
          ∙ ap (λ (t : List ℕ). t ∷ names p os) (named_there (written_text a) objects i e)
          ∙ ap (λ (ts : List (List ℕ)). written_text a ∷ ts) (f os (ap Some rest))

  -- the names of objects are those of arguments, which then name these numbers
  pub names_number : AreDistinct (texts_of objects) → (args : List Arg) (os : List ℕ) → list_all is_readable_argument args ≡ true → names p os ≡ map written_text args
      → object_numbers p args ≡ Some os
  names_number d [] [] r h = refl
  names_number d [] (o ∷ os) r h = cc
  names_number d (a ∷ args) [] r h = cc
  names_number d (a ∷ args) (o ∷ os) r h =
      let parts = and_parts (is_readable_argument a) (list_all is_readable_argument args) r in
      let spelled = spelled_argument a parts.0 in
      let first : text_at objects o ≡ written_text a = cc in
      let rest : names p os ≡ map written_text args = cc in
      let placed = placed_there objects d o spelled.first spelled.rest (first ∙ spelled.is) in
      ap (λ (t : List ℕ). option_and_then (λ i. option_map (λ ks. i ∷ ks) (object_numbers p args)) (place_in t objects)) spelled.is
      ∙ ap (λ (x : Option ℕ). option_and_then (λ i. option_map (λ ks. i ∷ ks) (object_numbers p args)) x) placed
      ∙ ap (option_map (λ ks. o ∷ ks)) (names_number d args os parts.1 rest)

  -- the numbers are those of objects, one for each argument
  numbers_within : (args : List Arg) (os : List ℕ) → length objects ≤ 4095 → object_numbers p args ≡ Some os → (length os ≡ length args) × (list_all (λ o. nat_lt o 4095) os ≡ true)
  numbers_within [] [] few h = (refl, refl)
  numbers_within [] (o ∷ os) few h = cc
  numbers_within (a ∷ args) os few h = cases (place_in (written_text a) objects) refl (object_numbers p args) (λ ks e. numbers_within args ks few e) os h
    where
      cases : (place : Option ℕ) → place_in (written_text a) objects ≡ place → (numbers : Option (List ℕ))
          → ((ks : List ℕ) → numbers ≡ Some ks → (length ks ≡ length args) × (list_all (λ o. nat_lt o 4095) ks ≡ true)) → (os : List ℕ)
          → option_and_then (λ o. option_map (λ ks. o ∷ ks) numbers) place ≡ Some os → (length os ≡ suc (length args)) × (list_all (λ o. nat_lt o 4095) os ≡ true)
      cases None e numbers f os h = cc
      cases (Some i) e None f os h = cc
      cases (Some i) e (Some ks) f [] h = cc
      cases (Some i) e (Some ks) f (o ∷ os) h =
          let first : i ≡ o = cc in
          let rest : ks ≡ os = cc in
          let others = f os (ap Some rest) in
          let within = place_within (written_text a) objects i (sym e) in
          (ap suc others.0, ap (λ (t : Bool). t && list_all (λ j. nat_lt j 4095) os) (lt-ltb o 4095 (omega (arith, within, first))) ∙ others.1)

-- ---- one atom by its numbers and by its names

both_ways : (x y : Bool) → (x ≡ true → y ≡ true) → (y ≡ true → x ≡ true) → x ≡ y
both_ways true true f g = refl
both_ways true false f g = sym (f refl)
both_ways false true f g = g refl
both_ways false false f g = refl

pub record IsWritten (heads : List Name) (a : Atom) : Type 0 where
  pub readable : is_readable_atom a ≡ true
  pub few : length a.args ≤ 8

pub record AreNamed (p : Pair) (heads : List Name) : Type 0 where
  pub heads_once : AreDistinct (texts_of heads)
  pub objects_once : AreDistinct (texts_of (names_of (objects_of p)))
  pub few_objects : length (names_of (objects_of p)) ≤ 4095

codes_same : (m n : ℕ) (ks os : List ℕ) → is_codable ks ≡ true → is_codable os ≡ true → code_of m ks ≡ code_of n os → (m ≡ n) × (ks ≡ os)
unfolding code_of
codes_same m n ks os s t e =
    let left = and_parts (nat_le (length ks) 8) (list_all (λ o. nat_lt o 4095) ks) s in
    let right = and_parts (nat_le (length os) 8) (list_all (λ o. nat_lt o 4095) os) t in
    codes_apart 8 m n ks os (leb-true (length ks) 8 left.0) (leb-true (length os) 8 right.0) left.1 right.1 e

module _ (p : Pair) (heads : List Name) (named : AreNamed p heads) (a : Atom) (w : IsWritten heads a) (n : ℕ) (os : List ℕ) where
  abbrev key : Option ℕ
  key = code_by_number p (place_in a.head.text heads) a.args

  by_code : option_map_or (λ c. has_code c key) (coded n os) false ≡ true → text_at heads n ∷ names p os ≡ a.head.text ∷ map written_text a.args
  by_code h = codable (is_codable os) refl h
    where
      found : (place : Option ℕ) → place_in a.head.text heads ≡ place → (numbers : Option (List ℕ)) → object_numbers p a.args ≡ numbers → is_codable os ≡ true
          → has_code (code_of n os) (option_and_then (λ m. option_and_then (coded m) numbers) place) ≡ true → text_at heads n ∷ names p os ≡ a.head.text ∷ map written_text a.args
      found None e numbers f s h = cc
      found (Some m) e None f s h = cc
      found (Some m) e (Some ks) f s h = checked (is_codable ks) refl h
        where
          checked : (test : Bool) → is_codable ks ≡ test → has_code (code_of n os) (if test then Some (code_of m ks) else None) ≡ true
              → text_at heads n ∷ names p os ≡ a.head.text ∷ map written_text a.args
          checked false t h = cc
          checked true t h =
              let equal : code_of n os ≡ code_of m ks = (Decides-eqb (code_of n os) (code_of m ks)).0 h in
              let parts = codes_same m n ks os t s (sym equal) in
              ap (λ (i : ℕ). text_at heads i ∷ names p os) (sym parts.0)
              ∙ ap (λ (u : List ℕ). u ∷ names p os) (named_there a.head.text heads m e)
              ∙ ap (λ (us : List (List ℕ)). a.head.text ∷ us) (numbers_name p a.args os (f ∙ ap Some parts.1))

      codable : (test : Bool) → is_codable os ≡ test → option_map_or (λ c. has_code c key) (if test then Some (code_of n os) else None) false ≡ true
          → text_at heads n ∷ names p os ≡ a.head.text ∷ map written_text a.args
      codable false t h = cc
      codable true t h = found (place_in a.head.text heads) refl (object_numbers p a.args) refl t h

  by_names : text_at heads n ∷ names p os ≡ a.head.text ∷ map written_text a.args → option_map_or (λ c. has_code c key) (coded n os) false ≡ true
  by_names h =
      let readable = and_parts (is_short_name a.head.text) (list_all is_readable_argument a.args) w.readable in
      let spelled = spelled_name a.head.text readable.0 in
      let head : text_at heads n ≡ a.head.text = cc in
      let rest : names p os ≡ map written_text a.args = cc in
      let placed : place_in a.head.text heads ≡ Some n =
      ap (λ (t : List ℕ). place_in t heads) spelled.is ∙ placed_there heads named.heads_once n spelled.first spelled.rest (head ∙ spelled.is) in
      let numbers = names_number p named.objects_once a.args os readable.1 rest in
      let within = numbers_within p a.args os named.few_objects numbers in
      let few : nat_le (length os) 8 ≡ true = le-leb (length os) 8 (omega (arith, within.0, w.few)) in
      let test : is_codable os ≡ true = ap (λ (t : Bool). t && list_all (λ o. nat_lt o 4095) os) few ∙ within.1 in
      let code : coded n os ≡ Some (code_of n os) = ap (λ (t : Bool). if t then Some (code_of n os) else None) test in
      let found : key ≡ Some (code_of n os) =
      ap (λ (x : Option ℕ). option_and_then (λ m. option_and_then (coded m) (object_numbers p a.args)) x) placed
      ∙ ap (option_and_then (coded n)) numbers ∙ code in
      ap (λ (x : Option ℕ). option_map_or (λ c. has_code c key) x false) code
      ∙ ap (has_code (code_of n os)) found
      ∙ (Decides-eqb (code_of n os) (code_of n os)).1 refl

  spelled_out : a.head.text ∷ map (argument_text [] []) a.args ≡ a.head.text ∷ map written_text a.args
  spelled_out = ap (λ (ts : List (List ℕ)). a.head.text ∷ ts) (written a.args)

  pub keyed : option_map_or (λ c. has_code c key) (coded n os) false ≡ same_atom (text_at heads n ∷ names p os) (atom_of [] [] a)
  keyed =
      let tested = slice_eq-Decides {E = bytes_eq} bytes_eq-Decides (text_at heads n ∷ names p os) (atom_of [] [] a) (same_atom (text_at heads n ∷ names p os) (atom_of [] [] a)) refl in
      both_ways _ _ (λ h. tested.1 (by_code h ∙ sym spelled_out)) (λ h. by_names (tested.0 h ∙ spelled_out))
