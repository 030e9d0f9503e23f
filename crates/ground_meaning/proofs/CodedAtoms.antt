-- The atoms of a readable, well-formed pair under a binding to objects are facts and fluents of the pair, each told apart by its code.
use Rattle.std.proofs.Common.{◌≡◌, ◌<◌, ◌≤◌, ◌+◌, ℕ, zero, suc, Bool, true, false, List, [], ◌∷◌, map, length, All, Option, Some, refl, sym, ap, ap₂, subst, ◌∙◌, inl, inr, arith}
use Rattle.std.specs.Prelude.{bytes_eq, nat_lt, option_map, unwrap_or, if◌then◌else◌}
use Rattle.std.proofs.lemmas.List.{length-append, length-map}
use Rattle.std.specs.List.{list_all}
use Rattle.std.proofs.lemmas.Bool.Decides.{Decides-ltb}
use Rattle.std.proofs.lemmas.List.Elements.{All-cons, All-head, All-nil, All-tail}
use Rattle.std.proofs.lemmas.Slice.Eq.{bytes_eq-Decides}
use Rattle.pddl_terms.specs.declared.names.Arg.{Arg}
use Rattle.pddl_terms.specs.declared.names.Arg.TheVariants.{Var, Obj}
use Rattle.pddl_terms.specs.declared.names.Atom.{Atom}
use Rattle.pddl_terms.specs.declared.names.Name.{Name}
use Rattle.pddl_terms.specs.declared.names.Sig.{Sig}
use Rattle.pddl_terms.specs.declared.names.Typed.{Typed}
use Rattle.pddl_terms.specs.Texts.{argument_text, variable_text}
use Rattle.pddl_terms.specs.Readable.{IsReadable}
use Rattle.pddl_types.specs.declared.faults.Side.{Side}
use Rattle.pddl_types.specs.declared.faults.Side.TheVariants as side
use Rattle.pddl_types.specs.declared.pairs.Pair.{Pair}
use Rattle.name_table.specs.Tables.{place_in}
use Rattle.name_table.specs.TypedLists.{names_of}
use Rattle.pddl_types.specs.Pairs.{heads_of, objects_of, visible}
use Rattle.pddl_types.specs.WellFormed.{Each, Means, Stands, WellFormed}
use Rattle.static_facts.specs.Atoms.{atom_of, head_text, names, object_text, text_at}
use Rattle.static_facts.specs.Codes.{code_among, code_of, object_number}
use Rattle.static_facts.proofs.Coding.{codes_apart}
use Rattle.pddl_meaning.proofs.Bounds.{true_both}
use Rattle.ground_meaning.specs.Tasks.{IsAtomOf}
use Rattle.ground_meaning.proofs.BoundAtoms.{IsBound, Mean}
use Rattle.ground_meaning.proofs.Lists.{stands_left}

-- something that stands in a list stands at a number
stands_at : {A : Type 0} (name : A → Name) (xs : List A) (x : A) → Stands x xs → (n : ℕ) × (n < length xs) × (text_at (map name xs) n ≡ (name x).text)
stands_at name [] x s = elim s [ ]
stands_at name (y ∷ ys) x (inl e) = (0, omega arith, sym (ap (λ z. (name z).text) e))
stands_at name (y ∷ ys) x (inr s) = let rest = stands_at name ys x s in (suc rest.0, omega (arith, rest.1), rest.2)

module _ (p : Pair) (readable : IsReadable p.domain p.problem) (formed : WellFormed p) where
  abbrev AreObjects : List ℕ → Type 0
  AreObjects os = Each (λ o. o < length (objects_of p)) os

  -- the number of the object that a text names
  abbrev IsObject : List ℕ → Type 0
  IsObject text = (o : ℕ) × (o < length (objects_of p)) × (text ≡ object_text p o)

  object_there : (at : Side) (t : Typed) → Stands t (visible p at) → IsObject t.name.text
  object_there side.Domain t s = let found = stands_at (λ (u : Typed). u.name) (objects_of p) t (stands_left t p.domain.constants p.problem.objects s) in (found.0, found.1, sym found.2)
  object_there side.Problem t s = let found = stands_at (λ (u : Typed). u.name) (objects_of p) t s in (found.0, found.1, sym found.2)

  variable_there : (params : List Typed) (os : List ℕ) (t : Typed) → length os ≡ length params → AreObjects os → Stands t params → IsObject (variable_text params (names p os) t.name.text)
  variable_there [] os t same known s = elim s [ ]
  variable_there (q ∷ params) [] t same known s = let bad : suc (length params) ≡ 0 = sym same in absurd (omega (arith, bad))
  variable_there (q ∷ params) (o ∷ os) t same known s =
      by_test (bytes_eq t.name.text q.name.text) refl (λ r. variable_there params os t (omega (arith, same)) known.1 r)
    where
      later : Stands t (q ∷ params) → bytes_eq t.name.text q.name.text ≡ false → Stands t params
      later (inl e) other = let bad = sym other ∙ (bytes_eq-Decides t.name.text q.name.text).1 (ap (λ (u : Typed). u.name.text) e) in cc
      later (inr r) other = r

      by_test : (test : Bool) → bytes_eq t.name.text q.name.text ≡ test → (Stands t params → IsObject (variable_text params (names p os) t.name.text))
          → IsObject (if test then object_text p o else variable_text params (names p os) t.name.text)
      by_test true is more = (o, known.0, refl)
      by_test false is more = more (later s is)

  module _ (at : Side) (params : List Typed) (os : List ℕ) (same : length os ≡ length params) (known : AreObjects os) where
    argument_there : (a : Arg) (t : Typed) → Means p at params a t → IsObject (argument_text params (names p os) a)
    argument_there (Var n) t m = subst (λ (text : List ℕ). IsObject (variable_text params (names p os) text)) (sym m.1) (variable_there params os t same known m.0)
    argument_there (Obj n) t m = subst IsObject (sym m.1) (object_there at t m.0)

    arguments_there : (arguments : List Arg) → Mean p readable formed at params arguments
        → (qs : List ℕ) × All (λ o. o < length (objects_of p)) qs × (map (argument_text params (names p os)) arguments ≡ names p qs) × (length qs ≡ length arguments)
    arguments_there [] m = ([], All-nil (λ o. o < length (objects_of p)), refl, refl)
    arguments_there (a ∷ arguments) m =
        let first = argument_there a m.0.0 m.0.1 in
        let rest = arguments_there arguments m.1 in (
          first.0 ∷ rest.0,
          All-cons (λ o. o < length (objects_of p)) first.0 rest.0 first.1 rest.1,
          ap₂ (λ (t : List ℕ) (ts : List (List ℕ)). t ∷ ts) first.2 rest.2,
          ap suc rest.3,
        )

    -- an atom whose name is declared is an atom of the pair
    pub atom_there : (sigs : List Sig) → ((s : Sig) → Stands s sigs → length s.params ≤ 8) → (a : Atom) → IsBound p readable formed at params sigs a
        → IsAtomOf p sigs (λ n qs. head_text sigs n ∷ names p qs) (atom_of params (names p os) a)
    atom_there sigs few a bound =
        let sig = bound.1.0 in
        let head = stands_at (λ (s : Sig). s.name) sigs sig bound.1.1 in
        let rest = arguments_there a.args bound.2 in
        let least = few sig bound.1.1 in
        record {
          symbol = head.0;
          objects = rest.0;
          declared = head.1;
          known = rest.1;
          few = omega (arith, least, rest.3, bound.1.3);
          is = ap₂ (λ (t : List ℕ) (ts : List (List ℕ)). t ∷ ts) (bound.1.2 ∙ sym head.2) rest.2;
        }

-- ---- codes

-- the place of a name that is there, and the name at it
placed : (ns : List Name) (n : ℕ) → n < length ns → (i : ℕ) × (i < length ns) × (place_in (text_at ns n) ns ≡ Some i) × (text_at ns i ≡ text_at ns n)
placed [] n h = absurd (omega (arith, h))
placed (m ∷ ns) zero h =
    (0, omega arith, ap (λ (t : Bool). if t then Some 0 else option_map (λ place. place + 1) (place_in m.text ns)) ((bytes_eq-Decides m.text m.text).1 refl), refl)
placed (m ∷ ns) (suc n) h = by_test (bytes_eq (text_at ns n) m.text) refl (placed ns n (omega (arith, h)))
  where
    by_test : (test : Bool) → bytes_eq (text_at ns n) m.text ≡ test
        → ((i : ℕ) × (i < length ns) × (place_in (text_at ns n) ns ≡ Some i) × (text_at ns i ≡ text_at ns n))
        → (i : ℕ) × (i < suc (length ns)) × ((if test then Some 0 else option_map (λ place. place + 1) (place_in (text_at ns n) ns)) ≡ Some i) × (text_at (m ∷ ns) i ≡ text_at ns n)
    by_test true is rest = (0, omega arith, refl, sym ((bytes_eq-Decides (text_at ns n) m.text).0 is))
    by_test false is rest =
        let next : rest.0 + 1 ≡ suc rest.0 = omega arith in
        (suc rest.0, omega (arith, rest.1), ap (option_map (λ place. place + 1)) rest.2 ∙ ap Some next, rest.3)

module _ (p : Pair) (readable : IsReadable p.domain p.problem) where
  abbrev object_names : List Name
  object_names = names_of (objects_of p)

  few_names : length object_names ≤ 2048
  few_names =
      let constants = readable.domain.few_constants in
      let objects = readable.problem.few_objects in
      omega (arith, length-map (objects_of p) (λ (t : Typed). t.name), length-append p.domain.constants p.problem.objects, constants, objects)

  number_back : (o : ℕ) → o < length (objects_of p) → (object_text p (object_number p (object_text p o)) ≡ object_text p o) × (object_number p (object_text p o) < 4095)
  number_back o known =
      let found = placed object_names o (omega (arith, known, length-map (objects_of p) (λ (t : Typed). t.name))) in
      let is = ap (λ (place : Option ℕ). unwrap_or place 0) found.2 in
      (ap (object_text p) is ∙ found.3, omega (arith, is, found.1, few_names))

  numbers_back : (os : List ℕ) → All (λ o. o < length (objects_of p)) os → map (object_text p) (map (object_number p) (names p os)) ≡ names p os
  numbers_back [] known = refl
  numbers_back (o ∷ os) known =
      ap₂ (λ (t : List ℕ) (ts : List (List ℕ)). t ∷ ts) (number_back o (All-head (λ o. o < length (objects_of p)) o os known)).0
      (numbers_back os (All-tail (λ o. o < length (objects_of p)) o os known))

  small_numbers : (os : List ℕ) → All (λ o. o < length (objects_of p)) os → list_all (λ o. nat_lt o 4095) (map (object_number p) (names p os)) ≡ true
  small_numbers [] known = refl
  small_numbers (o ∷ os) known =
      true_both _ _ ((Decides-ltb (object_number p (object_text p o)) 4095).1 (number_back o (All-head (λ o. o < length (objects_of p)) o os known)).1)
      (small_numbers os (All-tail (λ o. o < length (objects_of p)) o os known))

  as_many : (os : List ℕ) → length (map (object_number p) (names p os)) ≡ length os
  as_many os = length-map (names p os) (object_number p) ∙ length-map os (object_text p)

  module _ (sigs : List Sig) where
    abbrev atom_by : ℕ → List ℕ → List (List ℕ)
    atom_by n os = head_text sigs n ∷ names p os

    symbol_of : ℕ → ℕ
    symbol_of n = unwrap_or (place_in (head_text sigs n) (heads_of sigs)) 0

    symbol_back : (n : ℕ) → n < length sigs → head_text sigs (symbol_of n) ≡ head_text sigs n
    unfolding symbol_of
    symbol_back n known =
        let found = placed (heads_of sigs) n (omega (arith, known, length-map sigs (λ (s : Sig). s.name))) in
        ap (λ (place : Option ℕ). head_text sigs (unwrap_or place 0)) found.2 ∙ found.3

    -- atoms of one code are one atom
    pub same_code : (x y : List (List ℕ)) → IsAtomOf p sigs atom_by x → IsAtomOf p sigs atom_by y → code_among (heads_of sigs) p x ≡ code_among (heads_of sigs) p y → x ≡ y
    unfolding symbol_of code_of
    same_code x y a b e =
        let codes = sym (ap (code_among (heads_of sigs) p) a.is) ∙ e ∙ ap (code_among (heads_of sigs) p) b.is in
        let parts = codes_apart 8 (symbol_of a.symbol) (symbol_of b.symbol) (map (object_number p) (names p a.objects)) (map (object_number p) (names p b.objects))
        (omega (arith, as_many a.objects, a.few)) (omega (arith, as_many b.objects, b.few)) (small_numbers a.objects a.known) (small_numbers b.objects b.known) codes in
        let heads = sym (symbol_back a.symbol a.declared) ∙ ap (head_text sigs) parts.0 ∙ symbol_back b.symbol b.declared in
        let rest = sym (numbers_back a.objects a.known) ∙ ap (map (object_text p)) parts.1 ∙ numbers_back b.objects b.known in
        a.is ∙ ap₂ (λ (t : List ℕ) (ts : List (List ℕ)). t ∷ ts) heads rest ∙ sym b.is
