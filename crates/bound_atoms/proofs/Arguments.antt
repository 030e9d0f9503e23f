-- What an argument stands for under a binding, by its slot.
use Rattle.std.proofs.Common.{◌≡◌, ◌<◌, ◌+◌, ◌&&◌, ℕ, zero, suc, Bool, true, false, List, [], ◌∷◌, length, Option, Some, None, map, refl, sym, ap, ap₂, ◌∙◌, add-one, arith, is_some, if◌then◌else◌}
use Rattle.std.specs.Prelude.{bytes_eq, nat_eq, nat_lt, not, option_map, slice_get, unwrap_or}
use Rattle.std.specs.Option.{option_map_or}
use Rattle.std.specs.List.{list_all}
use Rattle.std.proofs.lemmas.Bool.{and_parts, eq-eqb, eqb-true, lt-ltb}
use Rattle.std.proofs.lemmas.List.{length-map}
use Rattle.std.proofs.lemmas.Slice.Eq.{bytes_eq-Decides}
use Rattle.pddl_terms.specs.declared.names.Arg.{Arg}
use Rattle.pddl_terms.specs.declared.names.Arg.TheVariants.{Var, Obj}
use Rattle.pddl_terms.specs.declared.names.Typed.{Typed}
use Rattle.pddl_terms.specs.Readable.{IsReadable}
use Rattle.pddl_terms.specs.Texts.{argument_text, variable_text}
use Rattle.name_table.specs.Tables.{place_in}
use Rattle.name_table.specs.TypedLists.{names_of}
use Rattle.name_table.proofs.Numbered.{place_within}
use Rattle.pddl_types.specs.declared.pairs.Pair.{Pair}
use Rattle.pddl_types.specs.Pairs.{objects_of, written_text}
use Rattle.pddl_types.specs.WellFormed.{Each, WellFormed}
use Rattle.static_facts.specs.Atoms.{names, object_text}
use Rattle.static_facts.specs.Codes.{object_number}
use Rattle.static_facts.proofs.Named.{named_there}
use Rattle.bound_atoms.specs.declared.slots.Slot.{Slot}
use Rattle.bound_atoms.specs.declared.slots.Slot.TheVariants.{Parameter, Object, Unknown}
use Rattle.bound_atoms.specs.declared.same.SameSlots.TheVariants.{Decided, Compared}
use Rattle.bound_atoms.specs.Atoms.{capped_number}
use Rattle.bound_atoms.specs.Slots.{is_object, object_slot, same_number, same_slots, slot_number, slot_of, variable_slot}
use Rattle.bound_atoms.proofs.Objects.{few_objects, length_objects, placed_object}

-- a text that an argument has under a binding is the name of the object in the argument's slot, or else, where no object is there, it is as it is written and no object's name
abbrev pub IsFor : Pair → List ℕ → List ℕ → List ℕ → Slot → Type 0
IsFor p os text written (Parameter place) = (text ≡ object_text p (slot_number os (Parameter place))) × (slot_number os (Parameter place) < length (objects_of p))
IsFor p os text written (Object o) = (text ≡ object_text p o) × (o < length (objects_of p))
IsFor p os text written Unknown = (text ≡ written) × (place_in written (names_of (objects_of p)) ≡ None)

length_names : (params : List Typed) → length (names_of params) ≡ length params
length_names params = length-map params (λ (t : Typed). t.name)

object_there : (count : ℕ) (os : List ℕ) → Each (λ o. o < count) os → (i : ℕ) → i < length os → unwrap_or (slice_get os i) 0 < count
object_there count [] e i l = absurd (omega (arith, l))
object_there count (o ∷ os) e zero l = e.0
object_there count (o ∷ os) e (suc i) l = object_there count os e.1 i (omega (arith, l))

-- the text of a variable is that of the argument at its parameter's place
variable_at : (p : Pair) (v : List ℕ) (params : List Typed) (os : List ℕ) → length os ≡ length params
    → variable_text params (names p os) v ≡ option_map_or (λ i. object_text p (unwrap_or (slice_get os i) 0)) (place_in v (names_of params)) v
variable_at p v [] os same = refl
variable_at p v (q ∷ params) [] same = let bad : suc (length params) ≡ 0 = sym same in absurd (omega (arith, bad))
variable_at p v (q ∷ params) (o ∷ os) same = cases (bytes_eq v q.name.text) (place_in v (names_of params)) (variable_at p v params os (omega (arith, same)))
  where
    cases : (test : Bool) (place : Option ℕ) → variable_text params (names p os) v ≡ option_map_or (λ i. object_text p (unwrap_or (slice_get os i) 0)) place v
        → (if test then object_text p o else variable_text params (names p os) v)
        ≡ option_map_or (λ i. object_text p (unwrap_or (slice_get (o ∷ os) i) 0)) (if test then Some 0 else option_map (λ j. j + 1) place) v
    cases true place h = refl
    cases false None h = h
    cases false (Some j) h = h ∙ ap (λ (k : ℕ). object_text p (unwrap_or (slice_get (o ∷ os) k) 0)) (sym (add-one j))

module _ (p : Pair) (readable : IsReadable p.domain p.problem) (formed : WellFormed p) (params : List Typed) (os : List ℕ) (same : length os ≡ length params)
    (known : Each (λ o. o < length (objects_of p)) os) where
  abbrev found : List ℕ → Option ℕ
  found text = place_in text (names_of (objects_of p))

  object_for : (text : List ℕ) (place : Option ℕ) → found text ≡ place → IsFor p os text text (object_slot place)
  object_for text None e = (refl, e)
  object_for text (Some o) e =
      let within = place_within text (names_of (objects_of p)) o (sym e) in
      (sym (named_there text (names_of (objects_of p)) o e), omega (arith, within, length_objects p readable formed))

  for_written : (text other written : List ℕ) (s : Slot) → text ≡ other → IsFor p os other written s → IsFor p os text written s
  for_written text other written (Parameter place) e h = (e ∙ h.0, h.1)
  for_written text other written (Object o) e h = (e ∙ h.0, h.1)
  for_written text other written Unknown e h = (e ∙ h.0, h.1)

  variable_for : (v : List ℕ) (place : Option ℕ) → place_in v (names_of params) ≡ place → IsFor p os (variable_text params (names p os) v) v (variable_slot place (found v))
  variable_for v (Some i) e =
      let within = place_within v (names_of params) i (sym e) in (
        variable_at p v params os same ∙ ap (λ (x : Option ℕ). option_map_or (λ i. object_text p (unwrap_or (slice_get os i) 0)) x v) e,
        object_there (length (objects_of p)) os known i (omega (arith, within, length_names params, same)),
      )
  variable_for v None e =
      let text : variable_text params (names p os) v ≡ v =
      variable_at p v params os same ∙ ap (λ (x : Option ℕ). option_map_or (λ i. object_text p (unwrap_or (slice_get os i) 0)) x v) e in
      for_written (variable_text params (names p os) v) v v (object_slot (found v)) text (object_for v (found v) refl)

  pub argument_for : (a : Arg) → IsFor p os (argument_text params (names p os) a) (written_text a) (slot_of p params a)
  argument_for (Var n) = variable_for n.text (place_in n.text (names_of params)) refl
  argument_for (Obj n) = object_for n.text (found n.text) refl

  -- ---- by numbers

  placed_number : (o : ℕ) → o < length (objects_of p) → (found (object_text p o) ≡ Some o) × (nat_lt o 4094 ≡ true)
  placed_number o l = (placed_object p readable formed o l, lt-ltb o 4094 (omega (arith, l, few_objects p readable formed)))

  object_number_for : (text : List ℕ) (o : ℕ) → text ≡ object_text p o → o < length (objects_of p) → object_number p text ≡ (if nat_lt o 4094 then o else 4094)
  object_number_for text o e l =
      let placed = placed_number o l in
      ap (object_number p) e
      ∙ ap (λ (x : Option ℕ). unwrap_or x 0) placed.0
      ∙ ap (λ (t : Bool). if t then o else 4094) (sym placed.1)

  number_for : (text written : List ℕ) (s : Slot) → IsFor p os text written s → object_number p text ≡ capped_number os s
  number_for text written (Parameter place) h = object_number_for text (slot_number os (Parameter place)) h.0 h.1
  number_for text written (Object o) h = object_number_for text o h.0 h.1
  number_for text written Unknown h = ap (object_number p) h.0 ∙ ap (λ (x : Option ℕ). unwrap_or x 0) h.1

  pub numbers_for : (args : List Arg) → map (object_number p) (map (argument_text params (names p os)) args) ≡ map (capped_number os) (map (slot_of p params) args)
  numbers_for [] = refl
  numbers_for (a ∷ args) = ap₂ (λ (n : ℕ) (ns : List ℕ). n ∷ ns) (number_for (argument_text params (names p os) a) (written_text a) (slot_of p params a) (argument_for a)) (numbers_for args)

  -- ---- by names

  found_for : (text written : List ℕ) (s : Slot) → IsFor p os text written s → is_some (found text) ≡ is_object s
  found_for text written (Parameter place) h = ap (λ (t : List ℕ). is_some (found t)) h.0 ∙ ap is_some (placed_number (slot_number os (Parameter place)) h.1).0
  found_for text written (Object o) h = ap (λ (t : List ℕ). is_some (found t)) h.0 ∙ ap is_some (placed_number o h.1).0
  found_for text written Unknown h = ap (λ (t : List ℕ). is_some (found t)) h.0 ∙ ap is_some h.1

  pub all_found : (args : List Arg) → list_all (λ t. is_some (found t)) (map (argument_text params (names p os)) args) ≡ list_all is_object (map (slot_of p params) args)
  all_found [] = refl
  all_found (a ∷ args) = ap₂ (λ (b c : Bool). b && c) (found_for (argument_text params (names p os) a) (written_text a) (slot_of p params a) (argument_for a)) (all_found args)

  text_for : (text written : List ℕ) (s : Slot) → is_object s ≡ true → IsFor p os text written s → object_text p (slot_number os s) ≡ text
  text_for text written (Parameter place) i h = sym h.0
  text_for text written (Object o) i h = sym h.0
  text_for text written Unknown i h = cc

  pub texts_for : (args : List Arg) → list_all is_object (map (slot_of p params) args) ≡ true → names p (map (slot_number os) (map (slot_of p params) args)) ≡ map (argument_text params (names p os)) args
  texts_for [] h = refl
  texts_for (a ∷ args) h =
      let parts = and_parts (is_object (slot_of p params a)) (list_all is_object (map (slot_of p params) args)) h in
      ap₂ (λ (t : List ℕ) (ts : List (List ℕ)). t ∷ ts) (text_for (argument_text params (names p os) a) (written_text a) (slot_of p params a) parts.0 (argument_for a)) (texts_for args parts.1)

  -- ---- equalities

  both_ways : (x y : Bool) → (x ≡ true → y ≡ true) → (y ≡ true → x ≡ true) → x ≡ y
  both_ways true true f g = refl
  both_ways false false f g = refl
  both_ways true false f g = sym (f refl)
  both_ways false true f g = g refl

  some_same : (i j : ℕ) → Some i ≡ Some j → i ≡ j
  some_same i j h = cc

  same_objects : (i j : ℕ) → i < length (objects_of p) → j < length (objects_of p) → nat_eq i j ≡ bytes_eq (object_text p i) (object_text p j)
  same_objects i j l m =
      both_ways (nat_eq i j) (bytes_eq (object_text p i) (object_text p j))
      (λ h. (bytes_eq-Decides (object_text p i) (object_text p j)).1 (ap (object_text p) (eqb-true i j h)))
      (λ h.
      let text = (bytes_eq-Decides (object_text p i) (object_text p j)).0 h in
      eq-eqb i j (some_same i j (sym (placed_number i l).0 ∙ ap found text ∙ (placed_number j m).0)))

  unlike : (text other : List ℕ) → is_some (found text) ≡ true → is_some (found other) ≡ false → bytes_eq text other ≡ false
  unlike text other f g = cases (bytes_eq text other) refl
    where
      cases : (test : Bool) → bytes_eq text other ≡ test → test ≡ false
      cases false h = refl
      cases true h =
          let e = (bytes_eq-Decides text other).0 h in
          let bad = sym f ∙ ap (λ (t : List ℕ). is_some (found t)) e ∙ g in cc

  same_pair : (a b : Arg) (s t : Slot) (x y : List ℕ) → IsFor p os x (written_text a) s → IsFor p os y (written_text b) t → bytes_eq x y ≡ bytes_eq y x → (u v : Bool) → is_object s ≡ u → is_object t ≡ v
      → (if u && v then nat_eq (slot_number os s) (slot_number os t) else (not u && not v) && bytes_eq (written_text a) (written_text b)) ≡ bytes_eq x y
  same_pair a b s t x y g h turn true true i j =
      let left = text_for x (written_text a) s i g in
      let right = text_for y (written_text b) t j h in
      same_objects (slot_number os s) (slot_number os t) (within x (written_text a) s i g) (within y (written_text b) t j h)
      ∙ ap₂ bytes_eq left right
    where
      within : (text written : List ℕ) (s : Slot) → is_object s ≡ true → IsFor p os text written s → slot_number os s < length (objects_of p)
      within text written (Parameter place) i h = h.1
      within text written (Object o) i h = h.1
      within text written Unknown i h = cc
  same_pair a b s t x y g h turn true false i j = sym (unlike x y (found_for x (written_text a) s g ∙ i) (found_for y (written_text b) t h ∙ j))
  same_pair a b s t x y g h turn false true i j = sym (turn ∙ unlike y x (found_for y (written_text b) t h ∙ j) (found_for x (written_text a) s g ∙ i))
  same_pair a b s t x y g h turn false false i j = sym (ap₂ bytes_eq (as_written x (written_text a) s i g) (as_written y (written_text b) t j h))
    where
      as_written : (text written : List ℕ) (s : Slot) → is_object s ≡ false → IsFor p os text written s → text ≡ written
      as_written text written (Parameter place) i h = cc
      as_written text written (Object o) i h = cc
      as_written text written Unknown i h = h.0

  bytes_turned : (x y : List ℕ) → bytes_eq x y ≡ bytes_eq y x
  bytes_turned x y =
      both_ways (bytes_eq x y) (bytes_eq y x) (λ h. (bytes_eq-Decides y x).1 (sym ((bytes_eq-Decides x y).0 h))) (λ h. (bytes_eq-Decides x y).1 (sym ((bytes_eq-Decides y x).0 h)))

  -- whether two arguments are one object
  pub same_for : (a b : Arg) → same_number os (same_slots p params a b) ≡ bytes_eq (argument_text params (names p os) a) (argument_text params (names p os) b)
  same_for a b =
      chosen (is_object (slot_of p params a) && is_object (slot_of p params b))
      ∙ same_pair a b (slot_of p params a) (slot_of p params b) (argument_text params (names p os) a) (argument_text params (names p os) b) (argument_for a) (argument_for b)
      (bytes_turned (argument_text params (names p os) a) (argument_text params (names p os) b)) (is_object (slot_of p params a)) (is_object (slot_of p params b)) refl refl
    where
      chosen : (u : Bool)
          → same_number os (if u then Compared (slot_of p params a) (slot_of p params b) else Decided ((not (is_object (slot_of p params a)) && not (is_object (slot_of p params b))) && bytes_eq (written_text a) (written_text b)))
          ≡ (if u then nat_eq (slot_number os (slot_of p params a)) (slot_number os (slot_of p params b)) else ((not (is_object (slot_of p params a)) && not (is_object (slot_of p params b))) && bytes_eq (written_text a) (written_text b)))
      chosen true = refl
      chosen false = refl
