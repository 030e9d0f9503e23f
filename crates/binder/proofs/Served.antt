-- The objects that a check of two parameters leaves give the same rows as all objects.
use Rattle.std.proofs.Common.{◌≡◌, ◌<◌, ◌≤◌, ◌+◌, ◌&&◌, ◌||◌, ℕ, zero, suc, Bool, true, false, cond, not, List, [], ◌∷◌, ◌++◌, length, Option, Some, None, map, refl, sym, ap, ◌∙◌, arith, slice_get, get_or, length-append, subst, inl, inr}
use Rattle.std.specs.Prelude.{filter, IsTrue, nat_eq, replicate, unwrap_or}
use Rattle.std.specs.Bool.{beq}
use Rattle.std.specs.List.{list_all}
use Rattle.std.proofs.lemmas.Bool.{and_parts, eqb-true, eq-eqb}
use Rattle.pddl_types.specs.declared.pairs.Pair.{Pair}
use Rattle.pddl_types.specs.WellFormed.{Stands}
use Rattle.static_facts.specs.Atoms.{fact_atom, is_true_at_first}
use Rattle.binder.specs.declared.candidates.Candidates.{Candidates}
use Rattle.binder.specs.declared.checks.Slot.{Slot}
use Rattle.binder.specs.declared.checks.Slot.TheVariants.{Parameter, Object}
use Rattle.binder.specs.declared.checks.Test.{Test}
use Rattle.binder.specs.declared.checks.Test.TheVariants as test
use Rattle.binder.specs.declared.checks.Check.{Check}
use Rattle.binder.specs.internal.Candidates.{ArePassing, even_row, is_of_two, is_test_of_two, passing, Serves, Suits}
use Rattle.binder.specs.internal.Checks.{extends, extensions, holds, is_met, slot_value}

-- ---- one list more

pub list_more : (pass : ℕ → List ℕ) (lists : List (Option (List ℕ))) (x : Option (List ℕ))
    → ((v : ℕ) (f : List ℕ) → slice_get lists v ≡ Some (Some f) → f ≡ pass v) → ((f : List ℕ) → x ≡ Some f → f ≡ pass (length lists))
    → (v : ℕ) (f : List ℕ) → slice_get (lists ++ x ∷ []) v ≡ Some (Some f) → f ≡ pass v
list_more pass [] x h g zero f e = let same : x ≡ Some f = cc in g f same
list_more pass [] x h g (suc v) f e = cc
list_more pass (y ∷ lists) x h g zero f e = h zero f e
list_more pass (y ∷ lists) x h g (suc v) f e = list_more (λ n. pass (suc n)) lists x (λ n. h (suc n)) g v f e

pub passing_more : (p : Pair) (c : Check) (width : ℕ) (objects : List ℕ) (lists : List (Option (List ℕ))) (x : Option (List ℕ)) (n : ℕ) → length lists ≡ n
    → ArePassing p c width objects lists → ((f : List ℕ) → x ≡ Some f → f ≡ passing p c width n objects) → ArePassing p c width objects (lists ++ x ∷ [])
unfolding ArePassing
passing_more p c width objects lists x n l h g = list_more (λ v. passing p c width v objects) lists x h (λ f e. g f e ∙ ap (λ (k : ℕ). passing p c width k objects) (sym l))

pub none_passing : (p : Pair) (c : Check) (width : ℕ) (objects : List ℕ) → ArePassing p c width objects []
unfolding ArePassing
none_passing p c width objects value found h = cc

-- ---- what stands in a row

at_end : (row : List ℕ) (o : ℕ) → slice_get (row ++ o ∷ []) (length row) ≡ Some o
at_end [] o = refl
at_end (x ∷ row) o = at_end row o

before_end : (row : List ℕ) (o i : ℕ) → i < length row → slice_get (row ++ o ∷ []) i ≡ slice_get row i
before_end [] o i l = absurd (omega (arith, l))
before_end (x ∷ row) o zero l = refl
before_end (x ∷ row) o (suc i) l = before_end row o i (omega (arith, l))

even_place : (width value i : ℕ) → i < width → slice_get (replicate width value) i ≡ Some value
even_place zero value i l = absurd (omega (arith, l))
even_place (suc width) value zero l = refl
even_place (suc width) value (suc i) l = even_place width value i (omega (arith, l))

even_length : (width value : ℕ) → length (replicate width value) ≡ width
even_length zero value = refl
even_length (suc width) value = ap suc (even_length width value)

there : (row : List ℕ) (i : ℕ) → i < length row → slice_get row i ≡ Some (unwrap_or (slice_get row i) 0)
there [] i l = absurd (omega (arith, l))
there (x ∷ row) zero l = refl
there (x ∷ row) (suc i) l = there row i (omega (arith, l))

module _ (row : List ℕ) (o place : ℕ) (l : place < length row) where
  abbrev value : ℕ
  value = slot_value row (Parameter place)

  abbrev even : List ℕ
  even = even_row (length row) value o

  last_value : unwrap_or (slice_get (row ++ o ∷ []) (length row)) 0 ≡ unwrap_or (slice_get even (length row)) 0
  last_value =
      let same : slice_get even (length row) ≡ Some o =
      ap (slice_get even) (sym (even_length (length row) value)) ∙ at_end (replicate (length row) value) o in
      ap (λ (x : Option ℕ). unwrap_or x 0) (at_end row o ∙ sym same)

  place_value : unwrap_or (slice_get (row ++ o ∷ []) place) 0 ≡ unwrap_or (slice_get even place) 0
  place_value =
      let long = even_length (length row) value in
      ap (λ (x : Option ℕ). unwrap_or x 0)
      (before_end row o place l ∙ there row place l
      ∙ sym (before_end (replicate (length row) value) o place (omega (arith, l, long)) ∙ even_place (length row) value place l))

  two_value : (s : Slot) → is_of_two place (length row) s ≡ true → slot_value (row ++ o ∷ []) s ≡ slot_value even s
  two_value (Object x) h = refl
  two_value (Parameter i) h = cases (nat_eq i place) refl (nat_eq i (length row)) refl h
    where
      cases : (a : Bool) → nat_eq i place ≡ a → (b : Bool) → nat_eq i (length row) ≡ b → (a || b) ≡ true
          → unwrap_or (slice_get (row ++ o ∷ []) i) 0 ≡ unwrap_or (slice_get even i) 0
      cases true e b f h =
          let same : i ≡ place = eqb-true i place e in
          ap (λ (n : ℕ). unwrap_or (slice_get (row ++ o ∷ []) n) 0) same ∙ place_value ∙ ap (λ (n : ℕ). unwrap_or (slice_get even n) 0) (sym same)
      cases false e true f h =
          let same : i ≡ length row = eqb-true i (length row) f in
          ap (λ (n : ℕ). unwrap_or (slice_get (row ++ o ∷ []) n) 0) same ∙ last_value ∙ ap (λ (n : ℕ). unwrap_or (slice_get even n) 0) (sym same)
      cases false e false f h = cc

  two_values : (slots : List Slot) → list_all (is_of_two place (length row)) slots ≡ true → map (slot_value (row ++ o ∷ [])) slots ≡ map (slot_value even) slots
  two_values [] h = refl
  two_values (s ∷ slots) h =
      let parts = and_parts (is_of_two place (length row) s) (list_all (is_of_two place (length row)) slots) h in
      ap (λ (v : ℕ). v ∷ map (slot_value (row ++ o ∷ [])) slots) (two_value s parts.0)
      ∙ ap (λ (vs : List ℕ). slot_value even s ∷ vs) (two_values slots parts.1)

  two_met : (p : Pair) (t : Test) → is_test_of_two place (length row) t ≡ true → is_met p (row ++ o ∷ []) t ≡ is_met p even t
  two_met p (test.Fact predicate slots) h = ap (λ (vs : List ℕ). is_true_at_first p (fact_atom p predicate vs)) (two_values slots h)
  two_met p (test.Same a b) h =
      let parts = and_parts (is_of_two place (length row) a) (is_of_two place (length row) b) h in
      ap (λ (v : ℕ). nat_eq v (slot_value (row ++ o ∷ []) b)) (two_value a parts.0) ∙ ap (nat_eq (slot_value even a)) (two_value b parts.1)

  pub two_holds : (p : Pair) (c : Check) → is_test_of_two place (length row) c.test ≡ true → holds p (row ++ o ∷ []) c ≡ holds p even c
  two_holds p c h = ap (beq c.positive) (two_met p c.test h)

-- ---- fewer objects, the same rows

kept : (test : List ℕ → Bool) (pass : ℕ → Bool) (row : List ℕ) → ((o : ℕ) → test (row ++ o ∷ []) ≡ true → pass o ≡ true) → (objects : List ℕ)
    → filter test (map (λ o. row ++ o ∷ []) (filter pass objects)) ≡ filter test (map (λ o. row ++ o ∷ []) objects)
kept test pass row h [] = refl
kept test pass row h (o ∷ objects) = cases (pass o) refl (test (row ++ o ∷ [])) refl (kept test pass row h objects)
  where
    cases : (a : Bool) → pass o ≡ a → (b : Bool) → test (row ++ o ∷ []) ≡ b → filter test (map (λ o. row ++ o ∷ []) (filter pass objects)) ≡ filter test (map (λ o. row ++ o ∷ []) objects)
        → filter test (map (λ o. row ++ o ∷ []) (cond a (o ∷ filter pass objects) (filter pass objects))) ≡ cond b ((row ++ o ∷ []) ∷ filter test (map (λ o. row ++ o ∷ []) objects)) (filter test (map (λ o. row ++ o ∷ []) objects))
    cases true e b f r =
        ap (λ (c : Bool). cond c ((row ++ o ∷ []) ∷ filter test (map (λ o. row ++ o ∷ []) (filter pass objects))) (filter test (map (λ o. row ++ o ∷ []) (filter pass objects)))) f
        ∙ ap (λ (rows : List (List ℕ)). cond b ((row ++ o ∷ []) ∷ rows) rows) r
    cases false e false f r = r
    cases false e true f r = let bad : true ≡ false = sym (h o f) ∙ e in cc

fewer : (pass : ℕ → Bool) (objects : List ℕ) → length (filter pass objects) ≤ length objects
fewer pass [] = omega arith
fewer pass (o ∷ objects) = cases (pass o) (fewer pass objects)
  where
    cases : (a : Bool) → length (filter pass objects) ≤ length objects → length (cond a (o ∷ filter pass objects) (filter pass objects)) ≤ suc (length objects)
    cases true l = omega (arith, l)
    cases false l = omega (arith, l)

-- a check that waits for exactly as many parameters as a row has holds where they all do
one_of_all : (p : Pair) (checks : List Check) (row : List ℕ) (c : Check) → Stands c checks → c.level ≡ length row → extends p checks row ≡ true → holds p row c ≡ true
one_of_all p [] row c e l h = absurd e
one_of_all p (d ∷ checks) row c (inl e) l h =
    let parts = and_parts (not (nat_eq d.level (length row)) || holds p row d) (extends p checks row) h in
    let level : nat_eq c.level (length row) ≡ true = eq-eqb c.level (length row) l in
    sym (ap (λ (b : Bool). not b || holds p row c) level) ∙ ap (λ (x : Check). not (nat_eq x.level (length row)) || holds p row x) e ∙ parts.0
one_of_all p (d ∷ checks) row c (inr e) l h =
    let parts = and_parts (not (nat_eq d.level (length row)) || holds p row d) (extends p checks row) h in
    one_of_all p checks row c e l parts.1

-- an item of a list that is walked stands in it
pub item_stands : (xs : List Check) (i : ℕ) (x : Check) → i < length xs → x ≡ get_or xs i x → Stands x xs
item_stands [] i x l h = absurd (omega (arith, l))
item_stands (y ∷ xs) zero x l h = inl h
item_stands (y ∷ xs) (suc i) x l h = inr (item_stands xs i x (omega (arith, l)) h)

pub suited : (c : Check) (place width : ℕ) → c.level ≡ width + 1 → place < width → IsTrue (is_test_of_two place width c.test) → Suits c place width
unfolding Suits
suited c place width l w t = (l, w, t)

pub serves : (p : Pair) (checks : List Check) (objects : List ℕ) (width w place : ℕ) (check : Check) (lists : List (Option (List ℕ))) → w ≡ width → Stands check checks → Suits check place width
    → ArePassing p check w objects lists → Serves p checks objects width (record { place = place; lists = lists })
unfolding Serves Suits ArePassing
serves p checks objects width w place check lists same stands suits passes row found long h =
    let within : place < length row = omega (arith, suits.1, long) in
    let list : found ≡ filter (λ o. holds p (even_row w (slot_value row (Parameter place)) o) check) objects = passes (slot_value row (Parameter place)) found h in
    let two : is_test_of_two place (length row) check.test ≡ true = ap (λ (n : ℕ). is_test_of_two place n check.test) long ∙ of_true (is_test_of_two place width check.test) suits.2 in
    let implied : (o : ℕ) → extends p checks (row ++ o ∷ []) ≡ true → holds p (even_row w (slot_value row (Parameter place)) o) check ≡ true =
    λ o e.
    let one = length-append row (o ∷ []) in
    let holds_here = one_of_all p checks (row ++ o ∷ []) check stands (omega (arith, suits.0, long, one)) e in
    ap (λ (n : ℕ). holds p (even_row n (slot_value row (Parameter place)) o) check) (same ∙ sym long) ∙ sym (two_holds row o place within p check two) ∙ holds_here in (
      ap (λ (os : List ℕ). extensions p checks os row) list ∙ kept (extends p checks) (λ o. holds p (even_row w (slot_value row (Parameter place)) o) check) row implied objects,
      subst (λ (os : List ℕ). length os ≤ length objects) (sym list) (fewer (λ o. holds p (even_row w (slot_value row (Parameter place)) o) check) objects),
    )
  where
    of_true : (b : Bool) → IsTrue b → b ≡ true
    of_true true t = refl
    of_true false t = cc

pub none_serve : (p : Pair) (checks : List Check) (objects : List ℕ) (width : ℕ) (c : Candidates) → c.lists ≡ [] → Serves p checks objects width c
unfolding Serves
none_serve p checks objects width c none row found long h =
    let bad : slice_get [] (slot_value row (Parameter c.place)) ≡ Some (Some found) = ap (λ (ls : List (Option (List ℕ))). slice_get ls (slot_value row (Parameter c.place))) (sym none) ∙ h in
    cc

pub served_rows : (p : Pair) (checks : List Check) (objects row found : List ℕ) (c : Candidates) → Serves p checks objects (length row) c
    → slice_get c.lists (slot_value row (Parameter c.place)) ≡ Some (Some found) → extensions p checks found row ≡ extensions p checks objects row
unfolding Serves
served_rows p checks objects row found c s h = (s row found refl h).0

pub served_few : (p : Pair) (checks : List Check) (objects row found : List ℕ) (c : Candidates) → Serves p checks objects (length row) c
    → slice_get c.lists (slot_value row (Parameter c.place)) ≡ Some (Some found) → length found ≤ length objects
unfolding Serves
served_few p checks objects row found c s h = (s row found refl h).1
