-- A row passes all checks exactly where the row before its last object does and the checks that wait for exactly so many hold.
use Rattle.std.proofs.Common.{◌≡◌, ◌<◌, ◌≤◌, ◌+◌, ◌&&◌, ◌||◌, ◌⊎◌, inl, inr, ℕ, zero, suc, Bool, true, false, not, List, [], ◌∷◌, ◌++◌, length, Option, Some, None, map, refl, sym, ap, ◌∙◌, arith, slice_get, length-append}
use Rattle.std.specs.Prelude.{max, nat_eq, nat_le, unwrap_or, if◌then◌else◌}
use Rattle.std.specs.Bool.{beq}
use Rattle.std.specs.Option.{option_map_or}
use Rattle.std.specs.List.{list_all}
use Rattle.std.proofs.lemmas.Bool.{cases_order, eq-eqb, le-leb, lt-leb, ne_eqb}
use Rattle.pddl_terms.specs.declared.names.Arg.{Arg}
use Rattle.pddl_terms.specs.declared.names.Typed.{Typed}
use Rattle.name_table.specs.Tables.{place_in}
use Rattle.pddl_types.specs.declared.pairs.Pair.{Pair}
use Rattle.pddl_types.specs.Pairs.{heads_of}
use Rattle.pddl_types.specs.WellFormed.{Each}
use Rattle.pddl_types.proofs.Empties.{each_append}
use Rattle.static_facts.specs.Atoms.{fact_atom, head_text, is_true_at_first}
use Rattle.static_facts.specs.Fixed.{is_fixed_predicate}
use Rattle.static_facts.specs.Literals.{is_bound, Literal}
use Rattle.static_facts.specs.Literals as literal
use Rattle.binder.specs.declared.checks.Slot.{Slot}
use Rattle.binder.specs.declared.checks.Slot.TheVariants.{Parameter, Object}
use Rattle.binder.specs.declared.checks.Test.{Test}
use Rattle.binder.specs.declared.checks.Test.TheVariants as test
use Rattle.binder.specs.declared.checks.Check.{Check}
use Rattle.binder.specs.internal.Checks.{check_of, checks_of, extends, fact_check, fact_checks, holds, is_met, slot_level, slot_of, slot_value, slots_level}
use Rattle.binder.proofs.Judged.{passes}

abbrev test_level : Test → ℕ
test_level (test.Fact predicate slots) = slots_level slots
test_level (test.Same a b) = max (slot_level a) (slot_level b)

-- a check waits for all parameters that its test speaks of
abbrev pub IsWaiting : Check → Type 0
IsWaiting c = test_level c.test ≤ c.level

-- ---- what stands in a longer row

same_place : (os ys : List ℕ) (i : ℕ) → i < length os → slice_get (os ++ ys) i ≡ slice_get os i
same_place [] ys i l = absurd (omega (arith, l))
same_place (o ∷ os) ys zero l = refl
same_place (o ∷ os) ys (suc i) l = same_place os ys i (omega (arith, l))

same_value : (os ys : List ℕ) (s : Slot) → slot_level s ≤ length os → slot_value (os ++ ys) s ≡ slot_value os s
same_value os ys (Parameter i) l = ap (λ (x : Option ℕ). unwrap_or x 0) (same_place os ys i (omega (arith, l)))
same_value os ys (Object o) l = refl

same_values : (os ys : List ℕ) (slots : List Slot) → slots_level slots ≤ length os → map (slot_value (os ++ ys)) slots ≡ map (slot_value os) slots
same_values os ys [] l = refl
same_values os ys (s ∷ slots) l =
    ap (λ (v : ℕ). v ∷ map (slot_value (os ++ ys)) slots) (same_value os ys s (omega (arith, l)))
    ∙ ap (λ (vs : List ℕ). slot_value os s ∷ vs) (same_values os ys slots (omega (arith, l)))

still_met : (p : Pair) (os ys : List ℕ) (t : Test) → test_level t ≤ length os → is_met p (os ++ ys) t ≡ is_met p os t
still_met p os ys (test.Fact predicate slots) l = ap (λ (vs : List ℕ). is_true_at_first p (fact_atom p predicate vs)) (same_values os ys slots l)
still_met p os ys (test.Same a b) l =
    ap (λ (v : ℕ). nat_eq v (slot_value (os ++ ys) b)) (same_value os ys a (omega (arith, l)))
    ∙ ap (nat_eq (slot_value os a)) (same_value os ys b (omega (arith, l)))

-- ---- one more object

gated : (x y z t u : Bool) → ((x ≡ true) × (y ≡ true) × (z ≡ false) × (t ≡ u)) ⊎ (((x ≡ true) × (y ≡ false) × (z ≡ true)) ⊎ ((x ≡ false) × (y ≡ false) × (z ≡ false)))
    → (not x || t) ≡ ((not y || u) && (not z || t))
gated x y z t u (inl h) =
    ap (λ (a : Bool). not a || t) h.0 ∙ h.3 ∙ passed u
    ∙ sym (ap (λ (b : Bool). (not b || u) && (not z || t)) h.1 ∙ ap (λ (c : Bool). u && (not c || t)) h.2)
  where
    passed : (b : Bool) → b ≡ (b && true)
    passed true = refl
    passed false = refl
gated x y z t u (inr (inl h)) =
    ap (λ (a : Bool). not a || t) h.0 ∙ sym (ap (λ (b : Bool). (not b || u) && (not z || t)) h.1 ∙ ap (λ (c : Bool). not c || t) h.2)
gated x y z t u (inr (inr h)) =
    ap (λ (a : Bool). not a || t) h.0 ∙ sym (ap (λ (b : Bool). (not b || u) && (not z || t)) h.1 ∙ ap (λ (c : Bool). not c || t) h.2)

module _ (p : Pair) (os : List ℕ) (o : ℕ) where
  one_more : length (os ++ o ∷ []) ≡ length os + 1
  one_more = length-append os (o ∷ [])

  -- the cases of a check by how many parameters it waits for
  abbrev WaitsFor : Check → Type 0
  WaitsFor c =
      ((nat_le c.level (length (os ++ o ∷ [])) ≡ true) × (nat_le c.level (length os) ≡ true) × (nat_eq c.level (length (os ++ o ∷ [])) ≡ false) × (holds p (os ++ o ∷ []) c ≡ holds p os c))
      ⊎ (((nat_le c.level (length (os ++ o ∷ [])) ≡ true) × (nat_le c.level (length os) ≡ false) × (nat_eq c.level (length (os ++ o ∷ [])) ≡ true))
      ⊎ ((nat_le c.level (length (os ++ o ∷ [])) ≡ false) × (nat_le c.level (length os) ≡ false) × (nat_eq c.level (length (os ++ o ∷ [])) ≡ false)))

  check_extended : (c : Check) → IsWaiting c → passes p (os ++ o ∷ []) c ≡ (passes p os c && (not (nat_eq c.level (length (os ++ o ∷ []))) || holds p (os ++ o ∷ []) c))
  check_extended c w = gated _ _ _ _ _ (cases (cases_order c.level (length (os ++ o ∷ []))))
    where
      cases : (c.level ≡ length (os ++ o ∷ [])) ⊎ ((c.level < length (os ++ o ∷ [])) ⊎ (length (os ++ o ∷ []) < c.level)) → WaitsFor c
      cases (inl e) = inr (inl (le-leb _ _ (omega (arith, e)), lt-leb _ _ (omega (arith, e, one_more)), eq-eqb _ _ e))
      cases (inr (inl l)) =
          let below : c.level ≤ length os = omega (arith, l, one_more) in
          inl (le-leb _ _ (omega (arith, l)), le-leb _ _ below, ne_eqb _ _ (λ e. omega (arith, l, e)), ap (beq c.positive) (still_met p os (o ∷ []) c.test (omega (arith, w, below))))
      cases (inr (inr l)) = inr (inr (lt-leb _ _ l, lt-leb _ _ (omega (arith, l, one_more)), ne_eqb _ _ (λ e. omega (arith, l, e))))

  crossed : (a b c d : Bool) → ((a && b) && (c && d)) ≡ ((a && c) && (b && d))
  crossed true true true d = refl
  crossed true true false d = refl
  crossed true false true d = refl
  crossed true false false d = refl
  crossed false b c d = refl

  pub all_extended : (checks : List Check) → Each IsWaiting checks → list_all (passes p (os ++ o ∷ [])) checks ≡ (list_all (passes p os) checks && extends p checks (os ++ o ∷ []))
  all_extended [] w = refl
  all_extended (c ∷ checks) w =
      ap (λ (b : Bool). b && list_all (passes p (os ++ o ∷ [])) checks) (check_extended c w.0)
      ∙ ap (λ (b : Bool). (passes p os c && (not (nat_eq c.level (length (os ++ o ∷ []))) || holds p (os ++ o ∷ []) c)) && b) (all_extended checks w.1)
      ∙ crossed (passes p os c) (not (nat_eq c.level (length (os ++ o ∷ []))) || holds p (os ++ o ∷ []) c) (list_all (passes p os) checks) (extends p checks (os ++ o ∷ []))

-- the empty row passes where the checks that wait for nothing hold
pub none_extended : (p : Pair) (checks : List Check) → list_all (passes p []) checks ≡ extends p checks []
none_extended p [] = refl
none_extended p (c ∷ checks) = ap (λ (b : Bool). (not b || holds p [] c) && list_all (passes p []) checks) (zero_level c.level) ∙ ap (λ (b : Bool). (not (nat_eq c.level 0) || holds p [] c) && b) (none_extended p checks)
  where
    zero_level : (n : ℕ) → nat_le n 0 ≡ nat_eq n 0
    zero_level zero = le-leb 0 0 (omega arith) ∙ sym (eq-eqb 0 0 refl)
    zero_level (suc n) = lt-leb (suc n) 0 (omega arith) ∙ sym (ne_eqb (suc n) 0 (λ e. omega (arith, e)))

-- ---- the checks of literals wait

fact_waits : (p : Pair) (params : List Typed) (positive : Bool) (args : List Arg) (n : ℕ) (test : Bool) → Each IsWaiting (if test then fact_check p params positive args n ∷ [] else [])
fact_waits p params positive args n true = (omega arith, tt)
fact_waits p params positive args n false = tt

literal_waits : (p : Pair) (params : List Typed) (l : Literal) → Each IsWaiting (check_of p params l)
literal_waits p params (literal.fact positive a) = cases (place_in a.head.text (heads_of p.domain.predicates))
  where
    cases : (place : Option ℕ) → Each IsWaiting (option_map_or (fact_checks p params positive a.args) place [])
    cases None = tt
    cases (Some n) = fact_waits p params positive a.args n (is_fixed_predicate p (head_text p.domain.predicates n) && list_all (is_bound params) a.args)
literal_waits p params (literal.same positive a b) = cases (is_bound params a && is_bound params b)
  where
    cases : (bound : Bool)
        → Each IsWaiting (if bound then record { positive = positive; level = max (slot_level (slot_of p params a)) (slot_level (slot_of p params b)); test = test.Same (slot_of p params a) (slot_of p params b) } ∷ [] else [])
    cases true = (omega arith, tt)
    cases false = tt

pub checks_wait : (p : Pair) (params : List Typed) (ls : List Literal) → Each IsWaiting (checks_of p params ls)
checks_wait p params [] = tt
checks_wait p params (l ∷ ls) = (each_append IsWaiting (check_of p params l) (checks_of p params ls)).1 (literal_waits p params l, checks_wait p params ls)
