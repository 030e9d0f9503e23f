-- A literal isn't known to be false exactly where its check, if it has one, waits for more parameters or holds.
use Rattle.std.proofs.Common.{◌≡◌, ◌<◌, ◌+◌, ◌&&◌, ◌||◌, ℕ, zero, suc, Bool, true, false, not, List, [], ◌∷◌, length, take, Option, Some, None, map, refl, sym, ap, ◌∙◌, arith, is_some, if◌then◌else◌, slice_get}
use Rattle.std.specs.Prelude.{bytes_eq, nat_eq, nat_le, unwrap_or}
use Rattle.std.specs.Bool.{beq}
use Rattle.std.specs.Option.{option_map_or}
use Rattle.std.specs.List.{list_all}
use Rattle.std.proofs.lemmas.Bool.{and_parts, and_from, eq-eqb, eqb-true, leb-true}
use Rattle.std.proofs.lemmas.List.Folds.{list_all-append}
use Rattle.std.proofs.lemmas.Slice.Eq.{bytes_eq-Decides}
use Rattle.pddl_terms.specs.declared.names.Arg.{Arg}
use Rattle.pddl_terms.specs.declared.names.Arg.TheVariants.{Var, Obj}
use Rattle.pddl_terms.specs.declared.names.Atom.{Atom}
use Rattle.pddl_terms.specs.declared.names.Typed.{Typed}
use Rattle.pddl_terms.specs.declared.actions.Schema.{Schema}
use Rattle.pddl_terms.specs.Texts.{argument_text}
use Rattle.name_table.specs.Tables.{place_in}
use Rattle.name_table.specs.TypedLists.{names_of}
use Rattle.name_table.proofs.Numbered.{place_within}
use Rattle.pddl_types.specs.declared.pairs.Pair.{Pair}
use Rattle.pddl_types.specs.Pairs.{heads_of, objects_of}
use Rattle.pddl_types.specs.WellFormed.{AreDistinct, Each, texts_of}
use Rattle.static_facts.specs.Atoms.{atom_of, fact_atom, head_text, is_true_at_first, names, object_text}
use Rattle.static_facts.specs.Bindings.{spares}
use Rattle.static_facts.specs.Fixed.{is_fixed_predicate}
use Rattle.static_facts.specs.Literals.{is_bound, Literal}
use Rattle.static_facts.specs.Literals as literal
use Rattle.static_facts.proofs.Keyed.{IsSpelled}
use Rattle.static_facts.proofs.Named.{named_there, placed_there}
use Rattle.binder.specs.declared.checks.Check.{Check}
use Rattle.binder.specs.internal.Checks.{check_of, checks_of, fact_check, fact_checks, holds, same_check, slot_level, slot_of, slot_value, slots_level}
use Rattle.binder.proofs.Bounded.{all_cut, both_cut, bound_cut, is_known, named_argument, named_arguments}

-- ---- gates

passed : (b : Bool) → b ≡ (b && true)
passed true = refl
passed false = refl

gate : (g : Check → Bool) (c : Check) (f b l t u : Bool) → g c ≡ (not l || u) → (b ≡ true → l ≡ true → t ≡ u) → (not (f && (b && l)) || t) ≡ list_all g (if f && b then c ∷ [] else [])
gate g c true true true t u is same = same refl refl ∙ sym is ∙ passed (g c)
gate g c true true false t u is same = sym is ∙ passed (g c)
gate g c true false l t u is same = refl
gate g c false b l t u is same = refl

-- a check waits for more parameters than a row has, or holds
abbrev pub passes : Pair → List ℕ → Check → Bool
passes p row c = not (nat_le c.level (length row)) || holds p row c

-- ---- names of a pair

pub record HasObjects (p : Pair) : Type 0 where
  pub once : AreDistinct (texts_of (names_of (objects_of p)))
  pub spelled : (o : ℕ) → o < length (names_of (objects_of p)) → IsSpelled (object_text p o)

abbrev pub IsObject : Pair → ℕ → Type 0
IsObject p o = o < length (names_of (objects_of p))

abbrev pub is_known_literal : Pair → Literal → Bool
is_known_literal p (literal.fact positive a) = is_some (place_in a.head.text (heads_of p.domain.predicates)) && list_all (is_known p) a.args
is_known_literal p (literal.same positive a b) = is_known p a && is_known p b

some_same : (i j : ℕ) → Some i ≡ Some j → i ≡ j
some_same i j h = cc

same_objects : (p : Pair) → HasObjects p → (i j : ℕ) → IsObject p i → IsObject p j → bytes_eq (object_text p i) (object_text p j) ≡ nat_eq i j
same_objects p h i j l m = cases (bytes_eq (object_text p i) (object_text p j)) refl (nat_eq i j) refl
  where
    cases : (x : Bool) → bytes_eq (object_text p i) (object_text p j) ≡ x → (y : Bool) → nat_eq i j ≡ y → x ≡ y
    cases true s true t = refl
    cases false s false t = refl
    cases true s false t =
        let text : object_text p i ≡ object_text p j = (bytes_eq-Decides (object_text p i) (object_text p j)).0 s in
        let spelled = h.spelled i l in
        let first = placed_there (names_of (objects_of p)) h.once i spelled.first spelled.rest spelled.is in
        let second = placed_there (names_of (objects_of p)) h.once j spelled.first spelled.rest (sym text ∙ spelled.is) in
        let number : i ≡ j = some_same i j (sym first ∙ second) in
        let test = eq-eqb i j number in
        sym (sym t ∙ test) ∙ refl
    cases false s true t =
        let number : i ≡ j = eqb-true i j t in
        let text = (bytes_eq-Decides (object_text p i) (object_text p j)).1 (ap (object_text p) number) in
        sym s ∙ text

-- ---- values of slots

object_there : (p : Pair) (os : List ℕ) → Each (IsObject p) os → (i : ℕ) → i < length os → IsObject p (unwrap_or (slice_get os i) 0)
object_there p [] e i l = absurd (omega (arith, l))
object_there p (o ∷ os) e zero l = e.0
object_there p (o ∷ os) e (suc i) l = object_there p os e.1 i (omega (arith, l))

value_within : (p : Pair) (params : List Typed) (os : List ℕ) → Each (IsObject p) os → (a : Arg) → is_bound (take (length os) params) a ≡ true → is_known p a ≡ true
    → IsObject p (slot_value os (slot_of p params a))
value_within p params os e (Var n) b k =
    let parts = and_parts (is_bound params (Var n)) (nat_le (slot_level (slot_of p params (Var n))) (length os)) (sym (bound_cut p params (length os) (Var n)) ∙ b) in
    let level = leb-true (unwrap_or (place_in n.text (names_of params)) 0 + 1) (length os) parts.1 in
    object_there p os e (unwrap_or (place_in n.text (names_of params)) 0) (omega (arith, level))
value_within p params os e (Obj n) b k = cases (place_in n.text (names_of (objects_of p))) refl k
  where
    cases : (place : Option ℕ) → place_in n.text (names_of (objects_of p)) ≡ place → is_some place ≡ true → IsObject p (unwrap_or place 0)
    cases None f k = cc
    cases (Some i) f k = place_within n.text (names_of (objects_of p)) i (sym f)

-- ---- literals

module _ (p : Pair) (s : Schema) (has : HasObjects p) (os : List ℕ) (valid : Each (IsObject p) os) where
  abbrev first : List Typed
  first = take (length os) s.params

  fact_spared : (positive : Bool) (a : Atom) → list_all (is_known p) a.args ≡ true → (n : ℕ) → place_in a.head.text (heads_of p.domain.predicates) ≡ Some n
      → spares p s os (literal.fact positive a) ≡ list_all (passes p os) (fact_checks p s.params positive a.args n)
  fact_spared positive a known n place =
      let head : head_text p.domain.predicates n ≡ a.head.text = named_there a.head.text (heads_of p.domain.predicates) n place in
      ap (λ (b : Bool). not (is_fixed_predicate p a.head.text && b) || beq positive (is_true_at_first p (atom_of first (names p os) a))) (all_cut p s.params (length os) a.args)
      ∙ ap (λ (t : List ℕ). not (is_fixed_predicate p t && (list_all (is_bound s.params) a.args && nat_le (slots_level (map (slot_of p s.params) a.args)) (length os)))
      || beq positive (is_true_at_first p (atom_of first (names p os) a))) (sym head)
      ∙ gate (passes p os) (fact_check p s.params positive a.args n) (is_fixed_predicate p (head_text p.domain.predicates n)) (list_all (is_bound s.params) a.args)
      (nat_le (slots_level (map (slot_of p s.params) a.args)) (length os))
      (beq positive (is_true_at_first p (atom_of first (names p os) a)))
      (beq positive (is_true_at_first p (fact_atom p n (map (slot_value os) (map (slot_of p s.params) a.args)))))
      refl
      (λ b l.
      let bound : list_all (is_bound first) a.args ≡ true = all_cut p s.params (length os) a.args ∙ and_from _ _ b l in
      ap (λ (x : List (List ℕ)). beq positive (is_true_at_first p x))
      (ap (λ (t : List ℕ). t ∷ map (argument_text first (names p os)) a.args) (sym head)
      ∙ ap (λ (ts : List (List ℕ)). head_text p.domain.predicates n ∷ ts) (named_arguments p s.params os a.args bound known)))

  same_spared : (positive : Bool) (a b : Arg) → is_known p a ≡ true → is_known p b ≡ true
      → spares p s os (literal.same positive a b) ≡ list_all (passes p os) (check_of p s.params (literal.same positive a b))
  same_spared positive a b ka kb =
      ap (λ (c : Bool). not c || beq positive (bytes_eq (argument_text first (names p os) a) (argument_text first (names p os) b))) (both_cut p s.params (length os) a b)
      ∙ gate (passes p os) (same_check positive (slot_of p s.params a) (slot_of p s.params b)) true (is_bound s.params a && is_bound s.params b)
      (nat_le (same_check positive (slot_of p s.params a) (slot_of p s.params b)).level (length os))
      (beq positive (bytes_eq (argument_text first (names p os) a) (argument_text first (names p os) b)))
      (beq positive (nat_eq (slot_value os (slot_of p s.params a)) (slot_value os (slot_of p s.params b))))
      refl
      (λ c l.
      let bound = and_parts (is_bound first a) (is_bound first b) (both_cut p s.params (length os) a b ∙ and_from _ _ c l) in
      ap (beq positive)
      (ap (λ (t : List ℕ). bytes_eq t (argument_text first (names p os) b)) (named_argument p s.params os a bound.0 ka)
      ∙ ap (bytes_eq (object_text p (slot_value os (slot_of p s.params a)))) (named_argument p s.params os b bound.1 kb)
      ∙ same_objects p has (slot_value os (slot_of p s.params a)) (slot_value os (slot_of p s.params b)) (value_within p s.params os valid a bound.0 ka) (value_within p s.params os valid b bound.1 kb)))

  spared : (l : Literal) → is_known_literal p l ≡ true → spares p s os l ≡ list_all (passes p os) (check_of p s.params l)
  spared (literal.fact positive a) k = cases (place_in a.head.text (heads_of p.domain.predicates)) refl known.0
    where
      known : (is_some (place_in a.head.text (heads_of p.domain.predicates)) ≡ true) × (list_all (is_known p) a.args ≡ true)
      known = and_parts (is_some (place_in a.head.text (heads_of p.domain.predicates))) (list_all (is_known p) a.args) k

      cases : (place : Option ℕ) → place_in a.head.text (heads_of p.domain.predicates) ≡ place → is_some place ≡ true
          → spares p s os (literal.fact positive a) ≡ list_all (passes p os) (option_map_or (fact_checks p s.params positive a.args) place [])
      cases None e i = cc
      cases (Some n) e i = fact_spared positive a known.1 n e
  spared (literal.same positive a b) k =
      let known = and_parts (is_known p a) (is_known p b) k in
      same_spared positive a b known.0 known.1

  -- no literal is known to be false exactly where all checks pass
  pub all_spared : (ls : List Literal) → list_all (is_known_literal p) ls ≡ true → list_all (spares p s os) ls ≡ list_all (passes p os) (checks_of p s.params ls)
  all_spared [] k = refl
  all_spared (l ∷ ls) k =
      let known = and_parts (is_known_literal p l) (list_all (is_known_literal p) ls) k in
      ap (λ (b : Bool). b && list_all (spares p s os) ls) (spared l known.0)
      ∙ ap (λ (b : Bool). list_all (passes p os) (check_of p s.params l) && b) (all_spared ls known.1)
      ∙ sym (list_all-append (passes p os) (check_of p s.params l) (checks_of p s.params ls))
