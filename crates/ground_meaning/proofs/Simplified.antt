-- Simplified conjunctions and disjunctions hold exactly where all members, or one of them, hold.
use Rattle.std.proofs.Common.{◌≡◌, ◌&&◌, ◌||◌, ◌++◌, ℕ, Bool, true, false, List, [], ◌∷◌, refl, sym, ap, ap₂, subst, ◌∙◌}
use Rattle.std.specs.Prelude.{flat_map, if◌then◌else◌}
use Rattle.std.specs.List.{list_all, list_any}
use Rattle.num_ends.specs.Decimal.{Decimal}
use Rattle.pddl_types.specs.WellFormed.{Each}
use Rattle.ground_task.specs.declared.raw.Rel.{Rel}
use Rattle.ground_task.specs.declared.raw.GExpr.{GExpr}
use Rattle.ground_task.specs.declared.raw.GCond.{GCond, GCond-F, out-GCond, out-roll-GCond}
use Rattle.ground_task.specs.declared.raw.GCond.TheVariants as c
use Rattle.ground_task.specs.Meaning.{holds_in, holds_layer}
use Rattle.ground_task.specs.Ranged.{conjuncts_layer, top_conjuncts}
use Rattle.ground_task.proofs.Trees.{fold-And, fold-Or, fold-True, fold-False, induct_condition, list_all-map, list_any-map}
use Rattle.ground_meaning.specs.Conditions.{Settled, all_of, any_of, as_condition, disjuncts_layer, is_decided, joined, remaining_members, top_disjuncts}
use Rattle.ground_meaning.specs.Conditions.Settled.{decided, remaining}
use Rattle.ground_meaning.proofs.Lists.{each_left, each_right}

-- ---- the members of a condition

open_True : out-GCond c.True ≡ GCond-F.True
open_True = ap out-GCond (sym c.rolls-True) ∙ out-roll-GCond GCond-F.True

open_False : out-GCond c.False ≡ GCond-F.False
open_False = ap out-GCond (sym c.rolls-False) ∙ out-roll-GCond GCond-F.False

open_Fact : (f : ℕ) (truth : Bool) → out-GCond (c.Fact f truth) ≡ GCond-F.Fact f truth
open_Fact f truth = ap out-GCond (sym (c.rolls-Fact f truth)) ∙ out-roll-GCond (GCond-F.Fact f truth)

open_Cmp : (r : Rel) (a b : GExpr) → out-GCond (c.Cmp r a b) ≡ GCond-F.Cmp r a b
open_Cmp r a b = ap out-GCond (sym (c.rolls-Cmp r a b)) ∙ out-roll-GCond (GCond-F.Cmp r a b)

open_And : (cs : List GCond) → out-GCond (c.And cs) ≡ GCond-F.And cs
open_And cs = ap out-GCond (sym (c.rolls-And cs)) ∙ out-roll-GCond (GCond-F.And cs)

open_Or : (cs : List GCond) → out-GCond (c.Or cs) ≡ GCond-F.Or cs
open_Or cs = ap out-GCond (sym (c.rolls-Or cs)) ∙ out-roll-GCond (GCond-F.Or cs)

-- either a conjunction or its own only member
pub by_conjuncts : (P : GCond → List GCond → Type 0) → ((cs : List GCond) → P (c.And cs) cs) → ((g : GCond) → P g (g ∷ [])) → (g : GCond) → P g (top_conjuncts g)
by_conjuncts P both alone =
    induct_condition (λ g. P g (top_conjuncts g))
    (subst (λ (z : GCond-F GCond). P c.True (conjuncts_layer c.True z)) (sym open_True) (alone c.True))
    (subst (λ (z : GCond-F GCond). P c.False (conjuncts_layer c.False z)) (sym open_False) (alone c.False))
    (λ f truth. subst (λ (z : GCond-F GCond). P (c.Fact f truth) (conjuncts_layer (c.Fact f truth) z)) (sym (open_Fact f truth)) (alone (c.Fact f truth)))
    (λ r a b. subst (λ (z : GCond-F GCond). P (c.Cmp r a b) (conjuncts_layer (c.Cmp r a b) z)) (sym (open_Cmp r a b)) (alone (c.Cmp r a b)))
    (λ cs h. subst (λ (z : GCond-F GCond). P (c.And cs) (conjuncts_layer (c.And cs) z)) (sym (open_And cs)) (both cs))
    (λ cs h. subst (λ (z : GCond-F GCond). P (c.Or cs) (conjuncts_layer (c.Or cs) z)) (sym (open_Or cs)) (alone (c.Or cs)))

-- either a disjunction or its own only member
pub by_disjuncts : (P : GCond → List GCond → Type 0) → ((cs : List GCond) → P (c.Or cs) cs) → ((g : GCond) → P g (g ∷ [])) → (g : GCond) → P g (top_disjuncts g)
by_disjuncts P either alone =
    induct_condition (λ g. P g (top_disjuncts g))
    (subst (λ (z : GCond-F GCond). P c.True (disjuncts_layer c.True z)) (sym open_True) (alone c.True))
    (subst (λ (z : GCond-F GCond). P c.False (disjuncts_layer c.False z)) (sym open_False) (alone c.False))
    (λ f truth. subst (λ (z : GCond-F GCond). P (c.Fact f truth) (disjuncts_layer (c.Fact f truth) z)) (sym (open_Fact f truth)) (alone (c.Fact f truth)))
    (λ r a b. subst (λ (z : GCond-F GCond). P (c.Cmp r a b) (disjuncts_layer (c.Cmp r a b) z)) (sym (open_Cmp r a b)) (alone (c.Cmp r a b)))
    (λ cs h. subst (λ (z : GCond-F GCond). P (c.And cs) (disjuncts_layer (c.And cs) z)) (sym (open_And cs)) (alone (c.And cs)))
    (λ cs h. subst (λ (z : GCond-F GCond). P (c.Or cs) (disjuncts_layer (c.Or cs) z)) (sym (open_Or cs)) (either cs))

-- ---- truth

and_true : (a : Bool) → (a && true) ≡ a
and_true true = refl
and_true false = refl

or_false : (a : Bool) → (a || false) ≡ a
or_false true = refl
or_false false = refl

and_assoc : (a b d : Bool) → ((a && b) && d) ≡ (a && (b && d))
and_assoc true b d = refl
and_assoc false b d = refl

or_assoc : (a b d : Bool) → ((a || b) || d) ≡ (a || (b || d))
or_assoc true b d = refl
or_assoc false b d = refl

pub all_joined : {A : Type 0} (test : A → Bool) (xs ys : List A) → list_all test (xs ++ ys) ≡ (list_all test xs && list_all test ys)
all_joined test [] ys = refl
all_joined test (x ∷ xs) ys = ap (λ (b : Bool). test x && b) (all_joined test xs ys) ∙ sym (and_assoc (test x) (list_all test xs) (list_all test ys))

pub any_joined : {A : Type 0} (test : A → Bool) (xs ys : List A) → list_any test (xs ++ ys) ≡ (list_any test xs || list_any test ys)
any_joined test [] ys = refl
any_joined test (x ∷ xs) ys = ap (λ (b : Bool). test x || b) (any_joined test xs ys) ∙ sym (or_assoc (test x) (list_any test xs) (list_any test ys))

module _ (facts : ℕ → Bool) (v : ℕ → Decimal) where
  pub holds_And : (cs : List GCond) → holds_in facts v (c.And cs) ≡ list_all (holds_in facts v) cs
  holds_And cs = fold-And (holds_layer facts v) cs ∙ list_all-map (holds_in facts v) cs

  pub holds_Or : (cs : List GCond) → holds_in facts v (c.Or cs) ≡ list_any (holds_in facts v) cs
  holds_Or cs = fold-Or (holds_layer facts v) cs ∙ list_any-map (holds_in facts v) cs

  all_conjuncts : (g : GCond) → list_all (holds_in facts v) (top_conjuncts g) ≡ holds_in facts v g
  all_conjuncts = by_conjuncts (λ g gs. list_all (holds_in facts v) gs ≡ holds_in facts v g) (λ cs. sym (holds_And cs)) (λ g. and_true (holds_in facts v g))

  any_disjunct : (g : GCond) → list_any (holds_in facts v) (top_disjuncts g) ≡ holds_in facts v g
  any_disjunct = by_disjuncts (λ g gs. list_any (holds_in facts v) gs ≡ holds_in facts v g) (λ cs. sym (holds_Or cs)) (λ g. or_false (holds_in facts v g))

  joined_all : (gs : List GCond) → holds_in facts v (as_condition (joined true c.And gs)) ≡ list_all (holds_in facts v) gs
  joined_all [] = fold-True (holds_layer facts v)
  joined_all (g ∷ []) = sym (and_true (holds_in facts v g))
  joined_all (g ∷ h ∷ gs) = holds_And (g ∷ h ∷ gs)

  joined_any : (gs : List GCond) → holds_in facts v (as_condition (joined false c.Or gs)) ≡ list_any (holds_in facts v) gs
  joined_any [] = fold-False (holds_layer facts v)
  joined_any (g ∷ []) = sym (or_false (holds_in facts v g))
  joined_any (g ∷ h ∷ gs) = holds_Or (g ∷ h ∷ gs)

  -- the truth of a settled condition
  abbrev pub truth_of : Settled → Bool
  truth_of s = holds_in facts v (as_condition s)

  -- what is known of conditions: of a conjunction or a disjunction what is known of each member
  pub record IsLocal (A : GCond → Type 0) : Type 0 where
    pub always : A c.True
    pub never : A c.False
    pub of_all : (cs : List GCond) → A (c.And cs) → Each A cs
    pub for_all : (cs : List GCond) → Each A cs → A (c.And cs)
    pub of_any : (cs : List GCond) → A (c.Or cs) → Each A cs
    pub for_any : (cs : List GCond) → Each A cs → A (c.Or cs)

  module _ (A : GCond → Type 0) (local : IsLocal A) where
    -- each settled condition has its truth value, where enough is known of it
    abbrev pub Say : List Settled → List Bool → Type 0
    Say [] [] = Unit {0}
    Say [] (t ∷ ts) = ⊥
    Say (s ∷ ss) [] = ⊥
    Say (s ∷ ss) (t ∷ ts) = (A (as_condition s) → truth_of s ≡ t) × Say ss ts

    from_conjuncts : (g : GCond) → Each A (top_conjuncts g) → A g
    from_conjuncts = by_conjuncts (λ g gs. Each A gs → A g) (λ cs h. local.for_all cs h) (λ g h. h.0)

    from_disjuncts : (g : GCond) → Each A (top_disjuncts g) → A g
    from_disjuncts = by_disjuncts (λ g gs. Each A gs → A g) (λ cs h. local.for_any cs h) (λ g h. h.0)

    joined_parts_all : (gs : List GCond) → A (as_condition (joined true c.And gs)) → Each A gs
    joined_parts_all [] h = tt
    joined_parts_all (g ∷ []) h = (h, tt)
    joined_parts_all (g ∷ h ∷ gs) k = local.of_all (g ∷ h ∷ gs) k

    joined_parts_any : (gs : List GCond) → A (as_condition (joined false c.Or gs)) → Each A gs
    joined_parts_any [] h = tt
    joined_parts_any (g ∷ []) h = (h, tt)
    joined_parts_any (g ∷ h ∷ gs) k = local.of_any (g ∷ h ∷ gs) k

    all_members : (ss : List Settled) (ts : List Bool) → Say ss ts → list_any (is_decided false) ss ≡ false → Each A (flat_map (remaining_members top_conjuncts) ss)
        → list_all (holds_in facts v) (flat_map (remaining_members top_conjuncts) ss) ≡ list_all (λ t. t) ts
    all_members [] [] say h known = refl
    all_members [] (t ∷ ts) say h known = elim say [ ]
    all_members (s ∷ ss) [] say h known = elim say [ ]
    all_members (decided true ∷ ss) (t ∷ ts) say h known =
        all_members ss ts say.1 h known ∙ ap (λ (b : Bool). b && list_all (λ t. t) ts) (sym (fold-True (holds_layer facts v)) ∙ say.0 local.always)
    all_members (decided false ∷ ss) (t ∷ ts) say h known = cc
    all_members (remaining g ∷ ss) (t ∷ ts) say h known =
        all_joined (holds_in facts v) (top_conjuncts g) (flat_map (remaining_members top_conjuncts) ss)
        ∙ ap₂ (λ (a b : Bool). a && b)
        (all_conjuncts g ∙ say.0 (from_conjuncts g (each_left A (top_conjuncts g) (flat_map (remaining_members top_conjuncts) ss) known)))
        (all_members ss ts say.1 h (each_right A (top_conjuncts g) (flat_map (remaining_members top_conjuncts) ss) known))

    any_member : (ss : List Settled) (ts : List Bool) → Say ss ts → list_any (is_decided true) ss ≡ false → Each A (flat_map (remaining_members top_disjuncts) ss)
        → list_any (holds_in facts v) (flat_map (remaining_members top_disjuncts) ss) ≡ list_any (λ t. t) ts
    any_member [] [] say h known = refl
    any_member [] (t ∷ ts) say h known = elim say [ ]
    any_member (s ∷ ss) [] say h known = elim say [ ]
    any_member (decided true ∷ ss) (t ∷ ts) say h known = cc
    any_member (decided false ∷ ss) (t ∷ ts) say h known =
        any_member ss ts say.1 h known ∙ ap (λ (b : Bool). b || list_any (λ t. t) ts) (sym (fold-False (holds_layer facts v)) ∙ say.0 local.never)
    any_member (remaining g ∷ ss) (t ∷ ts) say h known =
        any_joined (holds_in facts v) (top_disjuncts g) (flat_map (remaining_members top_disjuncts) ss)
        ∙ ap₂ (λ (a b : Bool). a || b)
        (any_disjunct g ∙ say.0 (from_disjuncts g (each_left A (top_disjuncts g) (flat_map (remaining_members top_disjuncts) ss) known)))
        (any_member ss ts say.1 h (each_right A (top_disjuncts g) (flat_map (remaining_members top_disjuncts) ss) known))

    and_false : (b : Bool) → (b && false) ≡ false
    and_false true = refl
    and_false false = refl

    or_true : (b : Bool) → (b || true) ≡ true
    or_true true = refl
    or_true false = refl

    false_one : (ss : List Settled) (ts : List Bool) → Say ss ts → list_any (is_decided false) ss ≡ true → list_all (λ t. t) ts ≡ false
    false_one [] ts say h = cc
    false_one (s ∷ ss) [] say h = elim say [ ]
    false_one (decided true ∷ ss) (t ∷ ts) say h = ap (λ (b : Bool). t && b) (false_one ss ts say.1 h) ∙ and_false t
    false_one (decided false ∷ ss) (t ∷ ts) say h = ap (λ (b : Bool). b && list_all (λ t. t) ts) (sym (say.0 local.never) ∙ fold-False (holds_layer facts v))
    false_one (remaining g ∷ ss) (t ∷ ts) say h = ap (λ (b : Bool). t && b) (false_one ss ts say.1 h) ∙ and_false t

    true_one : (ss : List Settled) (ts : List Bool) → Say ss ts → list_any (is_decided true) ss ≡ true → list_any (λ t. t) ts ≡ true
    true_one [] ts say h = cc
    true_one (s ∷ ss) [] say h = elim say [ ]
    true_one (decided true ∷ ss) (t ∷ ts) say h = ap (λ (b : Bool). b || list_any (λ t. t) ts) (sym (say.0 local.always) ∙ fold-True (holds_layer facts v))
    true_one (decided false ∷ ss) (t ∷ ts) say h = ap (λ (b : Bool). t || b) (true_one ss ts say.1 h) ∙ or_true t
    true_one (remaining g ∷ ss) (t ∷ ts) say h = ap (λ (b : Bool). t || b) (true_one ss ts say.1 h) ∙ or_true t

    -- a conjunction holds where all are true
    pub all_of_says : (ss : List Settled) (ts : List Bool) → Say ss ts → A (as_condition (all_of ss)) → truth_of (all_of ss) ≡ list_all (λ t. t) ts
    all_of_says ss ts say = by_test (list_any (is_decided false) ss) refl
      where
        by_test : (test : Bool) → list_any (is_decided false) ss ≡ test
            → A (as_condition (if test then decided false else joined true c.And (flat_map (remaining_members top_conjuncts) ss)))
            → truth_of (if test then decided false else joined true c.And (flat_map (remaining_members top_conjuncts) ss)) ≡ list_all (λ t. t) ts
        by_test true is known = fold-False (holds_layer facts v) ∙ sym (false_one ss ts say is)
        by_test false is known =
            joined_all (flat_map (remaining_members top_conjuncts) ss)
            ∙ all_members ss ts say is (joined_parts_all (flat_map (remaining_members top_conjuncts) ss) known)

    -- a disjunction holds where one is true
    pub any_of_says : (ss : List Settled) (ts : List Bool) → Say ss ts → A (as_condition (any_of ss)) → truth_of (any_of ss) ≡ list_any (λ t. t) ts
    any_of_says ss ts say = by_test (list_any (is_decided true) ss) refl
      where
        by_test : (test : Bool) → list_any (is_decided true) ss ≡ test
            → A (as_condition (if test then decided true else joined false c.Or (flat_map (remaining_members top_disjuncts) ss)))
            → truth_of (if test then decided true else joined false c.Or (flat_map (remaining_members top_disjuncts) ss)) ≡ list_any (λ t. t) ts
        by_test true is known = fold-True (holds_layer facts v) ∙ sym (true_one ss ts say is)
        by_test false is known =
            joined_any (flat_map (remaining_members top_disjuncts) ss)
            ∙ any_member ss ts say is (joined_parts_any (flat_map (remaining_members top_disjuncts) ss) known)
