-- What remains of a condition has members: no conjunction or disjunction in it is empty.
use Rattle.std.proofs.Common.{◌≡◌, ◌&&◌, ℕ, Bool, true, false, List, [], ◌∷◌, All, map, Result, Ok, Err, refl, sym, ap₂, subst, ◌∙◌}
use Rattle.std.specs.Prelude.{flat_map, if◌then◌else◌}
use Rattle.std.specs.List.{list_all, list_any}
use Rattle.std.proofs.lemmas.Bool.{and_parts}
use Rattle.std.proofs.lemmas.List.Elements.{All-cons, All-head, All-nil, All-tail}
use Rattle.pddl_terms.specs.declared.conditions.Rel.{Rel}
use Rattle.pddl_terms.specs.declared.conditions.Rel.TheVariants as rel
use Rattle.pddl_types.specs.declared.pairs.Pair.{Pair}
use Rattle.pddl_types.specs.WellFormed.{Each}
use Rattle.ground_task.specs.declared.raw.Rel.TheVariants as relation
use Rattle.ground_task.specs.declared.raw.GExpr.{GExpr}
use Rattle.ground_task.specs.declared.raw.GCond.{GCond, GCond-F, fold-GCond}
use Rattle.ground_task.specs.declared.raw.GCond.TheVariants as c
use Rattle.ground_task.specs.Ranged.{top_conjuncts}
use Rattle.ground_task.proofs.Trees.{fold-And, fold-Cmp, fold-Fact, fold-Or}
use Rattle.ground_meaning.specs.Results.{after, all_answers, mapped}
use Rattle.ground_meaning.specs.Expressions.{FoldFault, Operand}
use Rattle.ground_meaning.specs.Expressions.Operand.{constant, computed}
use Rattle.ground_meaning.specs.Conditions.{Settled, all_of, any_of, compared, comparison, is_decided, joined, remaining_members, top_disjuncts}
use Rattle.ground_meaning.specs.Conditions.Settled.{decided, remaining}
use Rattle.ground_meaning.proofs.Lists.{each_joined}
use Rattle.ground_meaning.proofs.Simplified.{by_conjuncts, by_disjuncts}
use Rattle.term_patterns.specs.declared.slots.CondSlots.{CondSlots, CondSlots-F, ind-CondSlots, map-CondSlots, roll-CondSlots}
use Rattle.term_patterns.specs.declared.slots.CondSlots.TheVariants as slots
use Rattle.term_patterns.specs.Bound.{bound_condition, bound_expression}
use Rattle.term_patterns.proofs.Layers.{bound_All, bound_Any, bound_Compared, bound_Fact, bound_Same}

abbrev filled_members : List Bool → Bool
filled_members [] = false
filled_members (b ∷ bs) = list_all (λ t. t) (b ∷ bs)

abbrev filled_layer : GCond-F Bool → Bool
filled_layer GCond-F.True = true
filled_layer GCond-F.False = true
filled_layer (GCond-F.Fact f truth) = true
filled_layer (GCond-F.Cmp r a b) = true
filled_layer (GCond-F.And bs) = filled_members bs
filled_layer (GCond-F.Or bs) = filled_members bs

-- no conjunction or disjunction in it is empty
abbrev pub IsFilled : GCond → Type 0
IsFilled g = fold-GCond Bool filled_layer g ≡ true

abbrev pub NotEmpty : List GCond → Type 0
NotEmpty [] = ⊥
NotEmpty (g ∷ gs) = Unit {0}

each_filled : (gs : List GCond) → list_all (λ t. t) (map (fold-GCond Bool filled_layer) gs) ≡ true → Each IsFilled gs
each_filled [] h = tt
each_filled (g ∷ gs) h =
    let parts = and_parts (fold-GCond Bool filled_layer g) (list_all (λ t. t) (map (fold-GCond Bool filled_layer) gs)) h in
    (parts.0, each_filled gs parts.1)

all_filled : (gs : List GCond) → Each IsFilled gs → list_all (λ t. t) (map (fold-GCond Bool filled_layer) gs) ≡ true
all_filled [] h = refl
all_filled (g ∷ gs) h = ap₂ (λ (a b : Bool). a && b) h.0 (all_filled gs h.1)

members_filled : (gs : List GCond) → filled_members (map (fold-GCond Bool filled_layer) gs) ≡ true → NotEmpty gs × Each IsFilled gs
members_filled [] h = cc
members_filled (g ∷ gs) h = (tt, each_filled (g ∷ gs) h)

pub filled_conjuncts : (g : GCond) → IsFilled g → NotEmpty (top_conjuncts g) × Each IsFilled (top_conjuncts g)
filled_conjuncts =
    by_conjuncts (λ g gs. IsFilled g → NotEmpty gs × Each IsFilled gs) (λ cs h. members_filled cs (sym (fold-And filled_layer cs) ∙ h)) (λ g h. (tt, (h, tt)))

pub filled_disjuncts : (g : GCond) → IsFilled g → NotEmpty (top_disjuncts g) × Each IsFilled (top_disjuncts g)
filled_disjuncts =
    by_disjuncts (λ g gs. IsFilled g → NotEmpty gs × Each IsFilled gs) (λ cs h. members_filled cs (sym (fold-Or filled_layer cs) ∙ h)) (λ g h. (tt, (h, tt)))

-- ---- folded conditions

abbrev pub IsFull : Settled → Type 0
IsFull (decided truth) = Unit {0}
IsFull (remaining g) = IsFilled g

joined_all : (gs : List GCond) → Each IsFilled gs → IsFull (joined true c.And gs)
joined_all [] h = tt
joined_all (g ∷ []) h = h.0
joined_all (g ∷ k ∷ gs) h = fold-And filled_layer (g ∷ k ∷ gs) ∙ all_filled (g ∷ k ∷ gs) h

joined_any : (gs : List GCond) → Each IsFilled gs → IsFull (joined false c.Or gs)
joined_any [] h = tt
joined_any (g ∷ []) h = h.0
joined_any (g ∷ k ∷ gs) h = fold-Or filled_layer (g ∷ k ∷ gs) ∙ all_filled (g ∷ k ∷ gs) h

conjuncts_of : (ss : List Settled) → Each IsFull ss → Each IsFilled (flat_map (remaining_members top_conjuncts) ss)
conjuncts_of [] h = tt
conjuncts_of (decided truth ∷ ss) h = conjuncts_of ss h.1
conjuncts_of (remaining g ∷ ss) h =
    each_joined IsFilled (top_conjuncts g) (flat_map (remaining_members top_conjuncts) ss) (filled_conjuncts g h.0).1 (conjuncts_of ss h.1)

disjuncts_of : (ss : List Settled) → Each IsFull ss → Each IsFilled (flat_map (remaining_members top_disjuncts) ss)
disjuncts_of [] h = tt
disjuncts_of (decided truth ∷ ss) h = disjuncts_of ss h.1
disjuncts_of (remaining g ∷ ss) h =
    each_joined IsFilled (top_disjuncts g) (flat_map (remaining_members top_disjuncts) ss) (filled_disjuncts g h.0).1 (disjuncts_of ss h.1)

either_full : (test : Bool) (truth : Bool) (s : Settled) → IsFull s → IsFull (if test then decided truth else s)
either_full true truth s h = tt
either_full false truth s h = h

all_of_full : (ss : List Settled) → Each IsFull ss → IsFull (all_of ss)
all_of_full ss h =
    either_full (list_any (is_decided false) ss) false (joined true c.And (flat_map (remaining_members top_conjuncts) ss)) (joined_all (flat_map (remaining_members top_conjuncts) ss) (conjuncts_of ss h))

any_of_full : (ss : List Settled) → Each IsFull ss → IsFull (any_of ss)
any_of_full ss h =
    either_full (list_any (is_decided true) ss) true (joined false c.Or (flat_map (remaining_members top_disjuncts) ss)) (joined_any (flat_map (remaining_members top_disjuncts) ss) (disjuncts_of ss h))

differing_full : (a b : GExpr) → IsFilled (c.Or (c.Cmp relation.Less a b ∷ c.Cmp relation.Greater a b ∷ []))
differing_full a b =
    fold-Or filled_layer (c.Cmp relation.Less a b ∷ c.Cmp relation.Greater a b ∷ [])
    ∙ all_filled (c.Cmp relation.Less a b ∷ c.Cmp relation.Greater a b ∷ []) (fold-Cmp filled_layer relation.Less a b, (fold-Cmp filled_layer relation.Greater a b, tt))

comparison_full : (polarity : Bool) (r : Rel) (a b : GExpr) → IsFilled (comparison polarity r a b)
comparison_full true rel.Less a b = fold-Cmp filled_layer relation.Less a b
comparison_full true rel.LessEqual a b = fold-Cmp filled_layer relation.LessEqual a b
comparison_full true rel.Equal a b = fold-Cmp filled_layer relation.Equal a b
comparison_full true rel.GreaterEqual a b = fold-Cmp filled_layer relation.GreaterEqual a b
comparison_full true rel.Greater a b = fold-Cmp filled_layer relation.Greater a b
comparison_full false rel.Less a b = fold-Cmp filled_layer relation.GreaterEqual a b
comparison_full false rel.LessEqual a b = fold-Cmp filled_layer relation.Greater a b
comparison_full false rel.Equal a b = differing_full a b
comparison_full false rel.GreaterEqual a b = fold-Cmp filled_layer relation.Less a b
comparison_full false rel.Greater a b = fold-Cmp filled_layer relation.LessEqual a b

compared_full : (polarity : Bool) (r : Rel) (a b : Operand) → IsFull (compared polarity r a b)
compared_full polarity r (constant x) (constant y) = tt
compared_full polarity r (constant x) (computed h) = comparison_full polarity r _ h
compared_full polarity r (computed g) (constant y) = comparison_full polarity r g _
compared_full polarity r (computed g) (computed h) = comparison_full polarity r g h

-- ---- answers

abbrev pub IsFullAnswer : Result Settled FoldFault → Type 0
IsFullAnswer (Ok s) = IsFull s
IsFullAnswer (Err f) = Unit {0}

abbrev pub AreFull : Result (List Settled) FoldFault → Type 0
AreFull (Ok ss) = Each IsFull ss
AreFull (Err f) = Unit {0}

one_more_full : (s : Settled) → IsFull s → (r : Result (List Settled) FoldFault) → AreFull r → AreFull (mapped (λ found. s ∷ found) r)
one_more_full s h (Ok ss) k = (h, k)
one_more_full s h (Err f) k = tt

all_full : (rs : List (Result Settled FoldFault)) → Each IsFullAnswer rs → AreFull (all_answers rs)
all_full [] h = tt
all_full (Ok s ∷ rs) h = one_more_full s h.0 (all_answers rs) (all_full rs h.1)
all_full (Err f ∷ rs) h = tt

mapped_full : (make : List Settled → Settled) → ((ss : List Settled) → Each IsFull ss → IsFull (make ss)) → (r : Result (List Settled) FoldFault) → AreFull r → IsFullAnswer (mapped make r)
mapped_full make more (Ok ss) h = more ss h
mapped_full make more (Err f) h = tt

comparison_answer : (polarity : Bool) (r : Rel) (x y : Result Operand FoldFault) → IsFullAnswer (after (λ a. mapped (λ b. compared polarity r a b) y) x)
comparison_answer polarity r (Ok a) (Ok b) = compared_full polarity r a b
comparison_answer polarity r (Ok a) (Err f) = tt
comparison_answer polarity r (Err f) y = tt

fact_full : (fixed truth : Bool) (n : ℕ) (polarity : Bool) → IsFull (if fixed then decided truth else remaining (c.Fact n polarity))
fact_full true truth n polarity = tt
fact_full false truth n polarity = fold-Fact filled_layer n polarity

-- ---- conditions whose names are looked up

All-beside : {X : Type 0} (P : X → Type 0) → (es : List ((x : X) × P x)) → All P (map (λ e. e.0) es)
All-beside P [] = All-nil P
All-beside P (e ∷ es) = All-cons P e.0 (map (λ e. e.0) es) e.1 (All-beside P es)

module _ (p : Pair) (os : List ℕ) where
  abbrev Full : CondSlots → Type 0
  Full q = IsFullAnswer (bound_condition p os q)

  each_full : (qs : List CondSlots) → All Full qs → Each IsFullAnswer (map (bound_condition p os) qs)
  each_full [] h = tt
  each_full (q ∷ qs) h = (All-head Full q qs h, each_full qs (All-tail Full q qs h))

  all_full_of : (qs : List CondSlots) → All Full qs → AreFull (all_answers (map (bound_condition p os) qs))
  all_full_of qs h = all_full (map (bound_condition p os) qs) (each_full qs h)

  full_layer : (z : CondSlots-F ((q : CondSlots) × Full q)) → Full (roll-CondSlots (map-CondSlots _ _ (λ e. e.0) z))
  full_layer (CondSlots-F.All es) =
      subst Full (sym (slots.rolls-All (map (λ e. e.0) es))) (subst IsFullAnswer (sym (bound_All p os (map (λ e. e.0) es)))
      (mapped_full all_of all_of_full (all_answers (map (bound_condition p os) (map (λ e. e.0) es))) (all_full_of (map (λ e. e.0) es) (All-beside Full es))))
  full_layer (CondSlots-F.Any es) =
      subst Full (sym (slots.rolls-Any (map (λ e. e.0) es))) (subst IsFullAnswer (sym (bound_Any p os (map (λ e. e.0) es)))
      (mapped_full any_of any_of_full (all_answers (map (bound_condition p os) (map (λ e. e.0) es))) (all_full_of (map (λ e. e.0) es) (All-beside Full es))))
  full_layer (CondSlots-F.Fact polarity q) =
      subst Full (sym (slots.rolls-Fact polarity q)) (subst IsFullAnswer (sym (bound_Fact p os polarity q)) (fact_full q.symbol.fixed _ _ polarity))
  full_layer (CondSlots-F.Same polarity s) = subst Full (sym (slots.rolls-Same polarity s)) (subst IsFullAnswer (sym (bound_Same p os polarity s)) tt)
  full_layer (CondSlots-F.Compared polarity r x y) =
      subst Full (sym (slots.rolls-Compared polarity r x y)) (subst IsFullAnswer (sym (bound_Compared p os polarity r x y))
      (comparison_answer polarity r (bound_expression p os x) (bound_expression p os y)))

  pub condition_full : (q : CondSlots) → IsFullAnswer (bound_condition p os q)
  condition_full = ind-CondSlots Full (λ q y is. subst (λ (z : CondSlots-F CondSlots). Full (roll-CondSlots z)) is (full_layer y))

  each_condition_full : (qs : List CondSlots) → Each IsFullAnswer (map (bound_condition p os) qs)
  each_condition_full [] = tt
  each_condition_full (q ∷ qs) = (condition_full q, each_condition_full qs)

  pub conditions_full : (qs : List CondSlots) → AreFull (all_answers (map (bound_condition p os) qs))
  conditions_full qs = all_full (map (bound_condition p os) qs) (each_condition_full qs)
