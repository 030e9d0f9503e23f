-- What a folded condition gives: where each fluent that is read is defined, all its expressions have values, and it holds where the condition does.
use Rattle.std.proofs.Common.{◌≡◌, ◌&&◌, ◌||◌, ◌++◌, ℕ, Bool, true, false, not, List, [], ◌∷◌, map, All, Option, Result, Ok, Err, refl, sym, ap, ap₂, subst, ◌∙◌, is_some, inl, inr, IfOk, max, cond, arith}
use Rattle.std.specs.Prelude.{flat_map, int_lt, if◌then◌else◌}
use Rattle.std.specs.Ordering.{is_eq}
use Rattle.std.specs.declared.cmp.Ordering.TheVariants.{Less, Greater, Equal}
use Rattle.std.specs.FinSet as set
use Rattle.std.specs.List.{list_all, list_any}
use Rattle.std.proofs.lemmas.List.Elements.{All-head, All-tail}
use Rattle.num_ends.specs.Decimal.{Decimal, is_less, is_same_value, number_at, trimmed}
use Rattle.num_ends.proofs.DecimalOrder.{less_at, most_is_not_less}
use Rattle.num_ends.proofs.Trimmed.{less_of_trimmed, most_of_trimmed, same_of_trimmed}
use Rattle.pddl_terms.specs.declared.names.Arg.{Arg}
use Rattle.pddl_terms.specs.declared.names.Atom.{Atom}
use Rattle.pddl_terms.specs.declared.names.Typed.{Typed}
use Rattle.pddl_terms.specs.declared.expressions.Expr.{Expr}
use Rattle.pddl_terms.specs.declared.conditions.Rel.{Rel}
use Rattle.pddl_terms.specs.declared.conditions.Rel.TheVariants as rel
use Rattle.pddl_terms.specs.declared.conditions.Cond.{Cond}
use Rattle.pddl_terms.specs.declared.conditions.Cond.TheVariants as condition
use Rattle.pddl_terms.specs.Texts.{ground_text}
use Rattle.pddl_terms.proofs.Induction.{induct_condition}
use Rattle.pddl_types.specs.declared.pairs.Pair.{Pair}
use Rattle.pddl_types.specs.Contents.{Parts, condition_parts, condition_parts_layer, expression_reads}
use Rattle.pddl_types.specs.WellFormed.{Each, Stands}
use Rattle.static_facts.specs.Atoms.{atom_of, is_true_at_first, value_at_first}
use Rattle.static_facts.specs.Fixed.{is_fixed_function, is_fixed_predicate}
use Rattle.static_facts.specs.Codes.{fact_code, fluent_code}
use Rattle.std.specs.FinMap as finite
use Rattle.pddl_meaning.specs.Worlds.{WorldValue}
use Rattle.pddl_meaning.specs.Values.{reads_defined, value_of}
use Rattle.pddl_meaning.specs.Truth.{at_polarity, both, is_defined, is_true, is_valued, stands}
use Rattle.pddl_meaning.proofs.Bounds.{both_true, true_both}
use Rattle.pddl_meaning.proofs.Folds.{fold-And, fold-Or, fold-Not, fold-Imply, fold-Fact, fold-Same, fold-Cmp}
use Rattle.pddl_meaning.proofs.Layers.{each_And, each_Cmp, each_Fact, each_Imply, each_Not, each_Or, each_Same, true_And, true_Cmp, true_Fact, true_Imply, true_Not, true_Or, true_Same}
use Rattle.ground_task.specs.declared.raw.Rel.{Rel as Relation}
use Rattle.ground_task.specs.declared.raw.Rel.TheVariants as relation
use Rattle.ground_task.specs.declared.raw.GExpr.{GExpr}
use Rattle.ground_task.specs.declared.raw.GExpr.TheVariants as e
use Rattle.ground_task.specs.declared.raw.GCond.{GCond}
use Rattle.ground_task.specs.declared.raw.GCond.TheVariants as c
use Rattle.ground_task.specs.Meaning.{holds_in, holds_layer, value_in}
use Rattle.ground_task.specs.Meaning.{stands as holds_of}
use Rattle.ground_task.proofs.Trees.{fold-True, fold-False}
use Rattle.ground_task.proofs.Trees.{fold-And as fold-GAnd, fold-Cmp as fold-GCmp, fold-Fact as fold-GFact, fold-Or as fold-GOr}
use Rattle.ground_meaning.specs.Results.{after, all_answers, mapped}
use Rattle.ground_meaning.specs.Expressions.{FoldFault, Operand, as_expression, folded}
use Rattle.ground_meaning.specs.Expressions.Operand.{constant, computed}
use Rattle.ground_meaning.specs.Conditions.{Settled, all_of, any_of, as_condition, compared, comparison, condition_layer, folded_condition, folded_fact}
use Rattle.ground_meaning.specs.Conditions.Settled.{decided, remaining}
use Rattle.ground_meaning.specs.Tasks.{condition_facts, condition_facts_layer, condition_fluents, condition_fluents_layer, fluents_in}
use Rattle.ground_meaning.proofs.Lists.{each_left, each_right, stands_left, stands_right, stands_split}
use Rattle.ground_meaning.proofs.ExpressionFolds as expressions
use Rattle.ground_meaning.proofs.Simplified.{IsLocal, Say, all_of_says, any_of_says, holds_Or}

-- ---- truth values of lists

every_true : {A : Type 0} (test : A → Bool) (xs : List A) → list_all (λ t. t) (map test xs) ≡ list_all test xs
every_true test [] = refl
every_true test (x ∷ xs) = ap (λ (b : Bool). test x && b) (every_true test xs)

some_true : {A : Type 0} (test : A → Bool) (xs : List A) → list_any (λ t. t) (map test xs) ≡ list_any test xs
some_true test [] = refl
some_true test (x ∷ xs) = ap (λ (b : Bool). test x || b) (some_true test xs)

not_and : (a b : Bool) → (not a || not b) ≡ not (a && b)
not_and true b = refl
not_and false b = refl

not_or : (a b : Bool) → (not a && not b) ≡ not (a || b)
not_or true b = refl
not_or false b = refl

some_false : {A : Type 0} (test : A → Bool) (xs : List A) → list_any (λ t. t) (map (λ x. not (test x)) xs) ≡ not (list_all test xs)
some_false test [] = refl
some_false test (x ∷ xs) = ap (λ (b : Bool). not (test x) || b) (some_false test xs) ∙ not_and (test x) (list_all test xs)

every_false : {A : Type 0} (test : A → Bool) (xs : List A) → list_all (λ t. t) (map (λ x. not (test x)) xs) ≡ not (list_any test xs)
every_false test [] = refl
every_false test (x ∷ xs) = ap (λ (b : Bool). not (test x) && b) (every_false test xs) ∙ not_or (test x) (list_any test xs)

not_twice : (b : Bool) → not (not b) ≡ b
not_twice true = refl
not_twice false = refl

or_false : (b : Bool) → (b || false) ≡ b
or_false true = refl
or_false false = refl

and_true : (b : Bool) → (b && true) ≡ b
and_true true = refl
and_true false = refl

implied : (a b : Bool) → (a && not b) ≡ not (not a || b)
implied true b = refl
implied false b = refl

-- ---- answers

pub if_mapped : {A B E : Type 0} (P : A → Type 0) (Q : B → Type 0) (make : A → B) (r : Result A E) → IfOk r P → ((a : A) → P a → Q (make a)) → IfOk (mapped make r) Q
if_mapped P Q make (Ok a) h next = next a h
if_mapped P Q make (Err f) h next = tt

pub if_after : {A B E : Type 0} (P : A → Type 0) (Q : B → Type 0) (next : A → Result B E) (r : Result A E) → IfOk r P → ((a : A) → P a → IfOk (next a) Q) → IfOk (after next r) Q
if_after P Q next (Ok a) h more = more a h
if_after P Q next (Err f) h more = tt

-- ---- comparisons

stands_trimmed : (r : Rel) (a b : Decimal) → stands r (trimmed a) (trimmed b) ≡ stands r a b
stands_trimmed rel.Less a b = less_of_trimmed a b
stands_trimmed rel.LessEqual a b = most_of_trimmed a b
stands_trimmed rel.Equal a b = same_of_trimmed a b
stands_trimmed rel.GreaterEqual a b = most_of_trimmed b a
stands_trimmed rel.Greater a b = less_of_trimmed b a

not_same : (less more : Bool) → not (is_eq (cond less Less (cond more Greater Equal))) ≡ (less || (more || false))
not_same true more = refl
not_same false true = refl
not_same false false = refl

differs : (a b : Decimal) → not (is_same_value a b) ≡ (is_less a b || (is_less b a || false))
differs a b =
    not_same (is_less a b) (int_lt (number_at (max a.p b.p) b) (number_at (max a.p b.p) a))
    ∙ ap (λ (more : Bool). is_less a b || (more || false)) (sym (less_at (max a.p b.p) b a (omega arith) (omega arith)))

module _ (facts : ℕ → Bool) (v : ℕ → Decimal) where
  abbrev holds_Cmp : (r : Relation) (g h : GExpr) → holds_in facts v (c.Cmp r g h) ≡ holds_of r (value_in v g) (value_in v h)
  holds_Cmp r g h = fold-GCmp (holds_layer facts v) r g h

  comparison_holds : (polarity : Bool) (r : Rel) (g h : GExpr) → holds_in facts v (comparison polarity r g h) ≡ at_polarity polarity (stands r (value_in v g) (value_in v h))
  comparison_holds true rel.Less g h = holds_Cmp relation.Less g h
  comparison_holds true rel.LessEqual g h = holds_Cmp relation.LessEqual g h
  comparison_holds true rel.Equal g h = holds_Cmp relation.Equal g h
  comparison_holds true rel.GreaterEqual g h = holds_Cmp relation.GreaterEqual g h
  comparison_holds true rel.Greater g h = holds_Cmp relation.Greater g h
  comparison_holds false rel.Less g h = holds_Cmp relation.GreaterEqual g h ∙ most_is_not_less (value_in v h) (value_in v g)
  comparison_holds false rel.LessEqual g h =
      holds_Cmp relation.Greater g h ∙ sym (ap not (most_is_not_less (value_in v g) (value_in v h)) ∙ not_twice (is_less (value_in v h) (value_in v g)))
  comparison_holds false rel.Equal g h =
      holds_Or facts v (c.Cmp relation.Less g h ∷ c.Cmp relation.Greater g h ∷ [])
      ∙ ap₂ (λ (a b : Bool). a || (b || false)) (holds_Cmp relation.Less g h) (holds_Cmp relation.Greater g h)
      ∙ sym (differs (value_in v g) (value_in v h))
  comparison_holds false rel.GreaterEqual g h =
      holds_Cmp relation.Less g h ∙ sym (ap not (most_is_not_less (value_in v h) (value_in v g)) ∙ not_twice (is_less (value_in v g) (value_in v h)))
  comparison_holds false rel.Greater g h = holds_Cmp relation.LessEqual g h ∙ most_is_not_less (value_in v g) (value_in v h)

  pub decided_holds : (truth : Bool) → holds_in facts v (as_condition (decided truth)) ≡ truth
  decided_holds true = fold-True (holds_layer facts v)
  decided_holds false = fold-False (holds_layer facts v)

  fact_holds : (f : ℕ) (truth : Bool) → holds_in facts v (c.Fact f truth) ≡ at_polarity truth (facts f)
  fact_holds f true = fold-GFact (holds_layer facts v) f true
  fact_holds f false = fold-GFact (holds_layer facts v) f false

-- what a comparison reads
cmp_reads : (x : ℕ) (r : Relation) (g h : GExpr) → Stands x (fluents_in g ++ fluents_in h) → Stands x (condition_fluents (c.Cmp r g h))
cmp_reads x r g h s = subst (Stands x) (sym (fold-GCmp condition_fluents_layer r g h)) s

comparison_reads : (x : ℕ) (polarity : Bool) (r : Rel) (g h : GExpr) → Stands x (fluents_in g ++ fluents_in h) → Stands x (condition_fluents (comparison polarity r g h))
comparison_reads x true rel.Less g h s = cmp_reads x relation.Less g h s
comparison_reads x true rel.LessEqual g h s = cmp_reads x relation.LessEqual g h s
comparison_reads x true rel.Equal g h s = cmp_reads x relation.Equal g h s
comparison_reads x true rel.GreaterEqual g h s = cmp_reads x relation.GreaterEqual g h s
comparison_reads x true rel.Greater g h s = cmp_reads x relation.Greater g h s
comparison_reads x false rel.Less g h s = cmp_reads x relation.GreaterEqual g h s
comparison_reads x false rel.LessEqual g h s = cmp_reads x relation.Greater g h s
comparison_reads x false rel.Equal g h s =
    subst (Stands x) (sym (fold-GOr condition_fluents_layer (c.Cmp relation.Less g h ∷ c.Cmp relation.Greater g h ∷ [])))
    (stands_left x (condition_fluents (c.Cmp relation.Less g h)) (condition_fluents (c.Cmp relation.Greater g h) ++ []) (cmp_reads x relation.Less g h s))
comparison_reads x false rel.GreaterEqual g h s = cmp_reads x relation.Less g h s
comparison_reads x false rel.Greater g h s = cmp_reads x relation.LessEqual g h s

module _ (p : Pair) (params : List Typed) (args : List (List ℕ)) (w : WorldValue) (IsGood IsGoodFact : Atom → Type 0)
    (fixed_value : (a : Atom) → IsGood a → is_fixed_function p a.head.text ≡ true → finite.get w.values (ground_text params args a) ≡ value_at_first p (atom_of params args a))
    (fixed_fact : (a : Atom) → IsGoodFact a → is_fixed_predicate p a.head.text ≡ true → set.contains w.facts (ground_text params args a) ≡ is_true_at_first p (atom_of params args a)) where
  -- of these facts, those that good atoms name have these truth values
  abbrev pub HasTruths : (ℕ → Bool) → List ℕ → Type 0
  HasTruths facts fs =
      (a : Atom) → IsGoodFact a → is_fixed_predicate p a.head.text ≡ false → Stands (fact_code p (atom_of params args a)) fs
      → set.contains w.facts (ground_text params args a) ≡ facts (fact_code p (atom_of params args a))

  abbrev pub HasValues : (ℕ → Decimal) → List ℕ → Type 0
  HasValues = expressions.HasValues p params args w IsGood fixed_value

  -- the world agrees on all that a ground condition names
  abbrev pub Agrees : (ℕ → Bool) → (ℕ → Decimal) → GCond → Type 0
  Agrees facts v g = HasTruths facts (condition_facts g) × HasValues v (condition_fluents g)

  module _ (facts : ℕ → Bool) (v : ℕ → Decimal) where
    agree_on_each : (cs : List GCond) → HasTruths facts (flat_map (λ ns. ns) (map condition_facts cs)) → HasValues v (flat_map (λ ns. ns) (map condition_fluents cs)) → Each (Agrees facts v) cs
    agree_on_each [] f x = tt
    agree_on_each (g ∷ cs) f x = (
      (
        λ a good changed s. f a good changed (stands_left _ (condition_facts g) (flat_map (λ ns. ns) (map condition_facts cs)) s),
        λ a good changed s. x a good changed (stands_left _ (condition_fluents g) (flat_map (λ ns. ns) (map condition_fluents cs)) s),
      ),
      agree_on_each cs
          (λ a good changed s. f a good changed (stands_right _ (condition_facts g) (flat_map (λ ns. ns) (map condition_facts cs)) s))
          (λ a good changed s. x a good changed (stands_right _ (condition_fluents g) (flat_map (λ ns. ns) (map condition_fluents cs)) s)),
    )

    facts_of_each : (cs : List GCond) → Each (Agrees facts v) cs → HasTruths facts (flat_map (λ ns. ns) (map condition_facts cs))
    facts_of_each [] h a good changed s = elim s [ ]
    facts_of_each (g ∷ cs) h a good changed s =
        elim (stands_split _ (condition_facts g) (flat_map (λ ns. ns) (map condition_facts cs)) s) [
          | inl here ↦ h.0.0 a good changed here
          | inr there ↦ facts_of_each cs h.1 a good changed there
        ]

    fluents_of_each : (cs : List GCond) → Each (Agrees facts v) cs → HasValues v (flat_map (λ ns. ns) (map condition_fluents cs))
    fluents_of_each [] h a good changed s = elim s [ ]
    fluents_of_each (g ∷ cs) h a good changed s =
        elim (stands_split _ (condition_fluents g) (flat_map (λ ns. ns) (map condition_fluents cs)) s) [
          | inl here ↦ h.0.1 a good changed here
          | inr there ↦ fluents_of_each cs h.1 a good changed there
        ]

    pub local : IsLocal facts v (Agrees facts v)
    local = record {
      always = (
        λ a good changed s. elim (subst (Stands (fact_code p (atom_of params args a))) (fold-True condition_facts_layer) s) [ ],
        λ a good changed s. elim (subst (Stands (fluent_code p (atom_of params args a))) (fold-True condition_fluents_layer) s) [ ],
      );
      never = (
        λ a good changed s. elim (subst (Stands (fact_code p (atom_of params args a))) (fold-False condition_facts_layer) s) [ ],
        λ a good changed s. elim (subst (Stands (fluent_code p (atom_of params args a))) (fold-False condition_fluents_layer) s) [ ],
      );
      of_all = λ cs h. agree_on_each cs (subst (HasTruths facts) (fold-GAnd condition_facts_layer cs) h.0) (subst (HasValues v) (fold-GAnd condition_fluents_layer cs) h.1);
      for_all = λ cs h. (
        subst (HasTruths facts) (sym (fold-GAnd condition_facts_layer cs)) (facts_of_each cs h),
        subst (HasValues v) (sym (fold-GAnd condition_fluents_layer cs)) (fluents_of_each cs h),
      );
      of_any = λ cs h. agree_on_each cs (subst (HasTruths facts) (fold-GOr condition_facts_layer cs) h.0) (subst (HasValues v) (fold-GOr condition_fluents_layer cs) h.1);
      for_any = λ cs h. (
        subst (HasTruths facts) (sym (fold-GOr condition_facts_layer cs)) (facts_of_each cs h),
        subst (HasValues v) (sym (fold-GOr condition_fluents_layer cs)) (fluents_of_each cs h),
      );
    }

  -- ---- the law

  abbrev Matches : Operand → Option Decimal → Type 0
  Matches = expressions.Matches p params args w IsGood fixed_value

  abbrev Gives : GExpr → Option Decimal → Type 0
  Gives = expressions.Gives p params args w IsGood fixed_value

  abbrev GoodExpression : Expr → Type 0
  GoodExpression x = Each IsGood (expression_reads x).all

  -- all facts and reads of a condition are good
  abbrev pub AreGood : Cond → Type 0
  AreGood b = Each IsGoodFact (condition_parts b).facts × Each GoodExpression (condition_parts b).numbers

  -- a settled condition has this truth value wherever the world agrees on what is left in it
  abbrev pub GivesTruth : Settled → Bool → Type 0
  GivesTruth s truth = (facts : ℕ → Bool) (v : ℕ → Decimal) → Agrees facts v (as_condition s) → holds_in facts v (as_condition s) ≡ truth

  abbrev Sound : Bool → Cond → Settled → Type 0
  Sound polarity b s = (is_valued params args w b ≡ true) × GivesTruth s (at_polarity polarity (is_true params args w b))

  -- where each fluent that is read is defined, the expressions of a condition that folds have values, and what it folds to holds where it is true
  abbrev pub IsSound : Cond → Type 0
  IsSound b = (polarity : Bool) → AreGood b → is_defined params args w b ≡ true → IfOk (folded_condition p params args b polarity) (Sound polarity b)

  good_members : (cs : List Cond) → Each IsGoodFact (flat_map (λ q. q.facts) (map condition_parts cs)) → Each GoodExpression (flat_map (λ q. q.numbers) (map condition_parts cs)) → Each AreGood cs
  good_members [] f x = tt
  good_members (b ∷ cs) f x = (
    (each_left IsGoodFact (condition_parts b).facts _ f, each_left GoodExpression (condition_parts b).numbers _ x),
    good_members cs (each_right IsGoodFact (condition_parts b).facts _ f) (each_right GoodExpression (condition_parts b).numbers _ x),
  )

  Members : Bool → List Cond → List Settled → Type 0
  Members polarity cs ss =
      (list_all (is_valued params args w) cs ≡ true)
      × ((facts : ℕ → Bool) (v : ℕ → Decimal) → Say facts v (Agrees facts v) (local facts v) ss (map (λ b. at_polarity polarity (is_true params args w b)) cs))

  members : (polarity : Bool) (cs : List Cond) → All IsSound cs → Each AreGood cs → list_all (is_defined params args w) cs ≡ true
      → IfOk (all_answers (map (λ (f : Bool → Result Settled FoldFault). f polarity) (map (folded_condition p params args) cs))) (Members polarity cs)
  unfolding Members
  members polarity [] all good defined = (refl, λ facts v. tt)
  members polarity (b ∷ cs) all good defined =
      let parts = both_true (is_defined params args w b) (list_all (is_defined params args w) cs) defined in
      if_after (Sound polarity b) (Members polarity (b ∷ cs)) _ (folded_condition p params args b polarity)
      (All-head IsSound b cs all polarity good.0 parts.0)
      (λ s h. if_mapped (Members polarity cs) (Members polarity (b ∷ cs)) (λ found. s ∷ found) _ (members polarity cs (All-tail IsSound b cs all) good.1 parts.1)
      (λ ss k. (true_both _ _ h.0 k.0, λ facts v. (h.1 facts v, k.1 facts v))))

  pair : (P R : Settled → Type 0) (Q : List Settled → Type 0) (f g : Result Settled FoldFault) → IfOk f P → IfOk g R
      → ((s t : Settled) → P s → R t → Q (s ∷ t ∷ [])) → IfOk (all_answers (f ∷ g ∷ [])) Q
  pair P R Q (Err f) g h k both_say = tt
  pair P R Q (Ok s) (Err g) h k both_say = tt
  pair P R Q (Ok s) (Ok t) h k both_say = both_say s t h k

  turned : (polarity truth : Bool) → at_polarity (not polarity) truth ≡ at_polarity polarity (not truth)
  turned true truth = refl
  turned false truth = sym (not_twice truth)

  -- ---- comparisons

  gives_comparison : (polarity : Bool) (r : Rel) (g h : GExpr) (x y : Option Decimal) → Gives g x → Gives h y
      → GivesTruth (remaining (comparison polarity r g h)) (at_polarity polarity (both (stands r) x y))
  gives_comparison polarity r g h x y first second facts v known =
      let left = first.1 v (λ a good changed s. known.1 a good changed (comparison_reads _ polarity r g h (stands_left _ (fluents_in g) (fluents_in h) s))) in
      let right = second.1 v (λ a good changed s. known.1 a good changed (comparison_reads _ polarity r g h (stands_right _ (fluents_in g) (fluents_in h) s))) in
      comparison_holds facts v polarity r g h
      ∙ ap (at_polarity polarity) (sym (ap₂ (both (stands r)) left right ∙ stands_trimmed r (value_in v g) (value_in v h)))

  compared_gives : (polarity : Bool) (r : Rel) (a b : Operand) (x y : Option Decimal) → Matches a x → Matches b y
      → GivesTruth (compared polarity r a b) (at_polarity polarity (both (stands r) x y))
  compared_gives polarity r (constant k) (constant d) x y first second =
      λ facts v known. decided_holds facts v (at_polarity polarity (stands r k d)) ∙ ap (at_polarity polarity) (sym (ap₂ (both (stands r)) first.0 second.0))
  compared_gives polarity r (constant k) (computed h) x y first second =
      gives_comparison polarity r (e.Const k) h x y (expressions.matches_gives p params args w IsGood fixed_value (constant k) x first) second
  compared_gives polarity r (computed g) b x y first second =
      gives_comparison polarity r g (as_expression b) x y first (expressions.matches_gives p params args w IsGood fixed_value b y second)

  valued : (a : Operand) (x : Option Decimal) → Matches a x → is_some x ≡ true
  valued a x h = (expressions.matches_gives p params args w IsGood fixed_value a x h).0

  -- ---- facts

  fact_gives : (a : Atom) (polarity : Bool) → IsGoodFact a → GivesTruth (folded_fact p params args a polarity) (at_polarity polarity (set.contains w.facts (ground_text params args a)))
  fact_gives a polarity good = by_test (is_fixed_predicate p a.head.text) refl
    where
      by_test : (test : Bool) → is_fixed_predicate p a.head.text ≡ test
          → GivesTruth (if test then decided (at_polarity polarity (is_true_at_first p (atom_of params args a))) else remaining (c.Fact (fact_code p (atom_of params args a)) polarity))
          (at_polarity polarity (set.contains w.facts (ground_text params args a)))
      by_test true is facts v known = decided_holds facts v _ ∙ ap (at_polarity polarity) (sym (fixed_fact a good is))
      by_test false is facts v known =
          fact_holds facts v (fact_code p (atom_of params args a)) polarity
          ∙ ap (at_polarity polarity) (sym (known.0 a good is
          (subst (Stands (fact_code p (atom_of params args a))) (sym (fold-GFact condition_facts_layer (fact_code p (atom_of params args a)) polarity)) (inl refl))))

  -- ---- all conditions

  sound_all : (cs : List Cond) → All IsSound cs → IsSound (condition.And cs)
  unfolding folded_condition Members
  sound_all cs all true good defined =
      let is = fold-And condition_parts_layer cs in
      let inside = good_members cs (subst (λ (q : Parts). Each IsGoodFact q.facts) is good.0) (subst (λ (q : Parts). Each GoodExpression q.numbers) is good.1) in
      subst (λ (f : Bool → Result Settled FoldFault). IfOk (f true) (Sound true (condition.And cs))) (sym (fold-And (condition_layer p params args) cs))
      (if_mapped (Members true cs) (Sound true (condition.And cs)) all_of _ (members true cs all inside (sym (each_And _ cs) ∙ defined))
      (λ ss h. (
        each_And _ cs ∙ h.0,
        λ facts v known. all_of_says facts v (Agrees facts v) (local facts v) ss _ (h.1 facts v) known ∙ every_true (is_true params args w) cs ∙ sym (true_And params args w cs),
      )))
  sound_all cs all false good defined =
      let is = fold-And condition_parts_layer cs in
      let inside = good_members cs (subst (λ (q : Parts). Each IsGoodFact q.facts) is good.0) (subst (λ (q : Parts). Each GoodExpression q.numbers) is good.1) in
      subst (λ (f : Bool → Result Settled FoldFault). IfOk (f false) (Sound false (condition.And cs))) (sym (fold-And (condition_layer p params args) cs))
      (if_mapped (Members false cs) (Sound false (condition.And cs)) any_of _ (members false cs all inside (sym (each_And _ cs) ∙ defined))
      (λ ss h. (
        each_And _ cs ∙ h.0,
        λ facts v known. any_of_says facts v (Agrees facts v) (local facts v) ss _ (h.1 facts v) known ∙ some_false (is_true params args w) cs ∙ ap not (sym (true_And params args w cs)),
      )))

  sound_any : (cs : List Cond) → All IsSound cs → IsSound (condition.Or cs)
  unfolding folded_condition Members
  sound_any cs all true good defined =
      let is = fold-Or condition_parts_layer cs in
      let inside = good_members cs (subst (λ (q : Parts). Each IsGoodFact q.facts) is good.0) (subst (λ (q : Parts). Each GoodExpression q.numbers) is good.1) in
      subst (λ (f : Bool → Result Settled FoldFault). IfOk (f true) (Sound true (condition.Or cs))) (sym (fold-Or (condition_layer p params args) cs))
      (if_mapped (Members true cs) (Sound true (condition.Or cs)) any_of _ (members true cs all inside (sym (each_Or _ cs) ∙ defined))
      (λ ss h. (
        each_Or _ cs ∙ h.0,
        λ facts v known. any_of_says facts v (Agrees facts v) (local facts v) ss _ (h.1 facts v) known ∙ some_true (is_true params args w) cs ∙ sym (true_Or params args w cs),
      )))
  sound_any cs all false good defined =
      let is = fold-Or condition_parts_layer cs in
      let inside = good_members cs (subst (λ (q : Parts). Each IsGoodFact q.facts) is good.0) (subst (λ (q : Parts). Each GoodExpression q.numbers) is good.1) in
      subst (λ (f : Bool → Result Settled FoldFault). IfOk (f false) (Sound false (condition.Or cs))) (sym (fold-Or (condition_layer p params args) cs))
      (if_mapped (Members false cs) (Sound false (condition.Or cs)) all_of _ (members false cs all inside (sym (each_Or _ cs) ∙ defined))
      (λ ss h. (
        each_Or _ cs ∙ h.0,
        λ facts v known. all_of_says facts v (Agrees facts v) (local facts v) ss _ (h.1 facts v) known ∙ every_false (is_true params args w) cs ∙ ap not (sym (true_Or params args w cs)),
      )))

  sound_not : (b : Cond) → IsSound b → IsSound (condition.Not b)
  unfolding folded_condition
  sound_not b h polarity good defined =
      let is = fold-Not condition_parts_layer b in
      subst (λ (f : Bool → Result Settled FoldFault). IfOk (f polarity) (Sound polarity (condition.Not b))) (sym (fold-Not (condition_layer p params args) b))
      (weaker (folded_condition p params args b (not polarity))
      (h (not polarity) (subst (λ (q : Parts). Each IsGoodFact q.facts × Each GoodExpression q.numbers) is good) (sym (each_Not _ b) ∙ defined)))
    where
      weaker : (r : Result Settled FoldFault) → IfOk r (Sound (not polarity) b) → IfOk r (Sound polarity (condition.Not b))
      weaker (Err f) k = tt
      weaker (Ok s) k = (
        each_Not _ b ∙ k.0,
        λ facts v known. k.1 facts v known ∙ turned polarity (is_true params args w b) ∙ ap (at_polarity polarity) (sym (true_Not params args w b)),
      )

  sound_imply : (a b : Cond) → IsSound a → IsSound b → IsSound (condition.Imply a b)
  unfolding folded_condition
  sound_imply a b h k true good defined =
      let is = fold-Imply condition_parts_layer a b in
      let inside = good_members (a ∷ b ∷ []) (subst (λ (q : Parts). Each IsGoodFact q.facts) is good.0) (subst (λ (q : Parts). Each GoodExpression q.numbers) is good.1) in
      let parts = both_true (is_defined params args w a) (is_defined params args w b) (sym (each_Imply _ a b) ∙ defined) in
      subst (λ (f : Bool → Result Settled FoldFault). IfOk (f true) (Sound true (condition.Imply a b))) (sym (fold-Imply (condition_layer p params args) a b))
      (if_mapped _ (Sound true (condition.Imply a b)) any_of _
      (pair (Sound false a) (Sound true b) (λ ss. Sound true (condition.Imply a b) (any_of ss)) _ _ (h false inside.0 parts.0) (k true inside.1.0 parts.1)
      (λ s t m n. (
        each_Imply _ a b ∙ true_both _ _ m.0 n.0,
        λ facts v known.
            any_of_says facts v (Agrees facts v) (local facts v) (s ∷ t ∷ []) (not (is_true params args w a) ∷ is_true params args w b ∷ []) (m.1 facts v, (n.1 facts v, tt)) known
            ∙ ap (λ (z : Bool). not (is_true params args w a) || z) (or_false (is_true params args w b)) ∙ sym (true_Imply params args w a b),
      )))
      (λ ss m. m))
  sound_imply a b h k false good defined =
      let is = fold-Imply condition_parts_layer a b in
      let inside = good_members (a ∷ b ∷ []) (subst (λ (q : Parts). Each IsGoodFact q.facts) is good.0) (subst (λ (q : Parts). Each GoodExpression q.numbers) is good.1) in
      let parts = both_true (is_defined params args w a) (is_defined params args w b) (sym (each_Imply _ a b) ∙ defined) in
      subst (λ (f : Bool → Result Settled FoldFault). IfOk (f false) (Sound false (condition.Imply a b))) (sym (fold-Imply (condition_layer p params args) a b))
      (if_mapped _ (Sound false (condition.Imply a b)) all_of _
      (pair (Sound true a) (Sound false b) (λ ss. Sound false (condition.Imply a b) (all_of ss)) _ _ (h true inside.0 parts.0) (k false inside.1.0 parts.1)
      (λ s t m n. (
        each_Imply _ a b ∙ true_both _ _ m.0 n.0,
        λ facts v known.
            all_of_says facts v (Agrees facts v) (local facts v) (s ∷ t ∷ []) (is_true params args w a ∷ not (is_true params args w b) ∷ []) (m.1 facts v, (n.1 facts v, tt)) known
            ∙ ap (λ (z : Bool). is_true params args w a && z) (and_true (not (is_true params args w b)))
            ∙ implied (is_true params args w a) (is_true params args w b) ∙ ap not (sym (true_Imply params args w a b)),
      )))
      (λ ss m. m))

  sound_fact : (a : Atom) → IsSound (condition.Fact a)
  unfolding folded_condition
  sound_fact a polarity good defined =
      subst (λ (f : Bool → Result Settled FoldFault). IfOk (f polarity) (Sound polarity (condition.Fact a))) (sym (fold-Fact (condition_layer p params args) a)) (
        each_Fact _ a,
        λ facts v known.
            fact_gives a polarity (subst (λ (q : Parts). Each IsGoodFact q.facts) (fold-Fact condition_parts_layer a) good.0).0 facts v known
            ∙ ap (at_polarity polarity) (sym (true_Fact params args w a)),
      )

  sound_same : (a b : Arg) → IsSound (condition.Same a b)
  unfolding folded_condition
  sound_same a b polarity good defined =
      subst (λ (f : Bool → Result Settled FoldFault). IfOk (f polarity) (Sound polarity (condition.Same a b))) (sym (fold-Same (condition_layer p params args) a b)) (
        each_Same _ a b,
        λ facts v known. decided_holds facts v _ ∙ ap (at_polarity polarity) (sym (true_Same params args w a b)),
      )

  sound_compare : (r : Rel) (x y : Expr) → IsSound (condition.Cmp r x y)
  unfolding folded_condition
  sound_compare r x y polarity good defined =
      let inside = subst (λ (q : Parts). Each GoodExpression q.numbers) (fold-Cmp condition_parts_layer r x y) good.1 in
      let parts = both_true (reads_defined params args w x) (reads_defined params args w y) (sym (each_Cmp _ r x y) ∙ defined) in
      subst (λ (f : Bool → Result Settled FoldFault). IfOk (f polarity) (Sound polarity (condition.Cmp r x y))) (sym (fold-Cmp (condition_layer p params args) r x y))
      (if_after (λ a. Matches a (value_of params args w x)) (Sound polarity (condition.Cmp r x y)) _ (folded p params args x)
      (expressions.fold_is_sound p params args w IsGood fixed_value x inside.0 parts.0)
      (λ a first. if_mapped (λ b. Matches b (value_of params args w y)) (Sound polarity (condition.Cmp r x y)) (λ b. compared polarity r a b) (folded p params args y)
      (expressions.fold_is_sound p params args w IsGood fixed_value y inside.1.0 parts.1)
      (λ b second. (
        each_Cmp _ r x y ∙ true_both _ _ (valued a _ first) (valued b _ second),
        λ facts v known.
            compared_gives polarity r a b (value_of params args w x) (value_of params args w y) first second facts v known
            ∙ ap (at_polarity polarity) (sym (true_Cmp params args w r x y)),
      ))))

  pub condition_fold_is_sound : (b : Cond) → IsSound b
  condition_fold_is_sound = induct_condition IsSound (record {
    conjunction = sound_all;
    disjunction = sound_any;
    negation = sound_not;
    implication = sound_imply;
    fact = sound_fact;
    equal = sound_same;
    compare = sound_compare;
  })
