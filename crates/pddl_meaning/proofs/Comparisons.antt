-- What a test of all comparisons of a condition gives of another, and what truth gives of the literals.
use Rattle.std.proofs.Common.{◌≡◌, ◌&&◌, ◌||◌, ℕ, Bool, true, false, not, List, [], ◌∷◌, Option, Some, None, map, All, refl, sym, ap, subst, ◌∙◌, is_some}
use Rattle.std.specs.List.{list_all, list_any}
use Rattle.std.proofs.lemmas.List.Elements.{All-head, All-tail}
use Rattle.num_ends.specs.Decimal.{Decimal}
use Rattle.pddl_terms.specs.declared.names.Arg.{Arg}
use Rattle.pddl_terms.specs.declared.names.Atom.{Atom}
use Rattle.pddl_terms.specs.declared.names.Typed.{Typed}
use Rattle.pddl_terms.specs.declared.expressions.Op.{Op}
use Rattle.pddl_terms.specs.declared.expressions.Expr.{Expr}
use Rattle.pddl_terms.specs.declared.conditions.Rel.{Rel}
use Rattle.pddl_terms.specs.declared.conditions.Cond.{Cond}
use Rattle.pddl_terms.specs.declared.conditions.Cond.TheVariants as condition
use Rattle.pddl_meaning.specs.Worlds.{WorldValue}
use Rattle.num_ends.specs.Range.{operands_fit}
use Rattle.pddl_meaning.specs.Values.{combined, in_bounds, ranged_value, reads_defined, value_of}
use Rattle.pddl_meaning.specs.Truth.{both, comparisons_layer, each_comparison, is_defined, is_in_bounds, is_true, is_valued, literals_true}
use Rattle.pddl_terms.proofs.Induction.{Inductive, induct_condition, induct_expression}
use Rattle.pddl_meaning.proofs.Folds.{fold-And, fold-Or, fold-Not, fold-Imply, fold-Fact, fold-Same, fold-Cmp, list_all-map}
use Rattle.pddl_meaning.proofs.Layers.{reads_of_Lit, reads_of_Op, reads_of_Read, true_And, true_Fact, true_Imply, true_Not, true_Or, true_Same, value_of_Op, value_of_Read}
use Rattle.pddl_meaning.proofs.Conjuncts.{literals_And, literals_Cmp, literals_Fact, literals_Imply, literals_Not, literals_Or, literals_Same}
use Rattle.pddl_meaning.proofs.Bounds.{bounded_some, both_true, true_both, value_bounded}

-- ---- tests of comparisons

module _ (test other : Expr → Expr → Bool) (each : (e f : Expr) → test e f ≡ true → other e f ≡ true) where
  abbrev Passes : Cond → Type 0
  Passes c = each_comparison test c ≡ true → each_comparison other c ≡ true

  all_pass : (cs : List Cond) → All Passes cs → list_all (each_comparison test) cs ≡ true → list_all (each_comparison other) cs ≡ true
  all_pass [] h e = refl
  all_pass (c ∷ cs) h e =
      let parts = both_true (each_comparison test c) (list_all (each_comparison test) cs) e in
      true_both (each_comparison other c) (list_all (each_comparison other) cs) (All-head Passes c cs h parts.0) (all_pass cs (All-tail Passes c cs h) parts.1)

  -- where the comparisons of a condition pass a test, they pass each weaker one
  pub each_more : (c : Cond) → Passes c
  unfolding each_comparison
  each_more = induct_condition Passes (record {
    conjunction = λ cs h e.
        fold-And (comparisons_layer other) cs ∙ list_all-map (each_comparison other) cs
        ∙ all_pass cs h (sym (fold-And (comparisons_layer test) cs ∙ list_all-map (each_comparison test) cs) ∙ e);
    disjunction = λ cs h e.
        fold-Or (comparisons_layer other) cs ∙ list_all-map (each_comparison other) cs
        ∙ all_pass cs h (sym (fold-Or (comparisons_layer test) cs ∙ list_all-map (each_comparison test) cs) ∙ e);
    negation = λ c h e. fold-Not (comparisons_layer other) c ∙ h (sym (fold-Not (comparisons_layer test) c) ∙ e);
    implication = λ b c h k e.
        let parts = both_true (each_comparison test b) (each_comparison test c) (sym (fold-Imply (comparisons_layer test) b c) ∙ e) in
        fold-Imply (comparisons_layer other) b c ∙ true_both (each_comparison other b) (each_comparison other c) (h parts.0) (k parts.1);
    fact = λ a e. fold-Fact (comparisons_layer other) a;
    equal = λ a b e. fold-Same (comparisons_layer other) a b;
    compare = λ r x y e. fold-Cmp (comparisons_layer other) r x y ∙ each x y (sym (fold-Cmp (comparisons_layer test) r x y) ∙ e);
  })

both_some : (test : Decimal → Decimal → Bool) (x y : Option Decimal) → both test x y ≡ true → (is_some x && is_some y) ≡ true
both_some test None y e = cc
both_some test (Some a) None e = cc
both_some test (Some a) (Some b) e = refl

module _ (params : List Typed) (args : List (List ℕ)) (w : WorldValue) where
  sides_valued : (e f : Expr) → both operands_fit (ranged_value params args w e) (ranged_value params args w f) ≡ true → (is_some (value_of params args w e) && is_some (value_of params args w f)) ≡ true
  sides_valued e f h =
      let parts = both_true (is_some (ranged_value params args w e)) (is_some (ranged_value params args w f)) (both_some operands_fit (ranged_value params args w e) (ranged_value params args w f) h) in
      true_both (is_some (value_of params args w e)) (is_some (value_of params args w f))
      (bounded_some (ranged_value params args w e) (value_of params args w e) (value_bounded params args w e) parts.0)
      (bounded_some (ranged_value params args w f) (value_of params args w f) (value_bounded params args w f) parts.1)

  -- where no comparison leaves the range, each expression has a value
  pub bounds_valued : (c : Cond) → is_in_bounds params args w c ≡ true → is_valued params args w c ≡ true
  bounds_valued = each_more (λ e f. both operands_fit (ranged_value params args w e) (ranged_value params args w f)) (λ e f. is_some (value_of params args w e) && is_some (value_of params args w f)) sides_valued

  -- a value is there only where each fluent that is read is defined
  pub value_reads : (e : Expr) → is_some (ranged_value params args w e) ≡ true → reads_defined params args w e ≡ true
  value_reads = induct_expression (λ e. is_some (ranged_value params args w e) ≡ true → reads_defined params args w e ≡ true)
      (λ d at h. reads_of_Lit params args w d at)
      (λ a h. reads_of_Read params args w a ∙ (ap is_some (sym (value_of_Read in_bounds params args w a)) ∙ h))
      (λ at o x y f g h.
      let parts = operands_some o (ranged_value params args w x) (ranged_value params args w y) (ap is_some (sym (value_of_Op in_bounds params args w at o x y)) ∙ h) in
      reads_of_Op params args w at o x y ∙ true_both _ _ (f parts.0) (g parts.1))
    where
      operands_some : (o : Op) (x y : Option Decimal) → is_some (combined in_bounds o x y) ≡ true → (is_some x ≡ true) × (is_some y ≡ true)
      operands_some o None y h = cc
      operands_some o (Some a) None h = cc
      operands_some o (Some a) (Some b) h = (refl, refl)

  sides_defined : (e f : Expr) → both operands_fit (ranged_value params args w e) (ranged_value params args w f) ≡ true → (reads_defined params args w e && reads_defined params args w f) ≡ true
  sides_defined e f h =
      let parts = both_true (is_some (ranged_value params args w e)) (is_some (ranged_value params args w f)) (both_some operands_fit (ranged_value params args w e) (ranged_value params args w f) h) in
      true_both (reads_defined params args w e) (reads_defined params args w f) (value_reads e parts.0) (value_reads f parts.1)

  -- where no comparison leaves the range, each fluent that is read is defined
  pub bounds_defined : (c : Cond) → is_in_bounds params args w c ≡ true → is_defined params args w c ≡ true
  bounds_defined = each_more (λ e f. both operands_fit (ranged_value params args w e) (ranged_value params args w f)) (λ e f. reads_defined params args w e && reads_defined params args w f) sides_defined

  -- ---- literals

  negated : (b : Bool) → not b ≡ true → b ≡ false
  negated true h = cc
  negated false h = refl

  kept : (b : Bool) → not b ≡ false → b ≡ true
  kept true h = refl
  kept false h = cc

  -- a true condition has true literals, and a false one those of its negation
  abbrev HasLiterals : Cond → Type 0
  HasLiterals c = (is_true params args w c ≡ true → literals_true params args w c true ≡ true) × (is_true params args w c ≡ false → literals_true params args w c false ≡ true)

  each_literal : (cs : List Cond) → All HasLiterals cs → list_all (is_true params args w) cs ≡ true → list_all (λ c. literals_true params args w c true) cs ≡ true
  each_literal [] h e = refl
  each_literal (c ∷ cs) h e =
      let parts = both_true (is_true params args w c) (list_all (is_true params args w) cs) e in
      true_both (literals_true params args w c true) (list_all (λ c. literals_true params args w c true) cs) ((All-head HasLiterals c cs h).0 parts.0) (each_literal cs (All-tail HasLiterals c cs h) parts.1)

  both_false : (a b : Bool) → (a || b) ≡ false → (a ≡ false) × (b ≡ false)
  both_false true b h = cc
  both_false false b h = (refl, h)

  no_literal : (cs : List Cond) → All HasLiterals cs → list_any (is_true params args w) cs ≡ false → list_all (λ c. literals_true params args w c false) cs ≡ true
  no_literal [] h e = refl
  no_literal (c ∷ cs) h e =
      let parts = both_false (is_true params args w c) (list_any (is_true params args w) cs) e in
      true_both (literals_true params args w c false) (list_all (λ c. literals_true params args w c false) cs) ((All-head HasLiterals c cs h).1 parts.0) (no_literal cs (All-tail HasLiterals c cs h) parts.1)

  implied : (b c : Bool) → (not b || c) ≡ false → (b ≡ true) × (c ≡ false)
  implied true c h = (refl, h)
  implied false c h = cc

  pub literals_of_truth : (c : Cond) → HasLiterals c
  literals_of_truth = induct_condition HasLiterals (record {
    conjunction = λ cs h. (
      λ e. literals_And params args w cs true ∙ each_literal cs h (sym (true_And params args w cs) ∙ e),
      λ e. literals_And params args w cs false,
    );
    disjunction = λ cs h. (
      λ e. literals_Or params args w cs true,
      λ e. literals_Or params args w cs false ∙ no_literal cs h (sym (true_Or params args w cs) ∙ e),
    );
    negation = λ c h. (
      λ e. literals_Not params args w c true ∙ h.1 (negated _ (sym (true_Not params args w c) ∙ e)),
      λ e. literals_Not params args w c false ∙ h.0 (kept _ (sym (true_Not params args w c) ∙ e)),
    );
    implication = λ b c h k. (
      λ e. literals_Imply params args w b c true,
      λ e.
          let parts = implied (is_true params args w b) (is_true params args w c) (sym (true_Imply params args w b c) ∙ e) in
          literals_Imply params args w b c false ∙ true_both _ _ (h.0 parts.0) (k.1 parts.1),
    );
    fact = λ a. (
      λ e. literals_Fact params args w a true ∙ (sym (true_Fact params args w a) ∙ e),
      λ e. literals_Fact params args w a false ∙ ap not (sym (true_Fact params args w a) ∙ e),
    );
    equal = λ a b. (
      λ e. literals_Same params args w a b true ∙ (sym (true_Same params args w a b) ∙ e),
      λ e. literals_Same params args w a b false ∙ ap not (sym (true_Same params args w a b) ∙ e),
    );
    compare = λ r x y. (λ e. literals_Cmp params args w r x y true, λ e. literals_Cmp params args w r x y false);
  })
