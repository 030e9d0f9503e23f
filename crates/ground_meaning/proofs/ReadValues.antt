-- All that a defined condition reads has a value.
use Rattle.std.proofs.Common.{◌≡◌, ℕ, true, List, [], ◌∷◌, map, All, sym, ap, subst, ◌∙◌}
use Rattle.std.specs.Prelude.{flat_map}
use Rattle.std.specs.List.{list_all}
use Rattle.std.proofs.lemmas.List.Elements.{All-head, All-tail}
use Rattle.num_ends.specs.Decimal.{Decimal}
use Rattle.pddl_terms.specs.declared.names.Typed.{Typed}
use Rattle.pddl_terms.specs.declared.expressions.Expr.{Expr}
use Rattle.pddl_terms.specs.declared.expressions.Expr.TheVariants as expression
use Rattle.pddl_terms.specs.declared.conditions.Cond.{Cond}
use Rattle.pddl_terms.proofs.Induction.{induct_condition, induct_expression}
use Rattle.pddl_types.specs.Contents.{Parts, condition_parts, condition_parts_layer, expression_reads, expression_reads_layer}
use Rattle.pddl_types.specs.WellFormed.{Each}
use Rattle.pddl_meaning.specs.Worlds.{WorldValue}
use Rattle.pddl_meaning.specs.Values.{reads_defined}
use Rattle.pddl_meaning.specs.Truth.{is_defined}
use Rattle.pddl_meaning.proofs.Bounds.{both_true}
use Rattle.pddl_meaning.proofs.Folds.{fold-Lit, fold-And, fold-Or, fold-Not, fold-Imply, fold-Fact, fold-Same, fold-Cmp}
use Rattle.pddl_meaning.proofs.Layers.{each_And, each_Cmp, each_Imply, each_Not, each_Or, reads_of_Op, reads_of_Read}
use Rattle.ground_meaning.proofs.DefinedReads.{HasValue}
use Rattle.ground_meaning.proofs.ExpressionFolds.{reads_of_operation, reads_of_read}
use Rattle.ground_meaning.proofs.Lists.{each_joined}

module _ (params : List Typed) (args : List (List ℕ)) (w : WorldValue) where
  abbrev pub HaveValues : Expr → Type 0
  HaveValues x = Each (HasValue params args w) (expression_reads x).all

  literal_values : (d : Decimal) (at : ℕ) → HaveValues (expression.Lit d at)
  literal_values d at = subst (Each (HasValue params args w)) (sym (ap (λ r. r.all) (fold-Lit expression_reads_layer d at))) tt

  pub expression_values : (x : Expr) → reads_defined params args w x ≡ true → HaveValues x
  expression_values =
      induct_expression (λ x. reads_defined params args w x ≡ true → HaveValues x)
      (λ d at h. literal_values d at)
      (λ a h. subst (Each (HasValue params args w)) (sym (reads_of_read a)) (sym (reads_of_Read params args w a) ∙ h, tt))
      (λ at o x y f g h.
      let parts = both_true (reads_defined params args w x) (reads_defined params args w y) (sym (reads_of_Op params args w at o x y) ∙ h) in
      subst (Each (HasValue params args w)) (sym (reads_of_operation at o x y))
      (each_joined (HasValue params args w) (expression_reads x).all (expression_reads y).all (f parts.0) (g parts.1)))

  abbrev AreRead : Cond → Type 0
  AreRead c = is_defined params args w c ≡ true → Each HaveValues (condition_parts c).numbers

  members : (cs : List Cond) → All AreRead cs → list_all (is_defined params args w) cs ≡ true → Each HaveValues (flat_map (λ q. q.numbers) (map condition_parts cs))
  members [] all h = tt
  members (c ∷ cs) all h =
      let parts = both_true (is_defined params args w c) (list_all (is_defined params args w) cs) h in
      each_joined HaveValues (condition_parts c).numbers _ (All-head AreRead c cs all parts.0) (members cs (All-tail AreRead c cs all) parts.1)

  pub condition_values : (c : Cond) → AreRead c
  condition_values = induct_condition AreRead (record {
    conjunction = λ cs all h. subst (λ (q : Parts). Each HaveValues q.numbers) (sym (fold-And condition_parts_layer cs)) (members cs all (sym (each_And _ cs) ∙ h));
    disjunction = λ cs all h. subst (λ (q : Parts). Each HaveValues q.numbers) (sym (fold-Or condition_parts_layer cs)) (members cs all (sym (each_Or _ cs) ∙ h));
    negation = λ c f h. subst (λ (q : Parts). Each HaveValues q.numbers) (sym (fold-Not condition_parts_layer c)) (f (sym (each_Not _ c) ∙ h));
    implication = λ b c f g h.
        let parts = both_true (is_defined params args w b) (is_defined params args w c) (sym (each_Imply _ b c) ∙ h) in
        subst (λ (q : Parts). Each HaveValues q.numbers) (sym (fold-Imply condition_parts_layer b c))
        (each_joined HaveValues (condition_parts b).numbers _ (f parts.0) (each_joined HaveValues (condition_parts c).numbers [] (g parts.1) tt));
    fact = λ a h. subst (λ (q : Parts). Each HaveValues q.numbers) (sym (fold-Fact condition_parts_layer a)) tt;
    equal = λ a b h. subst (λ (q : Parts). Each HaveValues q.numbers) (sym (fold-Same condition_parts_layer a b)) tt;
    compare = λ r x y h.
        let parts = both_true (reads_defined params args w x) (reads_defined params args w y) (sym (each_Cmp _ r x y) ∙ h) in
        subst (λ (q : Parts). Each HaveValues q.numbers) (sym (fold-Cmp condition_parts_layer r x y)) (expression_values x parts.0, (expression_values y parts.1, tt));
  })
