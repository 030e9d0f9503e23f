-- What names that are looked up fold to under a binding is what the terms fold to.
use Rattle.std.proofs.Common.{◌≡◌, ◌<◌, ℕ, Bool, true, false, not, List, [], ◌∷◌, length, All, Option, Result, Ok, map, refl, sym, ap, ap₂, ◌∙◌}
use Rattle.std.specs.Prelude.{unwrap_or, if◌then◌else◌}
use Rattle.std.proofs.lemmas.List.Elements.{All-head, All-tail}
use Rattle.num_ends.specs.Decimal.{Decimal, origin, trimmed}
use Rattle.pddl_terms.specs.declared.names.Atom.{Atom}
use Rattle.pddl_terms.specs.declared.names.Typed.{Typed}
use Rattle.pddl_terms.specs.declared.expressions.Op.{Op}
use Rattle.pddl_terms.specs.declared.expressions.Expr.{Expr}
use Rattle.pddl_terms.specs.declared.expressions.Expr.TheVariants as expression
use Rattle.pddl_terms.specs.declared.conditions.Rel.{Rel}
use Rattle.pddl_terms.specs.declared.conditions.Cond.{Cond}
use Rattle.pddl_terms.specs.declared.conditions.Cond.TheVariants as condition
use Rattle.pddl_terms.specs.Readable.{IsReadable}
use Rattle.pddl_terms.proofs.Induction.{Inductive, induct_condition, induct_expression}
use Rattle.pddl_types.specs.declared.pairs.Pair.{Pair}
use Rattle.pddl_types.specs.Pairs.{objects_of}
use Rattle.pddl_types.specs.WellFormed.{Each, WellFormed}
use Rattle.static_facts.specs.Atoms.{names}
use Rattle.static_facts.specs.Fixed.{is_fixed_function, is_fixed_predicate}
use Rattle.pddl_meaning.specs.Truth.{at_polarity}
use Rattle.pddl_meaning.proofs.Folds.{fold-Lit, fold-Read, fold-Op, fold-And, fold-Or, fold-Not, fold-Imply, fold-Fact, fold-Same, fold-Cmp}
use Rattle.ground_task.specs.declared.raw.GExpr.TheVariants as e
use Rattle.ground_task.specs.declared.raw.GCond.TheVariants as c
use Rattle.bound_atoms.specs.Atoms.{fact_slots, fluent_slots}
use Rattle.bound_atoms.specs.Slots.{same_slots}
use Rattle.bound_atoms.proofs.Laws.{fact_code_of, fact_truth, fluent_code_of, fluent_value}
use Rattle.bound_atoms.proofs.Arguments.{same_for}
use Rattle.ground_meaning.specs.Results.{after, all_answers, mapped}
use Rattle.ground_meaning.specs.Expressions.{FoldFault, Folded, Operand, folded, folded_layer, folded_parts, folded_read, operated}
use Rattle.ground_meaning.specs.Expressions.Operand.{constant, computed}
use Rattle.ground_meaning.specs.Conditions.{Settled, compared, condition_layer, folded_comparison, folded_condition, folded_fact}
use Rattle.ground_meaning.specs.Conditions.Settled.{decided, remaining}
use Rattle.term_patterns.specs.declared.expressions.ExprSlots.{ExprSlots}
use Rattle.term_patterns.specs.Bound.{bound_comparison, bound_condition, bound_expression, bound_fact, bound_read, joins}
use Rattle.term_patterns.specs.Slots.{condition_slots, expression_slots, placed_slots}
use Rattle.term_patterns.proofs.Layers.{bound_Compared, bound_Fact, bound_Literal, bound_Op, bound_Read, bound_Same, bound_joined, placed_Lit, placed_Op, placed_Read, slots_And, slots_Cmp, slots_Fact, slots_Imply, slots_Not, slots_Or, slots_Same}

module _ (p : Pair) (readable : IsReadable p.domain p.problem) (formed : WellFormed p) (params : List Typed) (os : List ℕ) (same : length os ≡ length params)
    (known : Each (λ o. o < length (objects_of p)) os) where
  -- ---- expressions

  read_agrees : (a : Atom) → bound_read p os (fluent_slots p params a) ≡ folded_read p params (names p os) a
  read_agrees a =
      ap₂ (λ (v : Option Decimal) (n : ℕ). if is_fixed_function p a.head.text then constant (unwrap_or v origin) else computed (e.Read n))
      (fluent_value p readable formed params os same known a) (fluent_code_of p readable formed params os same known a)

  Agrees : Expr → Type 0
  Agrees x =
      ((placed_slots p params x).0 ≡ (folded_parts p params (names p os) x).place)
      × (bound_expression p os (placed_slots p params x).1 ≡ (folded_parts p params (names p os) x).value)

  expression_agrees : (x : Expr) → Agrees x
  unfolding Agrees folded_parts
  expression_agrees = induct_expression Agrees literal read operation
    where
      literal : (d : Decimal) (at : ℕ) → Agrees (expression.Lit d at)
      literal d at = (
        ap (λ (x : ℕ × ExprSlots). x.0) (placed_Lit p params d at) ∙ sym (ap (λ (f : Folded). f.place) (fold-Lit (folded_layer p params (names p os)) d at)),
        ap (λ (x : ℕ × ExprSlots). bound_expression p os x.1) (placed_Lit p params d at) ∙ bound_Literal p os (trimmed d)
            ∙ sym (ap (λ (f : Folded). f.value) (fold-Lit (folded_layer p params (names p os)) d at)),
      )

      read : (a : Atom) → Agrees (expression.Read a)
      read a = (
        ap (λ (x : ℕ × ExprSlots). x.0) (placed_Read p params a) ∙ sym (ap (λ (f : Folded). f.place) (fold-Read (folded_layer p params (names p os)) a)),
        ap (λ (x : ℕ × ExprSlots). bound_expression p os x.1) (placed_Read p params a) ∙ bound_Read p os (fluent_slots p params a)
            ∙ ap Ok (read_agrees a)
            ∙ sym (ap (λ (f : Folded). f.value) (fold-Read (folded_layer p params (names p os)) a)),
      )

      operation : (at : ℕ) (o : Op) (x y : Expr) → Agrees x → Agrees y → Agrees (expression.Op at o x y)
      operation at o x y h k = (
        ap (λ (z : ℕ × ExprSlots). z.0) (placed_Op p params at o x y) ∙ sym (ap (λ (f : Folded). f.place) (fold-Op (folded_layer p params (names p os)) at o x y)),
        ap (λ (z : ℕ × ExprSlots). bound_expression p os z.1) (placed_Op p params at o x y)
            ∙ bound_Op p os o (placed_slots p params y).0 (expression_slots p params x) (expression_slots p params y)
            ∙ ap (λ (place : ℕ). after (λ a. after (λ b. operated o place a b) (bound_expression p os (expression_slots p params y))) (bound_expression p os (expression_slots p params x))) k.0
            ∙ ap₂ (λ (u v : Result Operand FoldFault). after (λ a. after (λ b. operated o (folded_parts p params (names p os) y).place a b) v) u) h.1 k.1
            ∙ sym (ap (λ (f : Folded). f.value) (fold-Op (folded_layer p params (names p os)) at o x y)),
      )

  pub expression_folds : (x : Expr) → bound_expression p os (expression_slots p params x) ≡ folded p params (names p os) x
  unfolding Agrees
  expression_folds x = (expression_agrees x).1

  -- ---- conditions

  fact_agrees : (a : Atom) (polarity : Bool) → bound_fact p os polarity (fact_slots p params a) ≡ folded_fact p params (names p os) a polarity
  fact_agrees a polarity =
      ap₂ (λ (t : Bool) (n : ℕ). if is_fixed_predicate p a.head.text then decided (at_polarity polarity t) else remaining (c.Fact n polarity))
      (fact_truth p readable formed params os same known a) (fact_code_of p readable formed params os same known a)

  comparison_agrees : (r : Rel) (x y : Expr) (polarity : Bool)
      → bound_comparison p os polarity r (expression_slots p params x) (expression_slots p params y) ≡ folded_comparison p params (names p os) r x y polarity
  comparison_agrees r x y polarity =
      ap₂ (λ (u v : Result Operand FoldFault). after (λ a. mapped (λ b. compared polarity r a b) v) u) (expression_folds x) (expression_folds y)

  abbrev fold : Cond → Bool → Result Settled FoldFault
  fold = folded_condition p params (names p os)

  folded_And : (cs : List Cond) (polarity : Bool) → fold (condition.And cs) polarity ≡ mapped (joins polarity) (all_answers (map (λ f. f polarity) (map fold cs)))
  unfolding folded_condition
  folded_And cs true = ap (λ (f : Bool → Result Settled FoldFault). f true) (fold-And (condition_layer p params (names p os)) cs)
  folded_And cs false = ap (λ (f : Bool → Result Settled FoldFault). f false) (fold-And (condition_layer p params (names p os)) cs)

  folded_Or : (cs : List Cond) (polarity : Bool) → fold (condition.Or cs) polarity ≡ mapped (joins (not polarity)) (all_answers (map (λ f. f polarity) (map fold cs)))
  unfolding folded_condition
  folded_Or cs true = ap (λ (f : Bool → Result Settled FoldFault). f true) (fold-Or (condition_layer p params (names p os)) cs)
  folded_Or cs false = ap (λ (f : Bool → Result Settled FoldFault). f false) (fold-Or (condition_layer p params (names p os)) cs)

  folded_Imply : (a b : Cond) (polarity : Bool) → fold (condition.Imply a b) polarity ≡ mapped (joins (not polarity)) (all_answers (fold a (not polarity) ∷ fold b polarity ∷ []))
  unfolding folded_condition
  folded_Imply a b true = ap (λ (f : Bool → Result Settled FoldFault). f true) (fold-Imply (condition_layer p params (names p os)) a b)
  folded_Imply a b false = ap (λ (f : Bool → Result Settled FoldFault). f false) (fold-Imply (condition_layer p params (names p os)) a b)

  abbrev Folds : Cond → Type 0
  Folds d = (polarity : Bool) → bound_condition p os (condition_slots p params d polarity) ≡ folded_condition p params (names p os) d polarity

  each_folds : (cs : List Cond) → All Folds cs → (polarity : Bool)
      → map (bound_condition p os) (map (λ d. condition_slots p params d polarity) cs) ≡ map (λ f. f polarity) (map fold cs)
  each_folds [] h polarity = refl
  each_folds (d ∷ cs) h polarity =
      ap₂ (λ (r : Result Settled FoldFault) (rs : List (Result Settled FoldFault)). r ∷ rs) (All-head Folds d cs h polarity) (each_folds cs (All-tail Folds d cs h) polarity)

  step : Inductive Folds
  unfolding folded_condition
  step = record {
    conjunction = λ cs h polarity.
        ap (bound_condition p os) (slots_And p params cs polarity)
        ∙ bound_joined p os polarity (map (λ d. condition_slots p params d polarity) cs)
        ∙ ap (λ (rs : List (Result Settled FoldFault)). mapped (joins polarity) (all_answers rs)) (each_folds cs h polarity)
        ∙ sym (folded_And cs polarity);
    disjunction = λ cs h polarity.
        ap (bound_condition p os) (slots_Or p params cs polarity)
        ∙ bound_joined p os (not polarity) (map (λ d. condition_slots p params d polarity) cs)
        ∙ ap (λ (rs : List (Result Settled FoldFault)). mapped (joins (not polarity)) (all_answers rs)) (each_folds cs h polarity)
        ∙ sym (folded_Or cs polarity);
    negation = λ b h polarity.
        ap (bound_condition p os) (slots_Not p params b polarity)
        ∙ h (not polarity)
        ∙ sym (ap (λ (f : Bool → Result Settled FoldFault). f polarity) (fold-Not (condition_layer p params (names p os)) b));
    implication = λ a b h k polarity.
        ap (bound_condition p os) (slots_Imply p params a b polarity)
        ∙ bound_joined p os (not polarity) (condition_slots p params a (not polarity) ∷ condition_slots p params b polarity ∷ [])
        ∙ ap₂ (λ (u v : Result Settled FoldFault). mapped (joins (not polarity)) (all_answers (u ∷ v ∷ []))) (h (not polarity)) (k polarity)
        ∙ sym (folded_Imply a b polarity);
    fact = λ a polarity.
        ap (bound_condition p os) (slots_Fact p params a polarity)
        ∙ bound_Fact p os polarity (fact_slots p params a)
        ∙ ap Ok (fact_agrees a polarity)
        ∙ sym (ap (λ (f : Bool → Result Settled FoldFault). f polarity) (fold-Fact (condition_layer p params (names p os)) a));
    equal = λ a b polarity.
        ap (bound_condition p os) (slots_Same p params a b polarity)
        ∙ bound_Same p os polarity (same_slots p params a b)
        ∙ ap (λ (t : Bool). Ok (decided (at_polarity polarity t))) (same_for p readable formed params os same known a b)
        ∙ sym (ap (λ (f : Bool → Result Settled FoldFault). f polarity) (fold-Same (condition_layer p params (names p os)) a b));
    compare = λ r x y polarity.
        ap (bound_condition p os) (slots_Cmp p params r x y polarity)
        ∙ bound_Compared p os polarity r (expression_slots p params x) (expression_slots p params y)
        ∙ comparison_agrees r x y polarity
        ∙ sym (ap (λ (f : Bool → Result Settled FoldFault). f polarity) (fold-Cmp (condition_layer p params (names p os)) r x y));
  }

  pub condition_folds : (d : Cond) (polarity : Bool) → bound_condition p os (condition_slots p params d polarity) ≡ folded_condition p params (names p os) d polarity
  condition_folds = induct_condition Folds step
