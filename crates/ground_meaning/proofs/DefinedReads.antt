-- A condition all of whose reads have values is defined.
use Rattle.std.proofs.Common.{◌≡◌, ℕ, Bool, true, false, not, List, [], ◌∷◌, map, All, Option, Some, None, refl, subst, ◌∙◌, cond}
use Rattle.std.specs.Prelude.{find, flat_map, option_map}
use Rattle.std.specs.List.{list_all}
use Rattle.std.specs.FinMap as finite
use Rattle.std.proofs.lemmas.List.Elements.{All-head, All-tail}
use Rattle.pddl_terms.specs.declared.names.Atom.{Atom}
use Rattle.pddl_terms.specs.declared.names.Typed.{Typed}
use Rattle.pddl_terms.specs.declared.expressions.Expr.{Expr}
use Rattle.pddl_terms.specs.declared.conditions.Cond.{Cond}
use Rattle.pddl_terms.specs.Texts.{ground_text}
use Rattle.pddl_terms.proofs.Induction.{induct_condition, induct_expression}
use Rattle.pddl_types.specs.Contents.{Parts, condition_parts, condition_parts_layer, expression_reads}
use Rattle.pddl_types.specs.WellFormed.{Each}
use Rattle.pddl_meaning.specs.Worlds.{WorldValue}
use Rattle.pddl_meaning.specs.Values.{reads_defined}
use Rattle.pddl_meaning.specs.Truth.{is_defined}
use Rattle.pddl_meaning.proofs.Bounds.{true_both}
use Rattle.pddl_meaning.proofs.Folds.{fold-And, fold-Or, fold-Not, fold-Imply, fold-Cmp}
use Rattle.pddl_meaning.proofs.Layers.{each_And, each_Cmp, each_Fact, each_Imply, each_Not, each_Or, each_Same, reads_of_Lit, reads_of_Op, reads_of_Read}
use Rattle.ground_meaning.proofs.ExpressionFolds.{reads_of_operation, reads_of_read}
use Rattle.ground_meaning.proofs.Lists.{each_left, each_right}

module _ (params : List Typed) (args : List (List ℕ)) (w : WorldValue) where
  abbrev pub HasValue : Atom → Type 0
  HasValue a = finite.contains_key w.values (ground_text params args a) ≡ true

  pub expression_defined : (x : Expr) → Each HasValue (expression_reads x).all → reads_defined params args w x ≡ true
  expression_defined =
      induct_expression (λ x. Each HasValue (expression_reads x).all → reads_defined params args w x ≡ true)
      (λ d at h. reads_of_Lit params args w d at)
      (λ a h. reads_of_Read params args w a ∙ (subst (Each HasValue) (reads_of_read a) h).0)
      (λ at o x y f g h.
      let all = subst (Each HasValue) (reads_of_operation at o x y) h in
      reads_of_Op params args w at o x y
      ∙ true_both _ _ (f (each_left HasValue (expression_reads x).all (expression_reads y).all all)) (g (each_right HasValue (expression_reads x).all (expression_reads y).all all)))

  abbrev Defined : Expr → Type 0
  Defined x = Each HasValue (expression_reads x).all

  abbrev IsRead : Cond → Type 0
  IsRead c = Each Defined (condition_parts c).numbers → is_defined params args w c ≡ true

  members : (cs : List Cond) → All IsRead cs → Each Defined (flat_map (λ q. q.numbers) (map condition_parts cs)) → list_all (is_defined params args w) cs ≡ true
  members [] all h = refl
  members (c ∷ cs) all h =
      true_both _ _ (All-head IsRead c cs all (each_left Defined (condition_parts c).numbers _ h)) (members cs (All-tail IsRead c cs all) (each_right Defined (condition_parts c).numbers _ h))

  pub condition_defined : (c : Cond) → IsRead c
  condition_defined = induct_condition IsRead (record {
    conjunction = λ cs all h. each_And _ cs ∙ members cs all (subst (λ (q : Parts). Each Defined q.numbers) (fold-And condition_parts_layer cs) h);
    disjunction = λ cs all h. each_Or _ cs ∙ members cs all (subst (λ (q : Parts). Each Defined q.numbers) (fold-Or condition_parts_layer cs) h);
    negation = λ c f h. each_Not _ c ∙ f (subst (λ (q : Parts). Each Defined q.numbers) (fold-Not condition_parts_layer c) h);
    implication = λ b c f g h.
        let inside = subst (λ (q : Parts). Each Defined q.numbers) (fold-Imply condition_parts_layer b c) h in
        each_Imply _ b c
        ∙ true_both _ _ (f (each_left Defined (condition_parts b).numbers _ inside))
        (g (each_left Defined (condition_parts c).numbers [] (each_right Defined (condition_parts b).numbers _ inside)));
    fact = λ a h. each_Fact _ a;
    equal = λ a b h. each_Same _ a b;
    compare = λ r x y h.
        let inside = subst (λ (q : Parts). Each Defined q.numbers) (fold-Cmp condition_parts_layer r x y) h in
        each_Cmp _ r x y ∙ true_both _ _ (expression_defined x inside.0) (expression_defined y inside.1.0);
  })

-- where none is found, each passes
pub none_found : {A : Type 0} (test : A → Bool) (xs : List A) → find (λ x. not (test x)) xs ≡ None → Each (λ x. test x ≡ true) xs
none_found test [] h = tt
none_found test (x ∷ xs) h = by_test (test x) refl h (λ k. none_found test xs k)
  where
    by_test : (t : Bool) → test x ≡ t → cond (not t) (Some x) (find (λ x. not (test x)) xs) ≡ None → (find (λ x. not (test x)) xs ≡ None → Each (λ x. test x ≡ true) xs)
        → (test x ≡ true) × Each (λ x. test x ≡ true) xs
    by_test true is k more = (is, more k)
    by_test false is k more = cc

pub none_mapped : {A B : Type 0} (f : A → B) (found : Option A) → option_map f found ≡ None → found ≡ None
none_mapped f None h = refl
none_mapped f (Some x) h = cc
