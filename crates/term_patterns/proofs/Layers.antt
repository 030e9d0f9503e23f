-- Expressions and conditions with their names looked up, one equation for each variant.
use Rattle.std.proofs.Common.{◌≡◌, ℕ, Bool, true, false, not, List, [], ◌∷◌, Result, Ok, map, refl, sym, ap, ◌∙◌}
use Rattle.num_ends.specs.Decimal.{Decimal, trimmed}
use Rattle.pddl_terms.specs.declared.names.Arg.{Arg}
use Rattle.pddl_terms.specs.declared.names.Atom.{Atom}
use Rattle.pddl_terms.specs.declared.names.Typed.{Typed}
use Rattle.pddl_terms.specs.declared.expressions.Op.{Op}
use Rattle.pddl_terms.specs.declared.expressions.Expr.{Expr}
use Rattle.pddl_terms.specs.declared.expressions.Expr.TheVariants as expression
use Rattle.pddl_terms.specs.declared.conditions.Rel.{Rel}
use Rattle.pddl_terms.specs.declared.conditions.Cond.{Cond}
use Rattle.pddl_terms.specs.declared.conditions.Cond.TheVariants as condition
use Rattle.pddl_types.specs.declared.pairs.Pair.{Pair}
use Rattle.pddl_meaning.specs.Truth.{at_polarity}
use Rattle.pddl_meaning.proofs.Folds.{fold-Lit, fold-Read, fold-Op, fold-And, fold-Or, fold-Not, fold-Imply, fold-Fact, fold-Same, fold-Cmp}
use Rattle.bound_atoms.specs.declared.atoms.AtomSlots.{AtomSlots}
use Rattle.bound_atoms.specs.declared.same.SameSlots.{SameSlots}
use Rattle.bound_atoms.specs.Atoms.{fact_slots, fluent_slots}
use Rattle.bound_atoms.specs.Slots.{same_number, same_slots}
use Rattle.ground_meaning.specs.Results.{after, all_answers, mapped}
use Rattle.ground_meaning.specs.Expressions.{FoldFault, Operand, operated}
use Rattle.ground_meaning.specs.Expressions.Operand.{constant}
use Rattle.ground_meaning.specs.Conditions.{Settled, all_of, any_of}
use Rattle.ground_meaning.specs.Conditions.Settled.{decided}
use Rattle.term_patterns.specs.declared.expressions.ExprSlots.{ExprSlots, ExprSlots-F, fold-ExprSlots, fold-roll-ExprSlots}
use Rattle.term_patterns.specs.declared.expressions.ExprSlots.TheVariants as e
use Rattle.term_patterns.specs.declared.slots.CondSlots.{CondSlots, CondSlots-F, fold-CondSlots, fold-roll-CondSlots}
use Rattle.term_patterns.specs.declared.slots.CondSlots.TheVariants as c
use Rattle.term_patterns.specs.Bound.{bound_comparison, bound_condition, bound_condition_layer, bound_expression, bound_expression_layer, bound_fact, bound_read, joins}
use Rattle.term_patterns.specs.Slots.{condition_slots, condition_slots_layer, expression_slots, joined_slots, placed_layer, placed_slots}

-- ---- under a binding

module _ (p : Pair) (os : List ℕ) where
  pub bound_Literal : (d : Decimal) → bound_expression p os (e.Literal d) ≡ Ok (constant d)
  unfolding bound_expression
  bound_Literal d = ap (fold-ExprSlots (Result Operand FoldFault) (bound_expression_layer p os)) (sym (e.rolls-Literal d)) ∙ fold-roll-ExprSlots _ (bound_expression_layer p os) (ExprSlots-F.Literal d)

  pub bound_Read : (q : AtomSlots) → bound_expression p os (e.Read q) ≡ Ok (bound_read p os q)
  unfolding bound_expression
  bound_Read q = ap (fold-ExprSlots (Result Operand FoldFault) (bound_expression_layer p os)) (sym (e.rolls-Read q)) ∙ fold-roll-ExprSlots _ (bound_expression_layer p os) (ExprSlots-F.Read q)

  pub bound_Op : (o : Op) (place : ℕ) (x y : ExprSlots)
      → bound_expression p os (e.Op o place x y) ≡ after (λ a. after (λ b. operated o place a b) (bound_expression p os y)) (bound_expression p os x)
  unfolding bound_expression
  bound_Op o place x y =
      ap (fold-ExprSlots (Result Operand FoldFault) (bound_expression_layer p os)) (sym (e.rolls-Op o place x y))
      ∙ fold-roll-ExprSlots _ (bound_expression_layer p os) (ExprSlots-F.Op o place x y)

  pub bound_All : (cs : List CondSlots) → bound_condition p os (c.All cs) ≡ mapped all_of (all_answers (map (bound_condition p os) cs))
  unfolding bound_condition
  bound_All cs = ap (fold-CondSlots (Result Settled FoldFault) (bound_condition_layer p os)) (sym (c.rolls-All cs)) ∙ fold-roll-CondSlots _ (bound_condition_layer p os) (CondSlots-F.All cs)

  pub bound_Any : (cs : List CondSlots) → bound_condition p os (c.Any cs) ≡ mapped any_of (all_answers (map (bound_condition p os) cs))
  unfolding bound_condition
  bound_Any cs = ap (fold-CondSlots (Result Settled FoldFault) (bound_condition_layer p os)) (sym (c.rolls-Any cs)) ∙ fold-roll-CondSlots _ (bound_condition_layer p os) (CondSlots-F.Any cs)

  pub bound_Fact : (polarity : Bool) (q : AtomSlots) → bound_condition p os (c.Fact polarity q) ≡ Ok (bound_fact p os polarity q)
  unfolding bound_condition
  bound_Fact polarity q =
      ap (fold-CondSlots (Result Settled FoldFault) (bound_condition_layer p os)) (sym (c.rolls-Fact polarity q)) ∙ fold-roll-CondSlots _ (bound_condition_layer p os) (CondSlots-F.Fact polarity q)

  pub bound_Same : (polarity : Bool) (s : SameSlots) → bound_condition p os (c.Same polarity s) ≡ Ok (decided (at_polarity polarity (same_number os s)))
  unfolding bound_condition
  bound_Same polarity s =
      ap (fold-CondSlots (Result Settled FoldFault) (bound_condition_layer p os)) (sym (c.rolls-Same polarity s)) ∙ fold-roll-CondSlots _ (bound_condition_layer p os) (CondSlots-F.Same polarity s)

  pub bound_Compared : (polarity : Bool) (r : Rel) (x y : ExprSlots) → bound_condition p os (c.Compared polarity r x y) ≡ bound_comparison p os polarity r x y
  unfolding bound_condition
  bound_Compared polarity r x y =
      ap (fold-CondSlots (Result Settled FoldFault) (bound_condition_layer p os)) (sym (c.rolls-Compared polarity r x y))
      ∙ fold-roll-CondSlots _ (bound_condition_layer p os) (CondSlots-F.Compared polarity r x y)

  -- all of some members, or one of them
  pub bound_joined : (conjunction : Bool) (cs : List CondSlots) → bound_condition p os (joined_slots conjunction cs) ≡ mapped (joins conjunction) (all_answers (map (bound_condition p os) cs))
  bound_joined true cs = bound_All cs
  bound_joined false cs = bound_Any cs

-- ---- names looked up

at_each : {A B : Type 0} (f : A → Bool → B) (polarity : Bool) (xs : List A) → map (λ g. g polarity) (map f xs) ≡ map (λ x. f x polarity) xs
at_each f polarity [] = refl
at_each {A} {B} f polarity (x ∷ xs) = ap (λ (bs : List B). f x polarity ∷ bs) (at_each f polarity xs)

module _ (p : Pair) (params : List Typed) where
  pub placed_Lit : (d : Decimal) (at : ℕ) → placed_slots p params (expression.Lit d at) ≡ (at, e.Literal (trimmed d))
  unfolding placed_slots
  placed_Lit d at = fold-Lit (placed_layer p params) d at

  pub placed_Read : (a : Atom) → placed_slots p params (expression.Read a) ≡ (a.head.at, e.Read (fluent_slots p params a))
  unfolding placed_slots
  placed_Read a = fold-Read (placed_layer p params) a

  pub placed_Op : (at : ℕ) (o : Op) (x y : Expr)
      → placed_slots p params (expression.Op at o x y) ≡ (at, e.Op o (placed_slots p params y).0 (expression_slots p params x) (expression_slots p params y))
  unfolding placed_slots
  placed_Op at o x y = fold-Op (placed_layer p params) at o x y

  pub slots_And : (cs : List Cond) (polarity : Bool) → condition_slots p params (condition.And cs) polarity ≡ joined_slots polarity (map (λ d. condition_slots p params d polarity) cs)
  unfolding condition_slots
  slots_And cs polarity = ap (λ (f : Bool → CondSlots). f polarity) (fold-And (condition_slots_layer p params) cs) ∙ ap (joined_slots polarity) (at_each (condition_slots p params) polarity cs)

  pub slots_Or : (cs : List Cond) (polarity : Bool) → condition_slots p params (condition.Or cs) polarity ≡ joined_slots (not polarity) (map (λ d. condition_slots p params d polarity) cs)
  unfolding condition_slots
  slots_Or cs polarity = ap (λ (f : Bool → CondSlots). f polarity) (fold-Or (condition_slots_layer p params) cs) ∙ ap (joined_slots (not polarity)) (at_each (condition_slots p params) polarity cs)

  pub slots_Not : (b : Cond) (polarity : Bool) → condition_slots p params (condition.Not b) polarity ≡ condition_slots p params b (not polarity)
  unfolding condition_slots
  slots_Not b polarity = ap (λ (f : Bool → CondSlots). f polarity) (fold-Not (condition_slots_layer p params) b)

  pub slots_Imply : (a b : Cond) (polarity : Bool)
      → condition_slots p params (condition.Imply a b) polarity ≡ joined_slots (not polarity) (condition_slots p params a (not polarity) ∷ condition_slots p params b polarity ∷ [])
  unfolding condition_slots
  slots_Imply a b polarity = ap (λ (f : Bool → CondSlots). f polarity) (fold-Imply (condition_slots_layer p params) a b)

  pub slots_Fact : (a : Atom) (polarity : Bool) → condition_slots p params (condition.Fact a) polarity ≡ c.Fact polarity (fact_slots p params a)
  unfolding condition_slots
  slots_Fact a polarity = ap (λ (f : Bool → CondSlots). f polarity) (fold-Fact (condition_slots_layer p params) a)

  pub slots_Same : (a b : Arg) (polarity : Bool) → condition_slots p params (condition.Same a b) polarity ≡ c.Same polarity (same_slots p params a b)
  unfolding condition_slots
  slots_Same a b polarity = ap (λ (f : Bool → CondSlots). f polarity) (fold-Same (condition_slots_layer p params) a b)

  pub slots_Cmp : (r : Rel) (x y : Expr) (polarity : Bool)
      → condition_slots p params (condition.Cmp r x y) polarity ≡ c.Compared polarity r (expression_slots p params x) (expression_slots p params y)
  unfolding condition_slots
  slots_Cmp r x y polarity = ap (λ (f : Bool → CondSlots). f polarity) (fold-Cmp (condition_slots_layer p params) r x y)
