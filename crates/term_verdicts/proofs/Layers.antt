-- What is known of expressions and conditions, one equation for each variant.
use Rattle.std.proofs.Common.{◌≡◌, ℕ, Bool, true, false, List, [], ◌∷◌, Option, Some, None, Result, Ok, Err, map, refl, sym, ap, ◌∙◌}
use Rattle.std.specs.Option.{option_map_or}
use Rattle.num_ends.specs.Decimal.{Decimal}
use Rattle.pddl_terms.specs.declared.expressions.Op.{Op}
use Rattle.pddl_terms.specs.declared.expressions.Op.TheVariants as op
use Rattle.pddl_terms.specs.declared.conditions.Rel.{Rel}
use Rattle.pddl_types.specs.declared.pairs.Pair.{Pair}
use Rattle.pddl_meaning.specs.Truth.{at_polarity}
use Rattle.pddl_meaning.specs.Values.{inverse_of}
use Rattle.ground_task.specs.declared.raw.GExpr.{GExpr}
use Rattle.ground_task.specs.declared.raw.GExpr.TheVariants as g
use Rattle.bound_atoms.specs.declared.atoms.AtomSlots.{AtomSlots}
use Rattle.bound_atoms.specs.declared.same.SameSlots.{SameSlots}
use Rattle.bound_atoms.specs.Slots.{same_number}
use Rattle.ground_meaning.specs.Results.{after, all_answers, mapped}
use Rattle.ground_meaning.specs.Expressions.{FoldFault, Operand, operated, operation, product, quotient}
use Rattle.ground_meaning.specs.Expressions.FoldFault.{Divide}
use Rattle.ground_meaning.specs.Expressions.Operand.{constant, computed}
use Rattle.ground_meaning.specs.Conditions.{compared}
use Rattle.term_patterns.specs.declared.expressions.ExprSlots.{ExprSlots}
use Rattle.term_patterns.specs.declared.expressions.ExprSlots.TheVariants as e
use Rattle.term_patterns.specs.declared.slots.CondSlots.{CondSlots}
use Rattle.term_patterns.specs.declared.slots.CondSlots.TheVariants as c
use Rattle.term_patterns.specs.Bound.{bound_condition, bound_expression, bound_fact, bound_read}
use Rattle.term_patterns.proofs.Layers.{bound_All, bound_Any, bound_Compared, bound_Fact, bound_Literal, bound_Op, bound_Read, bound_Same}
use Rattle.term_verdicts.specs.Verdicts.{constant_of, fault_alone, truth_of}
use Rattle.term_verdicts.specs.internal.Bound.{bound_value, bound_verdict, compared_constants, operand_with, operated_constants}
use Rattle.term_verdicts.specs.internal.Truths.{truths}
use Rattle.term_verdicts.proofs.Chained.{after_mapped, after_same, alone_after, alone_mapped, mapped_after, mapped_same, mapped_twice}
use Rattle.term_verdicts.proofs.Decided.{members_known}
use Rattle.term_verdicts.proofs.Filled.{conditions_full}

-- ---- operations

operation_known : (o : Op) (make : GExpr → GExpr → GExpr) (a b : Operand)
    → mapped constant_of (operation o make a b) ≡ mapped constant_of (operation o make (operand_with (constant_of a)) (operand_with (constant_of b)))
operation_known o make (constant x) (constant y) = refl
operation_known o make (constant x) (computed h) = refl
operation_known o make (computed h) (constant y) = refl
operation_known o make (computed h) (computed k) = refl

quotient_by : (place : ℕ) (a : Operand) (found : Option Decimal)
    → mapped constant_of (option_map_or (λ inverse. product a (constant inverse)) found (Err (Divide place)))
    ≡ mapped constant_of (option_map_or (λ inverse. product (operand_with (constant_of a)) (constant inverse)) found (Err (Divide place)))
quotient_by place a None = refl
quotient_by place a (Some inverse) = operation_known op.Mul g.Mul a (constant inverse)

quotient_known : (place : ℕ) (a b : Operand) → mapped constant_of (quotient place a b) ≡ mapped constant_of (quotient place (operand_with (constant_of a)) (operand_with (constant_of b)))
quotient_known place a (constant d) = quotient_by place a (inverse_of d)
quotient_known place a (computed h) = refl

operated_known : (o : Op) (place : ℕ) (a b : Operand) → mapped constant_of (operated o place a b) ≡ operated_constants o place (constant_of a) (constant_of b)
operated_known op.Add place a b = operation_known op.Add g.Add a b
operated_known op.Sub place a b = operation_known op.Sub g.Sub a b
operated_known op.Mul place a b = operation_known op.Mul g.Mul a b
operated_known op.Div place a b = quotient_known place a b

compared_known : (polarity : Bool) (r : Rel) (a b : Operand) → truth_of (compared polarity r a b) ≡ compared_constants polarity r (constant_of a) (constant_of b)
compared_known polarity r (constant x) (constant y) = refl
compared_known polarity r (constant x) (computed h) = refl
compared_known polarity r (computed h) (constant y) = refl
compared_known polarity r (computed h) (computed k) = refl

module _ (o : Op) (place : ℕ) (x y : Result Operand FoldFault) where
  right_known : (a : Operand) → mapped constant_of (after (λ b. operated o place a b) y) ≡ after (λ v. operated_constants o place (constant_of a) v) (mapped constant_of y)
  right_known a =
      mapped_after constant_of (λ (b : Operand). operated o place a b) y
      ∙ after_same (λ (b : Operand). mapped constant_of (operated o place a b)) (λ (b : Operand). operated_constants o place (constant_of a) (constant_of b)) (operated_known o place a) y
      ∙ sym (after_mapped (λ (v : Option Decimal). operated_constants o place (constant_of a) v) constant_of y)

  both_known : mapped constant_of (after (λ a. after (λ b. operated o place a b) y) x) ≡ after (λ u. after (λ v. operated_constants o place u v) (mapped constant_of y)) (mapped constant_of x)
  both_known =
      mapped_after constant_of (λ (a : Operand). after (λ b. operated o place a b) y) x
      ∙ after_same (λ (a : Operand). mapped constant_of (after (λ b. operated o place a b) y)) (λ (a : Operand). after (λ v. operated_constants o place (constant_of a) v) (mapped constant_of y)) right_known x
      ∙ sym (after_mapped (λ (u : Option Decimal). after (λ v. operated_constants o place u v) (mapped constant_of y)) constant_of x)

module _ (polarity : Bool) (r : Rel) (x y : Result Operand FoldFault) where
  right_compared : (a : Operand) → mapped truth_of (mapped (λ b. compared polarity r a b) y) ≡ mapped (compared_constants polarity r (constant_of a)) (mapped constant_of y)
  right_compared a =
      mapped_twice truth_of (λ (b : Operand). compared polarity r a b) y
      ∙ mapped_same (λ (b : Operand). truth_of (compared polarity r a b)) (λ (b : Operand). compared_constants polarity r (constant_of a) (constant_of b)) (compared_known polarity r a) y
      ∙ sym (mapped_twice (compared_constants polarity r (constant_of a)) constant_of y)

  both_compared : mapped truth_of (after (λ a. mapped (λ b. compared polarity r a b) y) x) ≡ after (λ u. mapped (compared_constants polarity r u) (mapped constant_of y)) (mapped constant_of x)
  both_compared =
      mapped_after truth_of (λ (a : Operand). mapped (λ b. compared polarity r a b) y) x
      ∙ after_same (λ (a : Operand). mapped truth_of (mapped (λ b. compared polarity r a b) y)) (λ (a : Operand). mapped (compared_constants polarity r (constant_of a)) (mapped constant_of y)) right_compared x
      ∙ sym (after_mapped (λ (u : Option Decimal). mapped (compared_constants polarity r u) (mapped constant_of y)) constant_of x)

module _ (polarity : Bool) (r : Rel) (x y : Result (Option Decimal) FoldFault) where
  pub compared_left_fault : (f : FoldFault) → x ≡ Err f → after (λ a. mapped (compared_constants polarity r a) y) x ≡ Err f
  compared_left_fault f h = ap (after (λ a. mapped (compared_constants polarity r a) y)) h

  pub compared_right_fault : (a : Option Decimal) (f : FoldFault) → x ≡ Ok a → y ≡ Err f → after (λ a. mapped (compared_constants polarity r a) y) x ≡ Err f
  compared_right_fault a f h k = ap (after (λ a. mapped (compared_constants polarity r a) y)) h ∙ ap (mapped (compared_constants polarity r a)) k

  pub compared_both : (a b : Option Decimal) → x ≡ Ok a → y ≡ Ok b → after (λ a. mapped (compared_constants polarity r a) y) x ≡ Ok (compared_constants polarity r a b)
  compared_both a b h k = ap (after (λ a. mapped (compared_constants polarity r a) y)) h ∙ ap (mapped (compared_constants polarity r a)) k

  answered_none : (s : Result (Option Decimal) FoldFault) (u : Unit {0}) → fault_alone s ≡ Ok u → mapped (compared_constants polarity r None) s ≡ Ok None
  answered_none (Ok b) u h = refl
  answered_none (Err f) u h = cc

  pub compared_none : (u : Unit {0}) → x ≡ Ok None → fault_alone y ≡ Ok u → after (λ a. mapped (compared_constants polarity r a) y) x ≡ Ok None
  compared_none u h k = ap (after (λ a. mapped (compared_constants polarity r a) y)) h ∙ answered_none y u k

-- ---- expressions and conditions

module _ (p : Pair) (os : List ℕ) where
  pub value_Literal : (d : Decimal) → bound_value p os (e.Literal d) ≡ Ok (Some d)
  unfolding bound_value
  value_Literal d = ap (mapped constant_of) (bound_Literal p os d)

  pub value_Read : (q : AtomSlots) → bound_value p os (e.Read q) ≡ Ok (constant_of (bound_read p os q))
  unfolding bound_value
  value_Read q = ap (mapped constant_of) (bound_Read p os q)

  pub value_Op : (o : Op) (place : ℕ) (x y : ExprSlots)
      → bound_value p os (e.Op o place x y) ≡ after (λ u. after (λ v. operated_constants o place u v) (bound_value p os y)) (bound_value p os x)
  unfolding bound_value
  value_Op o place x y = ap (mapped constant_of) (bound_Op p os o place x y) ∙ both_known o place (bound_expression p os x) (bound_expression p os y)

  module _ (o : Op) (place : ℕ) (x y : ExprSlots) where
    pub left_fault : (f : FoldFault) → bound_value p os x ≡ Err f → bound_value p os (e.Op o place x y) ≡ Err f
    left_fault f h = value_Op o place x y ∙ ap (after (λ u. after (λ v. operated_constants o place u v) (bound_value p os y))) h

    pub right_fault : (a : Option Decimal) (f : FoldFault) → bound_value p os x ≡ Ok a → bound_value p os y ≡ Err f → bound_value p os (e.Op o place x y) ≡ Err f
    right_fault a f h k =
        value_Op o place x y ∙ ap (after (λ u. after (λ v. operated_constants o place u v) (bound_value p os y))) h ∙ ap (after (λ v. operated_constants o place a v)) k

    pub both_operands : (a b : Option Decimal) → bound_value p os x ≡ Ok a → bound_value p os y ≡ Ok b → bound_value p os (e.Op o place x y) ≡ operated_constants o place a b
    both_operands a b h k =
        value_Op o place x y ∙ ap (after (λ u. after (λ v. operated_constants o place u v) (bound_value p os y))) h ∙ ap (after (λ v. operated_constants o place a v)) k

  verdicts_of : (qs : List CondSlots) → map (mapped truth_of) (map (bound_condition p os) qs) ≡ map (bound_verdict p os) qs
  unfolding bound_verdict
  verdicts_of [] = refl
  verdicts_of (q ∷ qs) = ap (λ (rs : List (Result (Option Bool) FoldFault)). mapped truth_of (bound_condition p os q) ∷ rs) (verdicts_of qs)

  pub verdict_All : (qs : List CondSlots) → bound_verdict p os (c.All qs) ≡ mapped (truths true (Some true)) (all_answers (map (bound_verdict p os) qs))
  unfolding bound_verdict
  verdict_All qs =
      ap (mapped truth_of) (bound_All p os qs)
      ∙ members_known true (map (bound_condition p os) qs) (conditions_full p os qs)
      ∙ ap (λ (rs : List (Result (Option Bool) FoldFault)). mapped (truths true (Some true)) (all_answers rs)) (verdicts_of qs)

  pub verdict_Any : (qs : List CondSlots) → bound_verdict p os (c.Any qs) ≡ mapped (truths false (Some false)) (all_answers (map (bound_verdict p os) qs))
  unfolding bound_verdict
  verdict_Any qs =
      ap (mapped truth_of) (bound_Any p os qs)
      ∙ members_known false (map (bound_condition p os) qs) (conditions_full p os qs)
      ∙ ap (λ (rs : List (Result (Option Bool) FoldFault)). mapped (truths false (Some false)) (all_answers rs)) (verdicts_of qs)

  pub verdict_Fact : (polarity : Bool) (q : AtomSlots) → bound_verdict p os (c.Fact polarity q) ≡ Ok (truth_of (bound_fact p os polarity q))
  unfolding bound_verdict
  verdict_Fact polarity q = ap (mapped truth_of) (bound_Fact p os polarity q)

  pub verdict_Same : (polarity : Bool) (s : SameSlots) → bound_verdict p os (c.Same polarity s) ≡ Ok (Some (at_polarity polarity (same_number os s)))
  unfolding bound_verdict
  verdict_Same polarity s = ap (mapped truth_of) (bound_Same p os polarity s)

  pub verdict_Compared : (polarity : Bool) (r : Rel) (x y : ExprSlots)
      → bound_verdict p os (c.Compared polarity r x y) ≡ after (λ a. mapped (compared_constants polarity r a) (bound_value p os y)) (bound_value p os x)
  unfolding bound_value bound_verdict
  verdict_Compared polarity r x y = ap (mapped truth_of) (bound_Compared p os polarity r x y) ∙ both_compared polarity r (bound_expression p os x) (bound_expression p os y)

  -- ---- faults alone

  pub fault_All : (qs : List CondSlots) → fault_alone (bound_verdict p os (c.All qs)) ≡ fault_alone (all_answers (map (bound_verdict p os) qs))
  fault_All qs = ap fault_alone (verdict_All qs) ∙ alone_mapped (truths true (Some true)) (all_answers (map (bound_verdict p os) qs))

  pub fault_Any : (qs : List CondSlots) → fault_alone (bound_verdict p os (c.Any qs)) ≡ fault_alone (all_answers (map (bound_verdict p os) qs))
  fault_Any qs = ap fault_alone (verdict_Any qs) ∙ alone_mapped (truths false (Some false)) (all_answers (map (bound_verdict p os) qs))

  pub fault_Fact : (polarity : Bool) (q : AtomSlots) → fault_alone (bound_verdict p os (c.Fact polarity q)) ≡ Ok tt
  fault_Fact polarity q = ap fault_alone (verdict_Fact polarity q)

  pub fault_Same : (polarity : Bool) (s : SameSlots) → fault_alone (bound_verdict p os (c.Same polarity s)) ≡ Ok tt
  fault_Same polarity s = ap fault_alone (verdict_Same polarity s)

  pub fault_Compared : (polarity : Bool) (r : Rel) (x y : ExprSlots)
      → fault_alone (bound_verdict p os (c.Compared polarity r x y)) ≡ after (λ a. fault_alone (bound_value p os y)) (bound_value p os x)
  fault_Compared polarity r x y =
      ap fault_alone (verdict_Compared polarity r x y)
      ∙ alone_after (λ (a : Option Decimal). mapped (compared_constants polarity r a) (bound_value p os y)) (bound_value p os y)
      (λ a. alone_mapped (compared_constants polarity r a) (bound_value p os y)) (bound_value p os x)
