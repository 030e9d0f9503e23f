-- A goal within the range that isn't over is the goal without bounds.
use Rattle.std.proofs.Common.{◌≡◌, ◌&&◌, ℕ, Bool, true, false, not, List, [], Option, Some, None, refl, sym, ap, ◌∙◌, is_some, if◌then◌else◌}
use Rattle.num_ends.specs.Decimal.{Decimal}
use Rattle.pddl_terms.specs.declared.names.Typed.{Typed}
use Rattle.pddl_terms.specs.declared.expressions.Op.{Op}
use Rattle.pddl_terms.specs.declared.expressions.Expr.{Expr}
use Rattle.pddl_terms.specs.declared.conditions.Cond.{Cond}
use Rattle.pddl_types.specs.declared.pairs.Pair.{Pair}
use Rattle.pddl_meaning.specs.declared.answers.Holds.TheVariants.{Yes, No, Over}
use Rattle.pddl_meaning.specs.Worlds.{WorldValue}
use Rattle.pddl_meaning.specs.Values.{combined, exactly, reads_defined, value_of}
use Rattle.pddl_meaning.specs.Truth.{is_defined, is_in_bounds, is_true, is_valued, ranged_goal, ranged_truth}
use Rattle.pddl_meaning.specs.Laws.{GoalAgrees}
use Rattle.pddl_terms.proofs.Induction.{induct_expression}
use Rattle.pddl_meaning.proofs.Layers.{reads_of_Lit, reads_of_Read, reads_of_Op, value_of_Read, value_of_Op}
use Rattle.pddl_meaning.proofs.Bounds.{both_true, true_both}
use Rattle.pddl_meaning.proofs.Comparisons.{bounds_valued, each_more}

operands_some : (o : Op) (x y : Option Decimal) → is_some (combined exactly o x y) ≡ true → (is_some x ≡ true) × (is_some y ≡ true)
operands_some o None y h = cc
operands_some o (Some a) None h = cc
operands_some o (Some a) (Some b) h = (refl, refl)

module _ (params : List Typed) (args : List (List ℕ)) (w : WorldValue) where
  -- an expression with a value reads nothing undefined
  value_reads : (e : Expr) → is_some (value_of params args w e) ≡ true → reads_defined params args w e ≡ true
  value_reads = induct_expression (λ e. is_some (value_of params args w e) ≡ true → reads_defined params args w e ≡ true)
      (λ d at h. reads_of_Lit params args w d at)
      (λ a h. reads_of_Read params args w a ∙ (ap is_some (sym (value_of_Read exactly params args w a)) ∙ h))
      (λ at o x y f g h.
      let parts = operands_some o (value_of params args w x) (value_of params args w y) (ap is_some (sym (value_of_Op exactly params args w at o x y)) ∙ h) in
      reads_of_Op params args w at o x y ∙ true_both _ _ (f parts.0) (g parts.1))

  sides_defined : (e f : Expr) → (is_some (value_of params args w e) && is_some (value_of params args w f)) ≡ true → (reads_defined params args w e && reads_defined params args w f) ≡ true
  sides_defined e f h =
      let parts = both_true (is_some (value_of params args w e)) (is_some (value_of params args w f)) h in
      true_both (reads_defined params args w e) (reads_defined params args w f) (value_reads e parts.0) (value_reads f parts.1)

  -- so does a condition whose expressions have values
  valued_defined : (c : Cond) → is_valued params args w c ≡ true → is_defined params args w c ≡ true
  valued_defined = each_more (λ e f. is_some (value_of params args w e) && is_some (value_of params args w f)) (λ e f. reads_defined params args w e && reads_defined params args w f) sides_defined

undefined_unvalued : (defined valued truth : Bool) → (valued ≡ true → defined ≡ true) → defined ≡ false → (valued && truth) ≡ false
undefined_unvalued defined true truth f h = let bad = sym (f refl) ∙ h in cc
undefined_unvalued defined false truth f h = refl

false_goal : (valued truth : Bool) → truth ≡ false → (valued && truth) ≡ false
false_goal true truth h = h
false_goal false truth h = refl

module _ (p : Pair) (w : WorldValue) where
  truth_agrees : (bounded truth : Bool) → is_in_bounds [] [] w p.problem.goal ≡ bounded → is_true [] [] w p.problem.goal ≡ truth
      → GoalAgrees p w (if not bounded then Over else (if truth then Yes else No))
  truth_agrees false truth e f = tt
  truth_agrees true true e f = true_both _ _ (bounds_valued [] [] w p.problem.goal e) f
  truth_agrees true false e f = false_goal (is_valued [] [] w p.problem.goal) (is_true [] [] w p.problem.goal) f

  goal_agrees : (defined : Bool) → is_defined [] [] w p.problem.goal ≡ defined → GoalAgrees p w (if defined then ranged_truth [] [] w p.problem.goal else No)
  goal_agrees true e = truth_agrees (is_in_bounds [] [] w p.problem.goal) (is_true [] [] w p.problem.goal) refl refl
  goal_agrees false e = undefined_unvalued (is_defined [] [] w p.problem.goal) (is_valued [] [] w p.problem.goal) (is_true [] [] w p.problem.goal) (valued_defined [] [] w p.problem.goal) e

pub goals_agree : (p : Pair) (w : WorldValue) → GoalAgrees p w (ranged_goal p w)
unfolding ranged_goal
goals_agree p w = goal_agrees p w (is_defined [] [] w p.problem.goal) refl
