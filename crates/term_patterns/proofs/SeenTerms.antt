-- What patterns of terms fold to, as contracts see them.
use Rattle.std.proofs.Common.{◌≡◌, ◌<◌, ℕ, true, List, length, ap, subst, ◌∙◌}
use Rattle.pddl_terms.specs.declared.names.Typed.{Typed}
use Rattle.pddl_terms.specs.declared.expressions.Expr.{Expr}
use Rattle.pddl_terms.specs.declared.conditions.Cond.{Cond}
use Rattle.pddl_types.specs.declared.pairs.Pair.{Pair}
use Rattle.pddl_types.specs.Pairs.{objects_of}
use Rattle.pddl_types.specs.WellFormed.{Each}
use Rattle.static_facts.specs.Atoms.{names}
use Rattle.ground_meaning.specs.Expressions.{folded}
use Rattle.ground_meaning.specs.Conditions.{folded_condition}
use Rattle.term_patterns.specs.declared.expressions.ExprSlots.{ExprSlots}
use Rattle.term_patterns.specs.declared.slots.CondSlots.{CondSlots}
use Rattle.term_patterns.specs.Bound.{bound_condition, bound_expression}
use Rattle.term_patterns.specs.Patterns.{IsCondPattern, IsExprPattern}
use Rattle.term_patterns.proofs.Bindings.{condition_folds, expression_folds}

-- under a binding the names that are looked up fold to what the term does
module _ (p statics : Pair) (params : List Typed) where
  module _ (x : Expr) (q : ExprSlots) (v : Pair × List Typed × Expr) where
    pub expression_seen : IsExprPattern p statics params x q → (p, params, x) ≡ v → (os : List ℕ) → length os ≡ length v.1 → Each (λ o. o < length (objects_of v.0)) os
        → bound_expression v.0 os q ≡ folded v.0 v.1 (names v.0 os) v.2
    expression_seen h is os same known =
        subst (λ (w : Pair × List Typed × Expr). (length os ≡ length w.1) × Each (λ o. o < length (objects_of w.0)) os → bound_expression w.0 os q ≡ folded w.0 w.1 (names w.0 os) w.2) is
        (λ b. ap (bound_expression p os) h.is ∙ expression_folds p h.of_pair.readable h.of_pair.well_formed params os b.0 b.1 x)
        (same, known)

  module _ (d : Cond) (q : CondSlots) (v : Pair × List Typed × Cond) where
    pub condition_seen : IsCondPattern p statics params d q → (p, params, d) ≡ v → (os : List ℕ) → length os ≡ length v.1 → Each (λ o. o < length (objects_of v.0)) os
        → bound_condition v.0 os q ≡ folded_condition v.0 v.1 (names v.0 os) v.2 true
    condition_seen h is os same known =
        subst (λ (w : Pair × List Typed × Cond). (length os ≡ length w.1) × Each (λ o. o < length (objects_of w.0)) os → bound_condition w.0 os q ≡ folded_condition w.0 w.1 (names w.0 os) w.2 true) is
        (λ b. ap (bound_condition p os) h.is ∙ condition_folds p h.of_pair.readable h.of_pair.well_formed params os b.0 b.1 d true)
        (same, known)

pub statics_seen : {A : Type 0} (p statics : Pair) (rest : A) (v : Pair × A) → statics ≡ p → (p, rest) ≡ v → statics ≡ v.0
statics_seen {A} p statics rest v one is = one ∙ ap (λ (w : Pair × A). w.0) is
