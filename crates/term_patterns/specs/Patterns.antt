-- Patterns of expressions and conditions: names looked up in a pair that was checked.
use Rattle.std.specs.Prelude.{◌≡◌, true, List}
use Rattle.pddl_terms.specs.declared.names.Typed.{Typed}
use Rattle.pddl_terms.specs.declared.conditions.Cond.{Cond}
use Rattle.pddl_terms.specs.declared.expressions.Expr.{Expr}
use Rattle.pddl_types.specs.declared.pairs.Pair.{Pair}
use Rattle.bound_atoms.specs.Patterns.{IsOfPair}
use Rattle.term_patterns.specs.declared.expressions.ExprSlots.{ExprSlots}
use Rattle.term_patterns.specs.declared.slots.CondSlots.{CondSlots}
use Rattle.term_patterns.specs.Slots.{condition_slots, expression_slots}

pub record IsExprPattern (p statics : Pair) (params : List Typed) (x : Expr) (q : ExprSlots) : Type 0 where
  pub of_pair : IsOfPair p statics
  pub is : q ≡ expression_slots p params x

pub record IsCondPattern (p statics : Pair) (params : List Typed) (c : Cond) (q : CondSlots) : Type 0 where
  pub of_pair : IsOfPair p statics
  pub is : q ≡ condition_slots p params c true
