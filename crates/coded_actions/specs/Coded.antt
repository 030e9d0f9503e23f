-- What coded data means: the data of a ground task in which the facts and fluents stand by their codes.
use Rattle.std.specs.Prelude.{ℕ, List, map}
use Rattle.ground_task.specs.declared.raw.GExpr.{GExpr}
use Rattle.ground_task.specs.declared.raw.GExpr.TheVariants as e
use Rattle.ground_task.specs.declared.raw.GCond.{GCond}
use Rattle.ground_task.specs.declared.raw.GCond.TheVariants as c
use Rattle.ground_task.specs.declared.raw.Change.{Change}
use Rattle.ground_task.specs.declared.raw.Change.TheVariants as change
use Rattle.ground_task.specs.declared.raw.Ground.{Ground}
use Rattle.coded_actions.specs.declared.coded.CodedExpr.{CodedExpr, CodedExpr-F, fold-CodedExpr}
use Rattle.coded_actions.specs.declared.coded.CodedExpr.TheOpen as expr
use Rattle.coded_actions.specs.declared.coded.CodedCond.{CodedCond, CodedCond-F, fold-CodedCond}
use Rattle.coded_actions.specs.declared.coded.CodedCond.TheOpen as cond
use Rattle.coded_actions.specs.declared.coded.CodedChange.{CodedChange}
use Rattle.coded_actions.specs.declared.coded.CodedChange.TheVariants as coded
use Rattle.coded_actions.specs.declared.coded.CodedAction.{CodedAction}

abbrev pub expression_layer : CodedExpr-F GExpr → GExpr
expression_layer (expr.Const d) = e.Const d
expression_layer (expr.Read x) = e.Read x
expression_layer (expr.Add a b) = e.Add a b
expression_layer (expr.Sub a b) = e.Sub a b
expression_layer (expr.Mul a b) = e.Mul a b

abbrev pub expression_of : CodedExpr → GExpr
expression_of = fold-CodedExpr GExpr expression_layer

abbrev pub condition_layer : CodedCond-F GCond → GCond
condition_layer cond.True = c.True
condition_layer cond.False = c.False
condition_layer (cond.Fact f truth) = c.Fact f truth
condition_layer (cond.Cmp r a b) = c.Cmp r (expression_of a) (expression_of b)
condition_layer (cond.And cs) = c.And cs
condition_layer (cond.Or cs) = c.Or cs

abbrev pub condition_of : CodedCond → GCond
condition_of = fold-CodedCond GCond condition_layer

abbrev pub change_of : CodedChange → Change
change_of (coded.Add v) = change.Add (expression_of v)
change_of (coded.Set v) = change.Set (expression_of v)

abbrev pub effects_of : List (ℕ × CodedChange) → List (ℕ × Change)
effects_of nums = map (λ n. (n.0, change_of n.1)) nums

abbrev pub action_of : CodedAction → Ground
action_of a = record {
  name = a.name;
  pre = condition_of a.pre;
  adds = a.adds;
  dels = a.dels;
  nums = effects_of a.nums;
}
