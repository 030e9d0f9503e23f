-- Which data is a ground task.
use Rattle.std.specs.Prelude.{ℕ, ◌≡◌, ◌≢◌, ◌<◌, ◌≤◌, ◌++◌, ◌&&◌, Bool, true, IsTrue, length, All, AllPairs, nat_lt}
use Rattle.std.specs.List.{list_all}
use Rattle.num_ends.specs.Names.{IsGroundText}
use Rattle.ground_task.specs.declared.raw.GExpr.{GExpr, GExpr-F, fold-GExpr}
use Rattle.ground_task.specs.declared.raw.GExpr.TheOpen as expr
use Rattle.ground_task.specs.declared.raw.GCond.{GCond, GCond-F, fold-GCond}
use Rattle.ground_task.specs.declared.raw.GCond.TheOpen as cond
use Rattle.ground_task.specs.declared.raw.Change.{Change}
use Rattle.ground_task.specs.declared.raw.Change.TheVariants.{Add, Set}
use Rattle.ground_task.specs.declared.raw.Ground.{Ground}
use Rattle.ground_task.specs.declared.raw.RawTask.{RawTask}

-- each fluent that is read is below a count
abbrev pub known_expression_layer : ℕ → GExpr-F Bool → Bool
known_expression_layer fluents (expr.Const c) = true
known_expression_layer fluents (expr.Read x) = nat_lt x fluents
known_expression_layer fluents (expr.Add a b) = a && b
known_expression_layer fluents (expr.Sub a b) = a && b
known_expression_layer fluents (expr.Mul a b) = a && b

abbrev pub is_known_expression : ℕ → GExpr → Bool
is_known_expression fluents = fold-GExpr Bool (known_expression_layer fluents)

-- each fact and fluent that is read is below its count
abbrev pub known_condition_layer : ℕ → ℕ → GCond-F Bool → Bool
known_condition_layer facts fluents cond.True = true
known_condition_layer facts fluents cond.False = true
known_condition_layer facts fluents (cond.Fact f truth) = nat_lt f facts
known_condition_layer facts fluents (cond.Cmp r a b) = is_known_expression fluents a && is_known_expression fluents b
known_condition_layer facts fluents (cond.And cs) = list_all (λ c. c) cs
known_condition_layer facts fluents (cond.Or cs) = list_all (λ c. c) cs

abbrev pub is_known_condition : ℕ → ℕ → GCond → Bool
is_known_condition facts fluents = fold-GCond Bool (known_condition_layer facts fluents)

abbrev pub right_side : Change → GExpr
right_side (Add e) = e
right_side (Set e) = e

pub record IsValidAction (facts fluents : ℕ) (a : Ground) : Type 0 where
  pub known_condition : IsTrue (is_known_condition facts fluents a.pre)
  pub known_adds : All (λ f. f < facts) a.adds
  pub known_dels : All (λ f. f < facts) a.dels
  pub few_adds : length a.adds ≤ 256
  pub few_dels : length a.dels ≤ 256
  pub known_fluents : All (λ effect. effect.0 < fluents) a.nums
  pub known_right_sides : All (λ effect. IsTrue (is_known_expression fluents (right_side effect.1))) a.nums
  pub one_change_each : AllPairs (λ one other. one.0 ≢ other.0) a.nums

pub record IsValid (raw : RawTask) : Type 0 where
  pub few_facts : length raw.facts ≤ 4096
  pub few_fluents : length raw.fluents ≤ 256
  pub few_actions : length raw.actions ≤ 20000
  pub a_value_each : length raw.values ≡ length raw.fluents
  pub known_true_facts : All (λ f. f < length raw.facts) raw.true_facts
  pub valid_actions : All (IsValidAction (length raw.facts) (length raw.fluents)) raw.actions
  pub known_goal : IsTrue (is_known_condition (length raw.facts) (length raw.fluents) raw.goal)
  pub fact_texts : All IsGroundText raw.facts
  pub fluent_texts : All IsGroundText raw.fluents
  pub action_texts : All (λ a. IsGroundText a.name) raw.actions
  pub apart : AllPairs (λ one other. one ≢ other) (raw.facts ++ raw.fluents)
  pub actions_apart : AllPairs (λ one other. one.name ≢ other.name) raw.actions
