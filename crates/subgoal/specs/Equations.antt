-- The equations that give conditions their values: how many actions a condition takes, at most, where each one's
-- precondition is counted on its own.
use Rattle.std.specs.Prelude.{ℕ, ◌≡◌, ◌+◌, Bool, List, [], ◌∷◌, Option, Some, None, map, min, sum}
use Rattle.ground_task.specs.declared.raw.Rel.{Rel}
use Rattle.ground_task.specs.declared.raw.GExpr.{GExpr}
use Rattle.ground_task.specs.declared.raw.GCond.{GCond, GCond-F, fold-GCond}
use Rattle.ground_task.specs.declared.raw.GCond.TheOpen as cond
use Rattle.ground_task.specs.declared.raw.Ground.{Ground}
use Rattle.simple_atoms.specs.declared.linear.TheConstants.{FAR}

-- how often each action is applied to make an atom true, where it helps
abbrev pub Help : Type 0
Help = Ground → Option ℕ

-- the literals and comparisons in a state: none for one that is true, and else how the actions help it
pub record Atoms : Type 0 where
  pub literals : ℕ → Bool → Option Help
  pub comparisons : Rel → GExpr → GExpr → Option Help

-- so many repetitions of an action, after its precondition
abbrev pub reached_by : Option ℕ → ℕ → ℕ
reached_by None n = FAR
reached_by (Some m) n = min FAR (m + n)

-- the least over the helping actions, with the value of each action's precondition; FAR over none
unfoldable pub least_reached : Help → List Ground → List ℕ → ℕ
least_reached help [] ns = FAR
least_reached help (a ∷ actions) [] = FAR
least_reached help (a ∷ actions) (n ∷ ns) = min (reached_by (help a) n) (least_reached help actions ns)

abbrev pub atom_value : List Ground → List ℕ → Option Help → ℕ
atom_value actions v None = 0
atom_value actions v (Some help) = least_reached help actions v

unfoldable pub least_of : List ℕ → ℕ
least_of [] = FAR
least_of (n ∷ ns) = min n (least_of ns)

abbrev pub value_layer : Atoms → List Ground → List ℕ → GCond-F ℕ → ℕ
value_layer atoms actions v cond.True = 0
value_layer atoms actions v cond.False = FAR
value_layer atoms actions v (cond.Fact f truth) = atom_value actions v (atoms.literals f truth)
value_layer atoms actions v (cond.Cmp r a b) = atom_value actions v (atoms.comparisons r a b)
value_layer atoms actions v (cond.And ns) = min FAR (sum ns)
value_layer atoms actions v (cond.Or ns) = least_of ns

-- the value of a condition, where the preconditions of the actions have these values
unfoldable pub condition_value : Atoms → List Ground → List ℕ → GCond → ℕ
condition_value atoms actions v = fold-GCond ℕ (value_layer atoms actions v)

-- the values of the preconditions of actions
abbrev pub values_by : Atoms → List Ground → List ℕ → List Ground → List ℕ
values_by atoms actions v those = map (λ a. condition_value atoms actions v a.pre) those

-- a value for each action that is the value of its precondition
abbrev pub Solves : Atoms → List Ground → List ℕ → Type 0
Solves atoms actions v = v ≡ values_by atoms actions v actions
