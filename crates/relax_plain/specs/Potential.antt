-- How many of the demands that a task's actions may ever make a box leaves open. A wider box leaves fewer open.
use Rattle.std.specs.Prelude.{ℕ, ◌++◌, Bool, true, false, not, List, [], ◌∷◌, Option, Some, None, map, flat_map, count_by}
use Rattle.num_ends.specs.Decimal.{Decimal}
use Rattle.num_ends.specs.Ends.{has}
use Rattle.num_ends.specs.declared.ends.End.{End}
use Rattle.ground_task.specs.declared.raw.GCond.{GCond}
use Rattle.ground_task.specs.declared.raw.Change.{Change}
use Rattle.ground_task.specs.declared.raw.Change.TheVariants.{Add, Set}
use Rattle.ground_task.specs.declared.raw.Ground.{Ground}
use Rattle.ground_task.specs.Tasks.{TaskValue}
use Rattle.box_model.specs.Boxes.{fact_in, fluent_in, may_be}
use Rattle.box_model.specs.Demands.{bounds_of, constant_of, reaches}
use Rattle.box_model.specs.declared.caps.Side.{Side}
use Rattle.box_model.specs.declared.caps.Side.TheVariants.{Upper, Lower}
use Rattle.box_model.specs.declared.state_box.StateBox.{StateBox}

-- what may be demanded of a box: that a fact may have a truth value, that an end of a fluent is infinite or as far out
-- as one of some ends, that a fluent may have a value
pub data Demand : Type 0 where
  truth : ℕ → Bool → Demand
  end : ℕ → Side → List End → Demand
  value : ℕ → Decimal → Demand

abbrev pub is_met : StateBox → Demand → Bool
is_met b (truth f v) = may_be (fact_in b f) v
is_met b (end x side ends) = reaches side ends (fluent_in b x)
is_met b (value x c) = has (fluent_in b x) c

abbrev pub demands_of_value : ℕ → Option Decimal → List Demand
demands_of_value x (Some c) = value x c ∷ []
demands_of_value x None = end x Upper [] ∷ end x Lower [] ∷ []

-- what a change may ever demand
abbrev pub demands_of_change : List ℕ → GCond → ℕ → Change → List Demand
demands_of_change places pre x (Add e) = end x Upper (bounds_of places pre x e Upper) ∷ end x Lower (bounds_of places pre x e Lower) ∷ []
demands_of_change places pre x (Set e) = demands_of_value x (constant_of e)

abbrev pub demands_of : List ℕ → Ground → List Demand
demands_of places a =
    map (λ f. truth f true) a.adds
    ++ (map (λ f. truth f false) a.dels ++ flat_map (λ effect. demands_of_change places a.pre effect.0 effect.1) a.nums)

-- the count of demands that the box doesn't meet
abbrev pub potential : TaskValue → StateBox → ℕ
potential t b = count_by (λ d. not (is_met b d)) (flat_map (demands_of t.places) t.raw.actions)
