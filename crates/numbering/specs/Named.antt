-- Which facts a ground task has, by their codes.
use Rattle.std.specs.Prelude.{ℕ, ◌++◌, ◌↔◌, List, flat_map}
use Rattle.std.specs.List.Sorted.{IsStrictlyIncreasing}
use Rattle.pddl_types.specs.WellFormed.{Stands}
use Rattle.ground_task.specs.declared.raw.GCond.{GCond}
use Rattle.ground_task.specs.declared.raw.Ground.{Ground}
use Rattle.ground_meaning.specs.Tasks.{action_facts, condition_facts}

-- the facts of a goal and of actions, as often as they are named
abbrev pub named_facts : List Ground → GCond → List ℕ
named_facts actions goal = condition_facts goal ++ flat_map action_facts actions

-- the numbers of a list, each once, rising
pub record IsRisingFrom (ns codes : List ℕ) : Type 0 where
  pub rising : IsStrictlyIncreasing codes
  pub exactly : (n : ℕ) → Stands n codes ↔ Stands n ns
