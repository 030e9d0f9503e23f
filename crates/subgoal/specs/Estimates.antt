-- The estimate of a state.
use Rattle.std.specs.Prelude.{ℕ, ◌≡◌, List}
use Rattle.ground_task.specs.States.{StateValue}
use Rattle.ground_task.specs.Tasks.{TaskValue}
use Rattle.subgoal.specs.Equations.{condition_value, Solves}
use Rattle.subgoal.specs.Help.{atoms_in}

-- a value for each action of the task, which solves the equations in a state
abbrev pub AreValues : TaskValue → StateValue → List ℕ → Type 0
AreValues t s v = Solves (atoms_in t s) t.raw.actions v

-- the value of the goal by such values
pub record IsEstimate (t : TaskValue) (s : StateValue) (h : ℕ) : Type 0 where
  pub values : List ℕ
  pub solve : AreValues t s values
  pub goal : h ≡ condition_value (atoms_in t s) t.raw.actions values t.raw.goal
