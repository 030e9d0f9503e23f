-- For contracts inside this crate alone: an atom that isn't true, as the code has it, and what the code sees of a state.
use Rattle.std.specs.Prelude.{ℕ, ◌≡◌, ◌≤◌, ◌<◌, List, Bool, true, false, length, sum, slice_index_or}
use Rattle.ground_task.specs.declared.raw.GCond.{GCond}
use Rattle.ground_task.specs.declared.raw.Ground.{Ground}
use Rattle.ground_task.specs.Tasks.{IsStateOf}
use Rattle.num_ends.specs.Decimal.{Decimal}
use Rattle.simple_atoms.specs.declared.linear.Linear.{Linear}
use Rattle.simple_atoms.specs.Values.{gain_of}
use Rattle.subgoal.specs.declared.atoms.View.{View}
use Rattle.subgoal.specs.declared.unmet.Unmet.{Unmet}
use Rattle.subgoal.specs.declared.unmet.Unmet.TheVariants.{Literal, Reads}
use Rattle.subgoal.specs.Equations.{Atoms, Help, condition_value, values_by, Solves}
use Rattle.subgoal.specs.Help.{atoms_in, help_by_gain, help_by_reads, makes, once_where}

-- how the actions help it
abbrev pub help_of : Unmet → Help
help_of (Literal f truth) = λ a. once_where (makes f truth a)
help_of (Reads left right) = help_by_reads left.now right.now

-- how the actions help a comparison with a form that has this value
abbrev pub help_by_value : Linear → Decimal → Help
help_by_value f value = λ a. help_by_gain f value a (gain_of f a)

-- a state of the task, and a value for each action
pub record IsRight (view : View) : Type 0 where
  pub of_task : IsStateOf view.task.now view.state.now
  pub as_many : length view.values.now ≡ length view.task.now.raw.actions

-- the value of a condition by what is seen
abbrev pub value_seen : View → GCond → ℕ
value_seen view = condition_value (atoms_in view.task.now view.state.now) view.task.now.raw.actions view.values.now

-- ---- values that are lowered

-- the value of the action of this number
abbrev pub at : List ℕ → ℕ → ℕ
at v i = slice_index_or v i 0

-- its value by the equations
abbrev pub by_equation : Atoms → List Ground → List ℕ → ℕ → ℕ
by_equation atoms actions v i = at (values_by atoms actions v actions) i

-- a value for each action, and none below that of its equation
pub record IsAbove (atoms : Atoms) (actions : List Ground) (v : List ℕ) : Type 0 where
  pub as_many : length v ≡ length actions
  pub above : (i : ℕ) → i < length actions → by_equation atoms actions v i ≤ at v i

-- after a round: the values are lowered, and their sum is; or nothing changes, and they solve the equations
abbrev pub AreLowered : Atoms → List Ground → List ℕ → List ℕ → Bool → Type 0
AreLowered atoms actions old new true = sum new < sum old
AreLowered atoms actions old new false = (new ≡ old) × Solves atoms actions new
