-- Repetitions are at least one.
use Rattle.std.specs.Prelude.{ℕ, ◌≡◌, ◌≤◌, Bool, Option, Some, None}
use Rattle.ground_task.specs.declared.raw.Rel.{Rel}
use Rattle.ground_task.specs.declared.raw.GExpr.{GExpr}
use Rattle.ground_task.specs.declared.raw.Ground.{Ground}
use Rattle.subgoal.specs.Equations.{Atoms, Help}

-- of an atom that isn't true, each action that helps is applied once at least
abbrev pub Repeats : Option Help → Type 0
Repeats None = Unit {0}
Repeats (Some help) = (a : Ground) (m : ℕ) → help a ≡ Some m → 1 ≤ m

pub record AllRepeat (atoms : Atoms) : Type 0 where
  pub literals : (f : ℕ) (truth : Bool) → Repeats (atoms.literals f truth)
  pub comparisons : (r : Rel) (a b : GExpr) → Repeats (atoms.comparisons r a b)
