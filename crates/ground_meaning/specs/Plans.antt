-- When a plan of a task and a plan of its pair are one plan, step by step.
use Rattle.std.specs.Prelude.{ℕ, List, [], ◌∷◌}
use Rattle.ground_task.specs.Tasks.{TaskValue}
use Rattle.ground_meaning.specs.Worlds.{IsNamed}

-- as many actions of the task as steps of the pair, each named by the step of its place
abbrev pub AreNamed : TaskValue → List ℕ → List (List ℕ × List (List ℕ)) → Type 0
AreNamed t [] [] = Unit {0}
AreNamed t [] (step ∷ steps) = ⊥
AreNamed t (number ∷ numbers) [] = ⊥
AreNamed t (number ∷ numbers) (step ∷ steps) = IsNamed t number step.0 step.1 × AreNamed t numbers steps
