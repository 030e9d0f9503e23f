-- The steps that a printed plan spells.
use Rattle.std.specs.Prelude.{ℕ, ◌≡◌, List, [], ◌∷◌, ◌++◌, codes, IsTrue, ⊤}
use Rattle.std.specs.List.{join_with_byte}
use Rattle.ground_task.specs.Tasks.{TaskValue}
use Rattle.plan_text.specs.Plans.{is_named}
use Rattle.plan_text.specs.declared.step.Step.{Step}
use Rattle.answer_text.specs.Texts.{action_text}

-- the name of the ground action has the step's names, in lower case, between brackets
abbrev pub IsStepOf : TaskValue → ℕ → Step → Type 0
IsStepOf t a s =
    (action_text t a ≡ codes "(" ++ join_with_byte 32 (s.name ∷ s.args) ++ codes ")") × IsTrue (is_named s)

-- so have the names of the ground actions of a path the names of these steps, in their order
abbrev pub AreStepsOf : TaskValue → List ℕ → List Step → Type 0
AreStepsOf t [] [] = ⊤
AreStepsOf t [] (s ∷ steps) = ⊥
AreStepsOf t (a ∷ path) [] = ⊥
AreStepsOf t (a ∷ path) (s ∷ steps) = IsStepOf t a s × AreStepsOf t path steps
