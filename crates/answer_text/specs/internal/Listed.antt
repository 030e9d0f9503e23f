-- Lines that are made when they are wanted.
use Rattle.std.specs.Prelude.{ℕ, ◌≤◌, ◌^◌, List, ◌∷◌, All, length, map, ⊤}
use Rattle.ground_task.specs.Tasks.{IsStateOf, TaskValue}
use Rattle.box_model.specs.Boxes.{IsBoxOf}
use Rattle.answer_text.specs.Texts.{certificate_lines, step_line}
use Rattle.answer_text.specs.declared.lines.Lines.{Lines}
use Rattle.answer_text.specs.declared.lines.Lines.TheVariants.{Steps, Certificate}

abbrev pub lines_of : TaskValue → Lines → List (List ℕ)
lines_of t (Steps head path) = head ∷ map (step_line t) path
lines_of t (Certificate boxes states) = certificate_lines t boxes.now (map (λ s. s.now) states.items)

-- they can be counted
abbrev pub AreFew : Lines → Type 0
AreFew (Steps head path) = length path ≤ 2 ^ 30
AreFew (Certificate boxes states) = (length boxes.now ≤ 2 ^ 30) × (length states.items ≤ 2 ^ 30)

-- boxes and states are those of the task
abbrev pub AreReady : TaskValue → Lines → Type 0
AreReady t (Steps head path) = ⊤
AreReady t (Certificate boxes states) = All (IsBoxOf t) boxes.now × All (λ s. IsStateOf t s.now) states.items
