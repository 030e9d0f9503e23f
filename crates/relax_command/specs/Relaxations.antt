-- The least closed box of the task of two texts, and what it says of the goal.
use Rattle.std.specs.Prelude.{ℕ, ◌≡◌, ◌++◌, List, Bool, false, codes, if◌then◌else◌}
use Rattle.ground_task.specs.Tasks.{TaskValue, first_state}
use Rattle.box_model.specs.Hold.{may_hold}
use Rattle.box_model.specs.Least.{IsLeastClosed}
use Rattle.box_model.specs.declared.state_box.StateBox.{StateBox}
use Rattle.cert_text.specs.Lines.{box_line}
use Rattle.pair_task.specs.Tasks.{IsPlanOfTexts, IsTaskOf}
use Rattle.run_answers.specs.declared.answers.Answer.{Answer}

-- the goal may hold in the box
abbrev pub is_met : TaskValue → StateBox → Bool
is_met t b = may_hold t.places b t.raw.goal

-- whether the goal is met or missed, and the line of the box
abbrev pub box_answer : TaskValue → StateBox → Answer
box_answer t b = record {
  status = if is_met t b then 0 else 1;
  text = (if is_met t b then codes "MET\n" else codes "MISSED\n") ++ box_line t.raw b;
}

-- the answer tells the least closed box above the initial state of a task
pub record IsTaskAnswer (t : TaskValue) (answer : Answer) : Type 0 where
  pub box : StateBox
  pub least : IsLeastClosed t (first_state t.raw t.places) box
  pub is : answer ≡ box_answer t box

-- the answer tells that box for the task of the pair that the texts spell; where the goal may not hold in it, the pair has no plan
pub record IsRelaxed (domain problem : List ℕ) (answer : Answer) : Type 0 where
  pub task : TaskValue
  pub is_task : IsTaskOf domain problem task
  pub answers : IsTaskAnswer task answer
  pub no_plan : is_met task answers.box ≡ false → (steps : List (List ℕ × List (List ℕ))) → IsPlanOfTexts domain problem steps → ⊥
