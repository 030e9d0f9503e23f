-- Texts whose task's goal may not hold in its least closed box spell a pair without a plan.
use Rattle.std.proofs.Common.{◌≡◌, ◌≤◌, ◌^◌, ℕ, List, Result, Ok, Err, IfOk, false, length, subst, sym}
use Rattle.ground_task.specs.Placed.{IsPlaced}
use Rattle.ground_task.specs.States.{StateValue}
use Rattle.ground_task.specs.Steps.{IsTaskPlan}
use Rattle.ground_task.specs.Tasks.{TaskValue, first_state}
use Rattle.ground_task.proofs.StateNumbers.{initial_is_first}
use Rattle.box_model.specs.Boxes.{Contains}
use Rattle.box_model.specs.Least.{IsDead, IsLeastClosed}
use Rattle.box_model.specs.declared.state_box.StateBox.{StateBox}
use Rattle.box_model.proofs.Closed as closed
use Rattle.pair_task.specs.Tasks.{IsTaskOf}
use Rattle.pair_task.proofs.Tasks as tasks
use Rattle.run_answers.specs.declared.answers.Answer.{Answer}
use Rattle.relax_command.specs.Answers.{IsAnswer}
use Rattle.relax_command.specs.Answers.IsAnswer.{relaxed}
use Rattle.relax_command.specs.Relaxations.{IsTaskAnswer, is_met}

-- the box is dead, and each initial state is in it
missed : (t : TaskValue) (b : StateBox) → IsPlaced t.raw t.places → IsLeastClosed t (first_state t.raw t.places) b → is_met t b ≡ false → (numbers : List ℕ) → IsTaskPlan t numbers → ⊥
missed t b placed least misses numbers plan =
    let dead : IsDead t b = record { a_box = least.a_box; closed = least.closed; misses_goal = misses } in
    let first = initial_is_first t plan.0 placed plan.1 in
    closed.no_plan t b dead.a_box dead numbers plan.0 (subst (λ (s : StateValue). Contains t.places b s) (sym first) least.contains) plan.2

-- what is answered of the task of the texts is answered of the texts
pub relaxed_answer : {E : Type 0} (domain problem : List ℕ) (t : TaskValue) (result : Result Answer E) → length domain ≤ 2 ^ 30 → length problem ≤ 2 ^ 30 → IsTaskOf domain problem t → IfOk result (IsTaskAnswer t) → IfOk result (IsAnswer domain problem)
relaxed_answer domain problem t (Err e) few fewer task is = tt
relaxed_answer domain problem t (Ok answer) few fewer task is =
    relaxed answer (record {
      task = t;
      is_task = task;
      answers = is;
      no_plan = λ misses. tasks.no_plan domain problem few fewer t task.whole (missed t is.box task.whole.whole.placed is.least misses);
    })
