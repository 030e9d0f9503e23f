-- The task of a pair stands for it.
use Rattle.pddl_terms.specs.Readable.{IsReadable}
use Rattle.pddl_types.specs.declared.pairs.Pair.{Pair}
use Rattle.pddl_types.specs.WellFormed.{WellFormed}
use Rattle.pddl_meaning.specs.Worlds.{initial_world}
use Rattle.ground_task.specs.Placed.{IsPlaced}
use Rattle.ground_task.specs.States.{StateValue}
use Rattle.ground_task.specs.Tasks.{TaskValue, IsInitialState}
use Rattle.ground_meaning.specs.Tasks.{IsGroundTask}
use Rattle.ground_meaning.specs.Worlds.{StandsAt, StandsFor}
use Rattle.ground_meaning.proofs.BackSteps.{step_comes_back}
use Rattle.ground_meaning.proofs.GoalTruth.{same_goal}
use Rattle.ground_meaning.proofs.Stepping.{step_stands}

pub stands_for : (p : Pair) → IsReadable p.domain p.problem → WellFormed p → (t : TaskValue) → IsGroundTask p t.raw → IsPlaced t.raw t.places
    → ((st : StateValue) → IsInitialState t st → StandsAt p t (initial_world p) st) → StandsFor p t
stands_for p readable formed t task placed first = record {
  first = first;
  forward = λ w st name objects next at step. step_stands p readable formed t task placed w st name objects next at step;
  back = λ w st number later at step. step_comes_back p readable formed t task w st number later at step;
  goal = λ w st at. same_goal p readable formed t task w st at;
}
