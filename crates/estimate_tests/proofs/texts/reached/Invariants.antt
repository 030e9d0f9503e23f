use Rattle.ground_task.specs.Tasks.{IsStateOf}
use Rattle.estimate_tests.proofs.texts.reached.Given as goal

abbrev pub invariant-steps : goal.invariant-steps
invariant-steps l = IsStateOf l.task l.state
