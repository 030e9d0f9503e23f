use Rattle.pair_task.proofs.Answered.{of_grounding_fault, of_task}
use Rattle.pair_task.proofs.reading.read_task.Goals as goal

pub returns-in-Err-check_supporters-clause-fault : goal.returns-in-Err-check_supporters-clause-fault
returns-in-Err-check_supporters-clause-fault c =
    of_task c.args.domain.now c.args.problem.now c.in-Ok.task c.in-Err-check_supporters.fault c.in-Ok.ensures.task c.in-Err-check_supporters.ensures.fault

pub returns-in-Err-clause-fault : goal.returns-in-Err-clause-fault
returns-in-Err-clause-fault c = of_grounding_fault c.args.domain.now c.args.problem.now c.in-Err.fault c.in-Err.ensures.fault
