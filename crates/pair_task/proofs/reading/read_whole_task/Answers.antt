use Rattle.pair_task.proofs.Answered.{of_accepted, of_pair, of_texts}
use Rattle.pair_task.proofs.reading.read_whole_task.Goals as goal

pub returns-in-Ok-clause-task : goal.returns-in-Ok-clause-task
returns-in-Ok-clause-task c =
    of_accepted c.args.domain.now c.args.problem.now c.in-Ok.checked c.task_of-task.result c.in-Ok.ensures.accepted c.task_of-task.ensures.task

pub returns-in-Ok-clause-fault : goal.returns-in-Ok-clause-fault
returns-in-Ok-clause-fault c =
    of_pair c.args.domain.now c.args.problem.now c.in-Ok.checked c.task_of-task.result c.in-Ok.ensures.accepted c.task_of-task.ensures.fault

pub returns-in-Err-clause-fault : goal.returns-in-Err-clause-fault
returns-in-Err-clause-fault c = of_texts c.args.domain.now c.args.problem.now c.in-Err.fault c.in-Err.ensures.fault
