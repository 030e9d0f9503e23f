use Rattle.std.proofs.Common.{sym, subst}
use Rattle.pair_task.specs.Faults.{IsPairFault}
use Rattle.pair_task.proofs.Answered.{of_grounding, whole_task}
use Rattle.pair_task.proofs.reading.task_of.Goals as goal

pub returns-in-Ok-clause-task : goal.returns-in-Ok-clause-task
returns-in-Ok-clause-task c = whole_task c.args.checked.now c.in-Ok.task c.in-Ok.ensures.task c.in-Ok.ensures.suffices

pub returns-in-Err-clause-fault : goal.returns-in-Err-clause-fault
returns-in-Err-clause-fault c =
    subst (IsPairFault c.args.domain.now c.args.problem.now c.args.checked.now) (sym c.grounding_fault.ensures)
    (of_grounding c.args.domain.now c.args.problem.now c.args.checked.now c.in-Err.fault c.in-Err.ensures.refused)
