use Rattle.std.proofs.Common.{sym, subst}
use Rattle.pair_text.specs.Reasons.{IsPairFault}
use Rattle.pair_text.proofs.Answered.{problem_refused, problem_spelled}
use Rattle.pair_text.proofs.pairs.problem_of.Goals as goal

pub returns-in-Ok-clause-spelled : goal.returns-in-Ok-clause-spelled
returns-in-Ok-clause-spelled c = problem_spelled c.args.text.now c.in-Ok.problem c.in-Ok.ensures.answer

pub returns-in-Err-clause-fault : goal.returns-in-Err-clause-fault
returns-in-Err-clause-fault c = λ domain d spelled.
    subst (IsPairFault domain c.args.text.now) (sym c.reading_fault.ensures) (problem_refused domain c.args.text.now d c.in-Err.fault spelled c.in-Err.ensures.answer)
