use Rattle.std.proofs.Common.{sym, subst}
use Rattle.pair_text.specs.Reasons.{IsPairFault}
use Rattle.pair_text.proofs.Answered.{domain_refused, domain_spelled}
use Rattle.pair_text.proofs.pairs.domain_of.Goals as goal

pub returns-in-Ok-clause-spelled : goal.returns-in-Ok-clause-spelled
returns-in-Ok-clause-spelled c = domain_spelled c.args.text.now c.in-Ok.domain c.in-Ok.ensures.answer

pub returns-in-Err-clause-fault : goal.returns-in-Err-clause-fault
returns-in-Err-clause-fault c = λ problem.
    subst (IsPairFault c.args.text.now problem) (sym c.reading_fault.ensures) (domain_refused c.args.text.now problem c.in-Err.fault c.in-Err.ensures.answer)
