use Rattle.std.proofs.Common.{◌≢◌, sym, subst}
use Rattle.pddl_types.specs.declared.faults.CheckFault.TheVariants as check
use Rattle.pddl_types.specs.declared.pairs.Pair.{Pair}
use Rattle.pddl_types.specs.Answers.{IsFirstFault}
use Rattle.pair_text.specs.Reasons.{IsPairFault}
use Rattle.pair_text.proofs.Answered.{pair_refused}
use Rattle.pair_text.proofs.pairs.pair_of.Goals as goal

pub returns-in-Err-At-clause-fault : goal.returns-in-Err-At-clause-fault
returns-in-Err-At-clause-fault c =
    let pair : Pair = record { domain = c.args.domain; problem = c.args.problem } in
    subst (IsPairFault c.args.domain_text.now c.args.problem_text.now) (sym c.pair_fault.ensures)
    (pair_refused c.args.domain_text.now c.args.problem_text.now pair c.in-Err-At.side c.in-Err-At.kind c.in-Err-At.name
    c.requires.domain_spelled c.requires.problem_spelled (subst (λ fault. fault ≢ check.NoMemory → IsFirstFault pair fault) c.in-Err-At.field-0-is c.in-Err-At.ensures.fault))
