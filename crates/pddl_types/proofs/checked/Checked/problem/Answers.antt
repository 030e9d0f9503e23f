use Rattle.std.proofs.Common.{subst}
use Rattle.pddl_terms.specs.Readable.{IsReadable}
use Rattle.pddl_types.specs.declared.pairs.Pair.{Pair}
use Rattle.pddl_types.specs.WellFormed.{WellFormed}
use Rattle.pddl_types.proofs.FaultlessAnswers.{well_formed_answer}
use Rattle.pddl_types.proofs.checked.Checked.problem.Goals as goal

pub returns-clause-well_formed : goal.returns-clause-well_formed
returns-clause-well_formed c = subst WellFormed c.self.view_is (well_formed_answer c.self.inside.named c.self.invariant.no_fault)

pub returns-clause-readable : goal.returns-clause-readable
returns-clause-readable c = subst (λ (p : Pair). IsReadable p.domain p.problem) c.self.view_is c.self.invariant.readable
