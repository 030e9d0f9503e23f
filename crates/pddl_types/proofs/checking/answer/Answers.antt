use Rattle.std.proofs.Common.{subst, sym, ◌∙◌}
use Rattle.pddl_types.specs.WellFormed.{WellFormed}
use Rattle.pddl_types.proofs.FaultlessAnswers.{refused_answer, well_formed_answer}
use Rattle.pddl_types.proofs.checking.answer.Goals as goal

pub returns-in-None-clause-well_formed : goal.returns-in-None-clause-well_formed
returns-in-None-clause-well_formed c =
    subst WellFormed (sym c.new.ensures) (well_formed_answer c.args.named (sym c.requires.noted ∙ c.in-None.is))

pub returns-in-Some-clause-refused : goal.returns-in-Some-clause-refused
returns-in-Some-clause-refused c = λ w. absurd (refused_answer c.args.named c.in-Some.fault (sym c.requires.noted ∙ c.in-Some.is) w)
