use Rattle.grounder.proofs.TaskCodes.{codes_refused}
use Rattle.grounder.proofs.grounding.with_goal.Goals as goal

pub returns-in-Err : goal.returns-in-Err
returns-in-Err c =
    codes_refused c.args.checked.now c.domain-domain.ensures.readable c.domain-domain.ensures.well_formed c.args.actions.now c.args.goal.now c.requires.few_objects c.requires.kept c.requires.folded
    c.in-Err.fault c.in-Err.ensures.refused
