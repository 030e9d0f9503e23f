use Rattle.grounder.proofs.Taking.{all_taken}
use Rattle.grounder.proofs.kept.kept_actions.Goals as goal

pub returns-in-Ok-clause-kept : goal.returns-in-Ok-clause-kept
returns-in-Ok-clause-kept c =
    all_taken c.args.checked.now c.new-actions.result.items c.take_schemas.new.actions.items c.new-actions.ensures.items c.in-Ok.ensures.taken
