use Rattle.bound_actions.proofs.Looked.{action_looked}
use Rattle.bound_actions.proofs.reads.action_reads.Goals as goal

pub returns : goal.returns
returns c =
    action_looked c.args.scope.now.checked.now c.args.scope.now.params.now c.args.schema.now c.new-reads.result.items c.push_condition.new.reads.items c.push_effects.new.reads.items
    c.as_slice.result.now c.new-reads.ensures.items c.in_ok-push_condition.ensures c.in_ok-push_effects.ensures c.as_slice.ensures
