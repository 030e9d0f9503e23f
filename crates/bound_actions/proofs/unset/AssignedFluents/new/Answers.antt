use Rattle.bound_actions.proofs.FirstUnset.{assigned_looked}
use Rattle.bound_actions.proofs.unset.AssignedFluents.new.Goals as goal

pub invariant_of-result : goal.invariant_of-result
invariant_of-result c = record {
  of_effects = assigned_looked c.args.scope.now.checked.now c.args.scope.now.params.now c.args.schema.now c.as_slice.result.now c.in_ok-assigned.assigned.items c.requires.params c.as_slice.ensures c.in_ok-assigned.ensures;
}
