use Rattle.bound_actions.proofs.FactCodes.{adds_looked, dels_looked}
use Rattle.bound_actions.proofs.facts.Facts.new.Goals as goal

pub invariant_of-result : goal.invariant_of-result
invariant_of-result c = record {
  adds = adds_looked c.args.scope.now.checked.now c.args.scope.now.params.now c.args.schema.now c.as_slice.result.now c.in_ok-adds.adds.items c.requires.params c.as_slice.ensures c.in_ok-adds.ensures;
  dels = dels_looked c.args.scope.now.checked.now c.args.scope.now.params.now c.args.schema.now c.as_slice-2.result.now c.in_ok-dels.dels.items c.requires.params c.as_slice-2.ensures c.in_ok-dels.ensures;
}
