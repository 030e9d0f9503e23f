use Rattle.bound_actions.proofs.Looked.{add_clashes, del_clashes, unclashed}
use Rattle.bound_actions.proofs.reads.push_clashes.Goals as goal

pub returns-in-Add : goal.returns-in-Add
returns-in-Add c =
    unclashed c.args.scope.now.checked.now c.args.scope.now.params.now c.args.effect.now (add_clashes c.args.scope.now.checked.now c.args.scope.now.params.now c.args.effect.now _ c.in-Add.is) c.args.later.now c.args.apart.now.items

pub returns-in-Del : goal.returns-in-Del
returns-in-Del c =
    unclashed c.args.scope.now.checked.now c.args.scope.now.params.now c.args.effect.now (del_clashes c.args.scope.now.checked.now c.args.scope.now.params.now c.args.effect.now _ c.in-Del.is) c.args.later.now c.args.apart.now.items
