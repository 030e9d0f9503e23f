use Rattle.std.proofs.Common.{map}
use Rattle.bound_actions.specs.Reads.{clashes}
use Rattle.bound_actions.specs.Patterns.{pattern_pair}
use Rattle.bound_actions.proofs.Looked.{clashes_go_on}
use Rattle.bound_actions.proofs.reads.clashes.Goals as goal

pub each-preserved : goal.each-preserved
each-preserved c =
    let p = c.args.scope.now.checked.now in
    let params = c.args.scope.now.params.now in
    clashes_go_on p params c.each.rest.now c.effect-item.result c.in-len1-up.len_at_least c.effect-item.is c.each.apart.items c.push_clashes.new.apart.items c.in_ok-push_clashes.ensures
    (map (pattern_pair p params) (clashes c.args.effects.now)) c.each.invariant
