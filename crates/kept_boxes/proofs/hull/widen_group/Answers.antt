use Rattle.std.proofs.Common.{◌≡◌, length, arith}
use Rattle.kept_boxes.proofs.Groups.{read_at, widened_by, widened_new}
use Rattle.kept_boxes.proofs.hull.widen_group.Goals as goal

pub returns-then-group-len-clause-ok : goal.returns-then-group-len-clause-ok
returns-then-group-len-clause-ok c =
    let hulls = c.args.hulls.now.items in
    let was = c.index_mut-hull.result.now in
    widened_by c.args.group c.args.own.now hulls was c.widen.new.self
    (read_at hulls c.args.group was (omega (arith, c.args.hulls.now.ok.0)) c.index_mut-hull.ensures.value) c.widen.ensures.old c.widen.ensures.own

pub returns-clause-ok : goal.returns-clause-ok
returns-clause-ok c =
    let last : c.args.group ≡ length c.args.hulls.now.items = omega (arith, c.args.hulls.now.ok.0) in
    rw (c.in_ok-push.ensures.items, c.in_ok-of.ensures, last) (widened_new c.args.own.now c.args.hulls.now.items)
