use Rattle.std.proofs.Common.{true, false, arith}
use Rattle.std.specs.List.{list_all}
use Rattle.bound_actions.specs.Patterns.{is_set_by}
use Rattle.bound_actions.proofs.Members.{all_so_far, one_fails, set_alike}
use Rattle.bound_actions.proofs.readiness.are_set.Goals as goal

pub returns-then-is_none : goal.returns-then-is_none
returns-then-is_none c =
    one_fails (is_set_by c.args.objects.now) c.args.reads.now c.each.read-index c.read-item.result (omega arith) c.read-item.is
    (set_alike c.first_value.result _ false c.first_value.ensures c.if-is_none.ensures) (list_all (is_set_by c.args.objects.now) c.args.reads.now) c.each.invariant

pub each-preserved : goal.each-preserved
each-preserved c =
    all_so_far (is_set_by c.args.objects.now) c.args.reads.now c.each.read-index c.read-item.result (omega arith) c.read-item.is
    (set_alike c.first_value.result _ true c.first_value.ensures c.if-is_none.ensures) (list_all (is_set_by c.args.objects.now) c.args.reads.now) c.each.invariant
