use Rattle.std.proofs.Common.{arith}
use Rattle.std.specs.List.{list_all}
use Rattle.bound_actions.specs.Patterns.{are_apart_by}
use Rattle.bound_actions.proofs.Members.{all_so_far, one_fails, other_codes, same_codes}
use Rattle.bound_actions.proofs.readiness.are_apart.Goals as goal

pub returns-then-code : goal.returns-then-code
returns-then-code c =
    one_fails (are_apart_by c.args.objects.now) c.args.pairs.now c.each.pair-index c.pair-item.result (omega arith) c.pair-item.is
    (same_codes c.code.result c.code-in-each.result _ _ c.code.ensures c.code-in-each.ensures c.if-code.true) (list_all (are_apart_by c.args.objects.now) c.args.pairs.now) c.each.invariant

pub each-preserved : goal.each-preserved
each-preserved c =
    all_so_far (are_apart_by c.args.objects.now) c.args.pairs.now c.each.pair-index c.pair-item.result (omega arith) c.pair-item.is
    (other_codes c.code.result c.code-in-each.result _ _ c.code.ensures c.code-in-each.ensures c.if-code.false) (list_all (are_apart_by c.args.objects.now) c.args.pairs.now) c.each.invariant
