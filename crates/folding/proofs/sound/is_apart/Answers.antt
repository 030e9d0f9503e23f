use Rattle.std.proofs.Common.{arith, sym}
use Rattle.std.specs.List.{list_all}
use Rattle.bound_actions.proofs.Members.{all_so_far, one_fails}
use Rattle.folding.specs.internal.Sound.{are_distinct}
use Rattle.folding.proofs.sound.is_apart.Goals as goal

pub returns-then-not-are_distinct : goal.returns-then-not-are_distinct
returns-then-not-are_distinct c =
    one_fails (are_distinct c.args.objects.now c.args.pattern.now) c.args.later.now c.each.other-index c.other-item.result (omega arith) c.other-item.is (sym c.if-not-are_distinct.ensures)
    (list_all (are_distinct c.args.objects.now c.args.pattern.now) c.args.later.now) c.each.invariant

pub each-preserved : goal.each-preserved
each-preserved c =
    all_so_far (are_distinct c.args.objects.now c.args.pattern.now) c.args.later.now c.each.other-index c.other-item.result (omega arith) c.other-item.is (sym c.if-not-are_distinct.ensures)
    (list_all (are_distinct c.args.objects.now c.args.pattern.now) c.args.later.now) c.each.invariant
