use Rattle.std.proofs.Common.{◌<◌, ◌^◌, ap, subst, ◌∙◌}
use Rattle.name_table.specs.Tables.{is_text_among}
use Rattle.type_order.proofs.Jumps.{ends_are_cycles}
use Rattle.type_order.proofs.cycles.Cycles.find.Goals as goal

pub invariant_of-result : goal.invariant_of-result
invariant_of-result c =
    λ k. ap (is_text_among k) c.in_ok-ends.ensures
    ∙ ends_are_cycles c.args.order c.doublings-doublings.result k (subst (λ n. n < 2 ^ c.doublings-doublings.result) c.count.ensures c.doublings-doublings.ensures)
