use Rattle.ground_task.proofs.PackedOrder.{cmp-packed}
use Rattle.ground_task.proofs.row.Row.cmp_facts.Goals as goal

pub returns : goal.returns
returns c =
    let e = cmp-packed c.args.self.now.facts c.args.other.now.facts in
    cc
