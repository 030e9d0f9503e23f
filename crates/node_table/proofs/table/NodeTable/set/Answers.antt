use Rattle.std.proofs.Common.{ap, arith}
use Rattle.indexmap.proofs.CallerLemmas.{index_map_len-with_value_at}
use Rattle.indexmap.specs.IndexMap.{set_value_at}
use Rattle.node_table.proofs.table.NodeTable.set.Goals as goal

pub invariant_of-self : goal.invariant_of-self
invariant_of-self g c =
    let same = index_map_len-with_value_at c.self.inside.table c.args.node c.args.payload in
    omega (arith, same, c.self.invariant)

pub returns : goal.returns
returns g c = ap (λ nodes. set_value_at nodes c.args.node c.args.payload) c.self.view_is
