use Rattle.node_table.proofs.Places.{pair_of}
use Rattle.node_table.proofs.table.NodeTable.payload.Goals as goal

pub returns : goal.returns
returns g c = rw (← c.self.view_is) (pair_of c.self.inside.table.entries c.args.node c.index.result.now c.index.ensures)
