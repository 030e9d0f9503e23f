use Rattle.node_table.proofs.Places.{are_apart}
use Rattle.node_table.proofs.table.NodeTable.len.Goals as goal

pub returns-clause-apart : goal.returns-clause-apart
returns-clause-apart g c = rw (← c.self.view_is) (are_apart c.self.inside.table.entries c.len.ensures.unique)
