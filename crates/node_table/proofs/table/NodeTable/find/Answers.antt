use Rattle.std.proofs.Common.{sym}
use Rattle.node_table.proofs.Places.{place_found, place_missing}
use Rattle.node_table.proofs.table.NodeTable.find.Goals as goal

pub returns-in-Some-clause-found : goal.returns-in-Some-clause-found
returns-in-Some-clause-found g c =
    rw (← c.self.view_is) (place_found c.args.state.now c.self.inside.table.entries c.in-Some.index (sym c.in-Some.ensures.index))

pub returns-in-None-clause-absent : goal.returns-in-None-clause-absent
returns-in-None-clause-absent g c =
    rw (← c.self.view_is) (place_missing c.args.state.now c.self.inside.table.entries (sym c.in-None.ensures.index))
