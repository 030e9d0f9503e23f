use Rattle.std.proofs.Common.{map, subst}
use Rattle.search_nodes.specs.Tables.{HasLeast, NoneWaits, node_of}
use Rattle.search_nodes.proofs.Frontiers.{least_of, none_waits}
use Rattle.search_nodes.proofs.nodes.SearchNodes.least.Goals as goal

pub returns-in-Some : goal.returns-in-Some
returns-in-Some c =
    let h = c.in-Some.field-0-0 in
    let n = c.in-Some.node in
    subst (λ v. HasLeast v.nodes n) c.self.view_is
    (h, least_of c.self.inside.frontier (map node_of c.self.inside.table) h n c.self.invariant.waiting c.in-Some.ensures)

pub returns-in-None : goal.returns-in-None
returns-in-None c =
    subst (λ v. NoneWaits v.nodes) c.self.view_is
    (none_waits c.self.inside.frontier (map node_of c.self.inside.table) c.self.invariant.waiting c.in-None.ensures)
