use Rattle.std.proofs.Common.{◌≡◌, ◌≤◌, length, take}
use Rattle.search_nodes.specs.Tables.{WithNodes}
use Rattle.search_nodes.proofs.nodes.SearchNodes.cut.Given as goal

abbrev pub invariant-each : goal.invariant-each
invariant-each l =
    record {
      front : WithNodes (take l.len l.self.nodes) l.self ≡ WithNodes (take l.len l.fn.self.nodes) l.fn.self;
      few : l.len ≤ length l.self.nodes;
    }

abbrev pub decreases-each : goal.decreases-each
decreases-each l = length l.self.nodes
