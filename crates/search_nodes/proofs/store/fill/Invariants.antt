use Rattle.std.proofs.Common.{◌≡◌, ◌≤◌, ◌++◌, map, length, vec_len, vec_capacity}
use Rattle.search_nodes.specs.Tables.{node_of}
use Rattle.search_nodes.proofs.store.fill.Given as goal

abbrev pub invariant-each : goal.invariant-each
invariant-each l =
    record {
      left : l.yielded ++ l.state-iterator ≡ l.fn.table;
      made : l.nodes.items ≡ map node_of l.yielded;
      len : vec_len l.nodes ≡ length l.yielded;
      room : length l.fn.table ≤ vec_capacity l.nodes;
    }
