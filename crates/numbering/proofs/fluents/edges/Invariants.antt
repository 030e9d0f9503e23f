use Rattle.std.proofs.Common.{◌≡◌, ◌++◌, drop, map}
use Rattle.std.specs.Prelude.{flat_map}
use Rattle.coded_actions.specs.Coded.{action_of}
use Rattle.numbering.specs.internal.Closures.{action_edges}
use Rattle.numbering.proofs.fluents.edges.Given as goal

abbrev pub invariant-each : goal.invariant-each
invariant-each l =
    l.edges.items ++ flat_map action_edges (map action_of (drop l.action-index l.actions)) ≡ flat_map action_edges (map action_of l.actions)
