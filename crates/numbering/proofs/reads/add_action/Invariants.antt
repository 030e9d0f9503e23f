use Rattle.std.proofs.Common.{◌≡◌, ◌++◌, drop}
use Rattle.std.specs.Prelude.{flat_map}
use Rattle.coded_actions.specs.Coded.{effects_of}
use Rattle.numbering.specs.internal.Closures.{effect_edges}
use Rattle.numbering.proofs.reads.add_action.Given as goal

abbrev pub invariant-each : goal.invariant-each
invariant-each l =
    l.edges.items ++ flat_map effect_edges (effects_of (drop l.effect-index l.action.nums))
    ≡ l.initial.edges.items ++ flat_map effect_edges (effects_of l.action.nums)
