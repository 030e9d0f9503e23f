use Rattle.std.proofs.Common.{◌≡◌, ◌++◌, drop, map}
use Rattle.std.specs.Prelude.{flat_map}
use Rattle.ground_meaning.specs.Tasks.{condition_fluents}
use Rattle.coded_actions.specs.Coded.{action_of, condition_of}
use Rattle.numbering.specs.internal.Closures.{starting_fluents}
use Rattle.numbering.proofs.fluents.starts.Given as goal

abbrev pub invariant-each : goal.invariant-each
invariant-each l =
    l.codes.items ++ flat_map (λ a. condition_fluents a.pre) (map action_of (drop l.action-index l.actions))
    ≡ starting_fluents (map action_of l.actions) (condition_of l.goal)
