use Rattle.std.proofs.Common.{◌≡◌, ◌++◌, drop, map}
use Rattle.std.specs.Prelude.{flat_map}
use Rattle.ground_meaning.specs.Tasks.{action_facts}
use Rattle.coded_actions.specs.Coded.{action_of}
use Rattle.numbering.proofs.facts.add_actions.Given as goal

abbrev pub invariant-each : goal.invariant-each
invariant-each l =
    l.codes.items ++ flat_map action_facts (map action_of (drop l.action-index l.actions))
    ≡ l.initial.codes.items ++ flat_map action_facts (map action_of l.actions)
