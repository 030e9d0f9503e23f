use Rattle.std.proofs.Common.{◌≡◌, map, take}
use Rattle.ground_meaning.specs.Tasks.{numbered_action}
use Rattle.coded_actions.specs.Coded.{action_of}
use Rattle.numbering.proofs.numbers.numbered_actions.Given as goal

abbrev pub invariant-each : goal.invariant-each
invariant-each l = l.numbered.items ≡ map (numbered_action l.codes.facts.items l.codes.fluents.items) (map action_of (take l.action-index l.actions))
