use Rattle.std.proofs.Common.{◌≡◌, ◌++◌, drop}
use Rattle.ground_meaning.specs.Tasks.{numbered_effects}
use Rattle.coded_actions.specs.Coded.{effects_of}
use Rattle.numbering.proofs.numbers.numbered_effects.Given as goal

abbrev pub invariant-each : goal.invariant-each
invariant-each l =
    l.numbered.items ++ numbered_effects l.fluents (effects_of (drop l.effect-index l.effects)) ≡ numbered_effects l.fluents (effects_of l.effects)
