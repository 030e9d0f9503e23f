use Rattle.std.proofs.Common.{◌≡◌, map}
use Rattle.coded_actions.specs.Coded.{effects_of}
use Rattle.ground_meaning.specs.Actions.{as_numeric_effect}
use Rattle.folding.specs.internal.Changes.{all_pending}
use Rattle.folding.proofs.growth.numeric_effects.Given as goal

abbrev pub invariant-each : goal.invariant-each
invariant-each l = effects_of l.nums.items ≡ map as_numeric_effect (all_pending l.yielded)
