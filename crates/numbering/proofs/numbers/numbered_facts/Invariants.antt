use Rattle.std.proofs.Common.{◌≡◌, map, take}
use Rattle.ground_meaning.specs.Tasks.{number_in}
use Rattle.numbering.proofs.numbers.numbered_facts.Given as goal

abbrev pub invariant-each : goal.invariant-each
invariant-each l = l.numbers.items ≡ map (number_in l.facts) (take l.fact-index l.named)
