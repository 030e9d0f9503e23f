use Rattle.std.proofs.Common.{◌≡◌, map, take}
use Rattle.ground_meaning.specs.Tasks.{numbered_condition}
use Rattle.coded_actions.specs.Coded.{condition_of}
use Rattle.numbering.proofs.numbers.+numbered_conditions.Given as goal

abbrev pub invariant-members-each : goal.invariant-members-each
invariant-members-each l =
    l.numbered.items ≡ map (λ c. numbered_condition l.codes.facts.items l.codes.fluents.items (condition_of c)) (take l.cond-index l.conds)
