use Rattle.std.proofs.Common.{◌≡◌, ◌++◌, drop}
use Rattle.std.specs.Prelude.{flat_map}
use Rattle.ground_meaning.specs.Tasks.{condition_fluents}
use Rattle.coded_actions.specs.Coded.{condition_of}
use Rattle.numbering.proofs.reads.+read_conditions.Given as goal

abbrev pub invariant-add_members-each : goal.invariant-add_members-each
invariant-add_members-each l =
    l.codes.items ++ flat_map (λ c. condition_fluents (condition_of c)) (drop l.cond-index l.conds)
    ≡ l.initial.codes.items ++ flat_map (λ c. condition_fluents (condition_of c)) l.conds
