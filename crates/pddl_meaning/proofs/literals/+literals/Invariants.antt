use Rattle.std.proofs.Common.{◌≡◌, drop}
use Rattle.std.specs.List.{list_all}
use Rattle.pddl_meaning.specs.Truth.{literals_true}
use Rattle.pddl_meaning.proofs.literals.+literals.Given as goal

abbrev pub invariant-all_literals_true-each : goal.invariant-all_literals_true-each
invariant-all_literals_true-each l =
    list_all (λ c. literals_true l.binding.params.now l.binding.args.now l.binding.world.now c l.polarity) (drop l.cond-index l.conds)
    ≡ list_all (λ c. literals_true l.binding.params.now l.binding.args.now l.binding.world.now c l.polarity) l.conds
