use Rattle.std.proofs.Common.{◌≡◌, drop}
use Rattle.std.specs.List.{list_all}
use Rattle.pddl_meaning.specs.Truth.{is_defined}
use Rattle.pddl_meaning.proofs.conditions.+definitions.Given as goal

abbrev pub invariant-are_defined-each : goal.invariant-are_defined-each
invariant-are_defined-each l =
    list_all (is_defined l.binding.params.now l.binding.args.now l.binding.world.now) (drop l.cond-index l.conds)
    ≡ list_all (is_defined l.binding.params.now l.binding.args.now l.binding.world.now) l.conds
