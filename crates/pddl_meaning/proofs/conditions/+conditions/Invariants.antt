use Rattle.std.proofs.Common.{◌≡◌, drop}
use Rattle.pddl_meaning.specs.declared.answers.Holds.TheVariants.{Yes, No}
use Rattle.pddl_meaning.specs.Truth.{ranged_truth}
use Rattle.pddl_meaning.specs.internal.Connectives.{truth_of_all, truth_of_any}
use Rattle.pddl_meaning.proofs.conditions.+conditions.Given as goal

abbrev pub invariant-truth_of_all-each : goal.invariant-truth_of_all-each
invariant-truth_of_all-each l =
    truth_of_all (ranged_truth l.binding.params.now l.binding.args.now l.binding.world.now) l.all (drop l.cond-index l.conds)
    ≡ truth_of_all (ranged_truth l.binding.params.now l.binding.args.now l.binding.world.now) Yes l.conds

abbrev pub invariant-truth_of_any-each : goal.invariant-truth_of_any-each
invariant-truth_of_any-each l =
    truth_of_any (ranged_truth l.binding.params.now l.binding.args.now l.binding.world.now) l.any (drop l.cond-index l.conds)
    ≡ truth_of_any (ranged_truth l.binding.params.now l.binding.args.now l.binding.world.now) No l.conds
