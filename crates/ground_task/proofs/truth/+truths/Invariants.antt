use Rattle.std.proofs.Common.{◌≡◌, drop}
use Rattle.ground_task.specs.declared.answers.Truth.TheVariants.{Yes, No}
use Rattle.ground_task.specs.Inside.{truth_of_all, truth_of_any}
use Rattle.ground_task.specs.Ranged.{ranged_truth}
use Rattle.ground_task.proofs.truth.+truths.Given as goal

abbrev pub invariant-truth_of_all-each : goal.invariant-truth_of_all-each
invariant-truth_of_all-each l =
    truth_of_all (ranged_truth l.task l.state) l.all (drop l.cond-index l.conds) ≡ truth_of_all (ranged_truth l.task l.state) Yes l.conds

abbrev pub invariant-truth_of_any-each : goal.invariant-truth_of_any-each
invariant-truth_of_any-each l =
    truth_of_any (ranged_truth l.task l.state) l.any (drop l.cond-index l.conds) ≡ truth_of_any (ranged_truth l.task l.state) No l.conds
