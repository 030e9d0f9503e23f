use Rattle.std.proofs.Common.{◌≡◌, ◌≤◌, drop, length, ◌-◌}
use Rattle.pddl_meaning.specs.Steps.{all_fit}
use Rattle.pddl_meaning.proofs.steps.all_fit.Given as goal

abbrev pub invariant-each : goal.invariant-each
invariant-each l = (all_fit l.checked (drop l.place l.params) (drop l.place l.args) ≡ all_fit l.checked l.params l.args) × (l.place ≤ length l.params) × (l.place ≤ length l.args)

abbrev pub decreases-each : goal.decreases-each
decreases-each l = length l.params - l.place
