use Rattle.std.proofs.Common.{◌≡◌, ◌≤◌, ◌-◌, ◌++◌, length}
use Rattle.pddl_types.specs.Pairs.{objects_of}
use Rattle.static_facts.specs.Bindings.{fitting}
use Rattle.binder.proofs.Fitted.{fitting_from}
use Rattle.binder.proofs.levels.fitting.Given as goal

abbrev pub invariant-each : goal.invariant-each
invariant-each l = record {
  rest : l.objects.items ++ fitting_from l.checked l.param l.object (length (objects_of l.checked) - l.object) ≡ fitting l.checked l.param;
  few : length l.objects.items ≤ l.object;
}
