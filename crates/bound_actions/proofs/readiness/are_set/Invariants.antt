use Rattle.std.proofs.Common.{◌≡◌, drop}
use Rattle.std.specs.List.{list_all}
use Rattle.bound_actions.specs.Patterns.{is_set_by}
use Rattle.bound_actions.proofs.readiness.are_set.Given as goal

abbrev pub invariant-each : goal.invariant-each
invariant-each l = list_all (is_set_by l.objects) (drop l.read-index l.reads) ≡ list_all (is_set_by l.objects) l.reads
