use Rattle.std.proofs.Common.{◌≡◌, drop}
use Rattle.std.specs.List.{list_all}
use Rattle.bound_actions.specs.Patterns.{are_apart_by}
use Rattle.bound_actions.proofs.readiness.are_apart.Given as goal

abbrev pub invariant-each : goal.invariant-each
invariant-each l = list_all (are_apart_by l.objects) (drop l.pair-index l.pairs) ≡ list_all (are_apart_by l.objects) l.pairs
