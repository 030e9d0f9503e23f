use Rattle.std.proofs.Common.{◌≡◌, drop}
use Rattle.std.specs.List.{list_all}
use Rattle.static_facts.specs.Literals.{is_bound}
use Rattle.binder.proofs.resolve.are_bound.Given as goal

abbrev pub invariant-each : goal.invariant-each
invariant-each l = list_all (is_bound l.scope.params.now) (drop l.arg-index l.args) ≡ list_all (is_bound l.scope.params.now) l.args
