use Rattle.std.proofs.Common.{◌≡◌, ◌++◌, drop}
use Rattle.std.specs.Prelude.{option_map}
use Rattle.static_facts.specs.internal.Keys.{object_numbers}
use Rattle.static_facts.proofs.keys.object_numbers.Given as goal

abbrev pub invariant-each : goal.invariant-each
invariant-each l = option_map (λ os. l.numbers.items ++ os) (object_numbers l.checked (drop l.arg-index l.args)) ≡ object_numbers l.checked l.args
