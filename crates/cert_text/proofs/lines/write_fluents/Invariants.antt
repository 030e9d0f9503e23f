use Rattle.std.proofs.Common.{◌≡◌, ◌++◌, take}
use Rattle.cert_text.specs.Lines.{version_fluent_parts}
use Rattle.cert_text.proofs.lines.write_fluents.Given as goal

abbrev pub invariant-each : goal.invariant-each
invariant-each l =
    l.out ≡ l.fn.out ++ version_fluent_parts l.version (take l.number l.names) (take l.number l.fluents)
