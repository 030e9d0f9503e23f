use Rattle.std.proofs.Common.{◌≡◌, drop}
use Rattle.simple_atoms.specs.Forms.{scaled_terms}
use Rattle.simple_atoms.proofs.Loops.{after}
use Rattle.simple_atoms.proofs.forms.scaled_terms.Given as goal

abbrev pub invariant-each : goal.invariant-each
invariant-each l = after l.products (scaled_terms l.factor (drop l.term-index l.terms)) ≡ scaled_terms l.factor l.terms
