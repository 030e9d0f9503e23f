use Rattle.std.proofs.Common.{◌≡◌, drop}
use Rattle.num_ends.specs.Decimal.{origin}
use Rattle.simple_atoms.specs.Values.{growth, weighted}
use Rattle.simple_atoms.proofs.atoms.growth_of.Given as goal

abbrev pub invariant-each : goal.invariant-each
invariant-each l = weighted (growth l.action) l.total (drop l.term-index l.terms) ≡ weighted (growth l.action) origin l.terms
