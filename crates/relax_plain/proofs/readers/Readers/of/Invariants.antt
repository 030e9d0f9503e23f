use Rattle.relax_plain.specs.Reads.{AreReadersBelow}
use Rattle.relax_plain.proofs.readers.Readers.of.Given as goal

abbrev pub invariant-each : goal.invariant-each
invariant-each l = AreReadersBelow l.task l.number l.readers.facts.items l.readers.fluents.items
