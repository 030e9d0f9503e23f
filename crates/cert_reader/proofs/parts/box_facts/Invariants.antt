use Rattle.cert_reader.specs.Spelling.{facts_of_box}
use Rattle.cert_reader.specs.internal.Fronts.{AreRead}
use Rattle.cert_reader.proofs.parts.box_facts.Given as goal

abbrev pub invariant-each : goal.invariant-each
invariant-each l = AreRead (facts_of_box l.version) l.names l.name-index l.line l.facts l.rest
