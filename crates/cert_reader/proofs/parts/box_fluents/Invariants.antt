use Rattle.cert_reader.specs.Spelling.{fluents_of_box, fluents_of}
use Rattle.cert_reader.specs.internal.Fronts.{AreRead}
use Rattle.cert_reader.proofs.parts.box_fluents.Given as goal

abbrev pub invariant-each : goal.invariant-each
invariant-each l = AreRead (fluents_of_box l.version) (fluents_of l.task) l.fluent l.line l.fluents l.rest
