use Rattle.cert_reader.specs.Spelling.{fluents_of_box}
use Rattle.cert_reader.proofs.InKinds.{box_fluents_plain, told_first, untold_first}
use Rattle.cert_reader.proofs.fits.first_interval.Goals as goal

pub returns-in-Some : goal.returns-in-Some
returns-in-Some c =
    told_first (fluents_of_box c.args.version) (box_fluents_plain c.args.version) (c.args.name.now, c.args.places) c.args.line.now c.in-Some.parts.0.now c.in-Some.parts.1.now c.in-Some.ensures (λ r. (r.0, r.1.now)) c.told_interval.result c.told_interval.ensures

pub returns-in-None : goal.returns-in-None
returns-in-None c = untold_first (fluents_of_box c.args.version) (c.args.name.now, c.args.places) c.args.line.now c.in-None.ensures (λ r. (r.0, r.1.now)) c.fluent_left_out.result c.fluent_left_out.ensures
