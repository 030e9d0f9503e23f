use Rattle.cert_reader.specs.Spelling.{facts_of_box}
use Rattle.cert_reader.proofs.InKinds.{box_facts_plain, told_first, untold_first}
use Rattle.cert_reader.proofs.fits.first_fact.Goals as goal

pub returns-in-Some : goal.returns-in-Some
returns-in-Some c =
    told_first (facts_of_box c.args.version) (box_facts_plain c.args.version) c.args.name.now c.args.line.now c.in-Some.parts.0.now c.in-Some.parts.1.now c.in-Some.ensures (λ r. (r.0, r.1.now)) c.told_fact.result c.told_fact.ensures

pub returns-in-None : goal.returns-in-None
returns-in-None c = untold_first (facts_of_box c.args.version) c.args.name.now c.args.line.now c.in-None.ensures (λ r. (r.0, r.1.now)) c.fact_left_out.result c.fact_left_out.ensures
