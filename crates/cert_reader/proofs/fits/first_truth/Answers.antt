use Rattle.cert_reader.specs.Spelling.{facts_of_state}
use Rattle.cert_reader.proofs.InKinds.{state_facts_plain, told_first, must_be_told}
use Rattle.cert_reader.proofs.fits.first_truth.Goals as goal

pub returns-in-Some : goal.returns-in-Some
returns-in-Some c =
    told_first facts_of_state state_facts_plain c.args.name.now c.args.line.now c.in-Some.parts.0.now c.in-Some.parts.1.now c.in-Some.ensures (λ r. (r.0, r.1.now)) c.told_truth.result c.told_truth.ensures

pub returns-in-None : goal.returns-in-None
returns-in-None c = must_be_told facts_of_state c.args.name.now c.args.line.now c.in-None.ensures (λ x lacks. lacks)
