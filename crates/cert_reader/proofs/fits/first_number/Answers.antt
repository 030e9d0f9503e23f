use Rattle.cert_reader.specs.Spelling.{fluents_of_state}
use Rattle.cert_reader.proofs.InKinds.{state_fluents_plain, told_first, must_be_told}
use Rattle.cert_reader.proofs.fits.first_number.Goals as goal

pub returns-in-Some : goal.returns-in-Some
returns-in-Some c =
    told_first fluents_of_state state_fluents_plain (c.args.name.now, c.args.places) c.args.line.now c.in-Some.parts.0.now c.in-Some.parts.1.now c.in-Some.ensures (λ r. (r.0.n, r.1.now)) c.told_number.result c.told_number.ensures

pub returns-in-None : goal.returns-in-None
returns-in-None c = must_be_told fluents_of_state (c.args.name.now, c.args.places) c.args.line.now c.in-None.ensures (λ x lacks. lacks)
