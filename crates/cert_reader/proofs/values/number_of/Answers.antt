use Rattle.cert_reader.proofs.InCuts.{on_option}
use Rattle.cert_reader.proofs.Numbers.{no_number, a_number}
use Rattle.cert_reader.proofs.values.number_of.Goals as goal

pub returns-in-Some : goal.returns-in-Some
returns-in-Some c =
    on_option _ _ _ _ c.at_places.result c.at_places.ensures (no_number c.args.places c.args.text.now c.in-Some.d c.in-Some.ensures)
    (λ value is. a_number c.args.places c.args.text.now c.in-Some.d c.in-Some.ensures value.n is)

pub returns-in-None : goal.returns-in-None
returns-in-None c = λ n is. c.in-None.ensures is.0 is.1
