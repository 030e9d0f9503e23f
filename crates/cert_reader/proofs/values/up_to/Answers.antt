use Rattle.cert_reader.proofs.InCuts.{on_option}
use Rattle.cert_reader.proofs.Numbers.{nothing_up_to, up_to_end}
use Rattle.cert_reader.proofs.values.up_to.Goals as goal

pub returns-in-Some : goal.returns-in-Some
returns-in-Some c =
    on_option _ _ _ _ c.of.result c.of.ensures (nothing_up_to c.args.places c.args.upper.now c.args.from c.in-Some.to c.in-Some.ensures)
    (λ i is. up_to_end c.args.places c.args.upper.now c.args.from c.in-Some.to i c.in-Some.ensures is)

pub returns-in-None : goal.returns-in-None
returns-in-None c = λ to is there. c.in-None.ensures to is
