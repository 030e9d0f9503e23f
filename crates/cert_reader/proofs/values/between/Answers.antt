use Rattle.cert_reader.proofs.InCuts.{on_option}
use Rattle.cert_reader.proofs.Numbers.{none_between, one_between, no_lower_between}
use Rattle.cert_reader.proofs.values.between.Goals as goal

pub returns-in-Some : goal.returns-in-Some
returns-in-Some c =
    on_option _ _ _ _ c.up_to.result c.up_to.ensures (none_between c.args.places c.args.lower.now c.args.upper.now c.in-Some.from c.in-Some.ensures c.requires.no_comma)
    (one_between c.args.places c.args.lower.now c.args.upper.now c.in-Some.from c.in-Some.ensures c.requires.no_comma)

pub returns-in-None : goal.returns-in-None
returns-in-None c = no_lower_between c.args.places c.args.lower.now c.args.upper.now c.requires.no_comma c.in-None.ensures
