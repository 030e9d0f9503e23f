use Rattle.cert_reader.proofs.InCuts.{on_option, name_behind, no_blank, no_name}
use Rattle.cert_reader.proofs.cuts.behind_name.Goals as goal

pub returns-in-Some : goal.returns-in-Some
returns-in-Some c =
    on_option _ _ _ _ c.behind_equals.result c.behind_equals.ensures (no_name c.args.name.now c.args.line.now c.in-Some.text.now c.in-Some.ensures)
    (λ rest is. name_behind c.args.name.now c.args.line.now c.in-Some.text.now rest.now c.in-Some.ensures is)

pub returns-in-None : goal.returns-in-None
returns-in-None c = no_blank c.args.name.now c.args.line.now c.in-None.ensures
