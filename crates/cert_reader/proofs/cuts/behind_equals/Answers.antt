use Rattle.cert_reader.proofs.InCuts.{on_option, equals_behind, no_equals}
use Rattle.cert_reader.proofs.cuts.behind_equals.Goals as goal

pub returns-in-Some : goal.returns-in-Some
returns-in-Some c =
    on_option _ _ _ _ c.past-in-Some.result c.past-in-Some.ensures (no_equals c.args.name.now c.args.text.now c.in-Some.rest.now c.in-Some.ensures)
    (λ behind is. equals_behind c.args.name.now c.args.text.now c.in-Some.rest.now c.in-Some.ensures behind.now is)
