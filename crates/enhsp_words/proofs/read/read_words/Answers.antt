use Rattle.std.proofs.Common.{rules, ◌≡◌}
use Rattle.std.specs.Prelude.{Err}
use Rattle.enhsp_words.proofs.Parsing.{no_line, of_line}
use Rattle.enhsp_words.proofs.read.read_words.Goals as goal

pub returns-in_err-matches : goal.returns-in_err-matches
returns-in_err-matches c =
    let is_err : c.from_residual.result ≡ Err c.in_err-matches.field-0.0 = search rules in
    rw is_err (no_line _ _ c.in_err-matches.ensures)

pub returns : goal.returns
returns c = of_line _ _ c.job.result c.in_ok-matches.ensures c.job.ensures
