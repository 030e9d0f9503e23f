use Rattle.enhsp_words.proofs.Parsing.{refused, taken}
use Rattle.enhsp_words.proofs.command_line.parse.Goals as goal

pub returns-in-Ok-try_get_matches_from : goal.returns-in-Ok-try_get_matches_from
returns-in-Ok-try_get_matches_from c =
    let found = c.in-Ok-try_get_matches_from in
    taken _ _ found.matches c.in-Ok.ensures found.ensures.matches found.ensures.kinds

pub returns-in-Err : goal.returns-in-Err
returns-in-Err c = λ usage. refused _ _ c.in-Err.error c.in-Ok.ensures c.in-Err.ensures.kinds (c.cause_of.ensures usage)
