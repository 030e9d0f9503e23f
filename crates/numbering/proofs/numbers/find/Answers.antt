use Rattle.std.proofs.Common.{Err}
use Rattle.std.proofs.lemmas.List.Sorted.{searched}
use Rattle.numbering.proofs.Ranks.{missing, not_falling}
use Rattle.numbering.proofs.numbers.find.Goals as goal

pub returns-in-Err : goal.returns-in-Err
returns-in-Err c =
    let all = searched c.args.codes.now c.args.code (Err c.in-Err.field-0) c.in-Err.ensures.position (not_falling c.args.codes.now c.requires.rising) in
    missing c.args.codes.now c.args.code c.in-Err.field-0 all.1 all.2
