use Rattle.folded_terms.proofs.SeenTerms.{memory_of_goal, text_of_goal}
use Rattle.folded_terms.proofs.goals.fold_goal.Goals as goal

pub returns-in-Ok-Some : goal.returns-in-Ok-Some
returns-in-Ok-Some c = text_of_goal c.args.checked.now c.in-Ok-Some.text c.in-Ok-Some.field-0 c.in-Ok-Some.field-0-is c.in-Ok-Some.ensures

pub returns-in-Err : goal.returns-in-Err
returns-in-Err c = memory_of_goal c.args.checked.now
