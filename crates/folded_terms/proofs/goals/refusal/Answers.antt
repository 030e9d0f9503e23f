use Rattle.folded_terms.proofs.SeenTerms.{memory_of_goal, place_of_goal, range_of_goal}
use Rattle.folded_terms.proofs.goals.refusal.Goals as goal

pub returns-in-Divide : goal.returns-in-Divide
returns-in-Divide c = λ p set h. place_of_goal p c.args.fault c.in-Divide.place c.in-Divide.is set h

pub returns-in-Ok : goal.returns-in-Ok
returns-in-Ok c = λ p set h. range_of_goal p c.in-Ok.text c.in-Ok.ensures c.args.fault c.in-OutOfRange.is set h

pub returns-in-Err : goal.returns-in-Err
returns-in-Err c = λ p set h. memory_of_goal p

pub returns-in-NoMemory : goal.returns-in-NoMemory
returns-in-NoMemory c = λ p set h. memory_of_goal p
