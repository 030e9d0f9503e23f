use Rattle.plan_text.proofs.Written.{written_read, ground_text_spells}
use Rattle.plan_text.proofs.laws.written_steps_are_read.Goals as goal

pub returns-clause-lines : goal.returns-clause-lines
returns-clause-lines c = written_read

pub returns-clause-ground_text : goal.returns-clause-ground_text
returns-clause-ground_text c = ground_text_spells
