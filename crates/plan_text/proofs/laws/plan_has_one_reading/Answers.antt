use Rattle.plan_text.proofs.Answered.{one_step, none_skipped, one_list, some_answer, read_or_bad, one_bad}
use Rattle.plan_text.proofs.laws.plan_has_one_reading.Goals as goal

pub returns-clause-step : goal.returns-clause-step
returns-clause-step c = one_step

pub returns-clause-skipped : goal.returns-clause-skipped
returns-clause-skipped c = none_skipped

pub returns-clause-steps : goal.returns-clause-steps
returns-clause-steps c = one_list

pub returns-clause-some : goal.returns-clause-some
returns-clause-some c = some_answer

pub returns-clause-steps_or_bad : goal.returns-clause-steps_or_bad
returns-clause-steps_or_bad c = read_or_bad

pub returns-clause-bad : goal.returns-clause-bad
returns-clause-bad c = one_bad
