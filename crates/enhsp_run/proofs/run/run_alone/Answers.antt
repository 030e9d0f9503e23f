use Rattle.enhsp_run.specs.Answers.{IsAnswer}
use Rattle.enhsp_run.specs.Ends.{EndsWith}
use Rattle.enhsp_run.specs.Outcomes.{Nothing, Tells}
use Rattle.enhsp_run.proofs.Accepted.{accepted_call}
use Rattle.enhsp_run.proofs.Endings.{ends_by, told_at_sink, told_in_short}
use Rattle.enhsp_run.proofs.Known.{known}
use Rattle.enhsp_run.proofs.run.run_alone.Goals as goal

pub send-requires-clause-small : goal.send-requires-clause-small
send-requires-clause-small g c = λ told tells. known _ _ told (c.in-Ok.ensures.answer.tells told tells)

pub returns-in-Ok-clause-ends : goal.returns-in-Ok-clause-ends
returns-in-Ok-clause-ends g c = λ job texts accepted calm.
    ends_by (Tells c.in-Ok.outcome) (EndsWith job texts) _ _ _ _ c.send.result c.send.ensures.end
    (λ told tells. accepted_call g.F.Files _ _ _ job texts told (c.in-Ok.ensures.answer.tells told tells) accepted calm)

pub returns-in-Ok-clause-cut : goal.returns-in-Ok-clause-cut
returns-in-Ok-clause-cut g c = λ seven.
    told_at_sink (Tells c.in-Ok.outcome) (IsAnswer _ _) _ _ _ c.in-Ok.ensures.answer.tells (c.send.ensures.end.cut seven)

pub returns-in-Ok-clause-no_memory : goal.returns-in-Ok-clause-no_memory
returns-in-Ok-clause-no_memory g c = λ eight.
    let lacks = c.send.ensures.end.no_memory eight in (
      c.in-Ok.ensures.made (c.send.ensures.made eight),
      lacks.0,
      told_in_short (Tells c.in-Ok.outcome) (IsAnswer _ _) _ _ _ c.in-Ok.ensures.answer.tells lacks.1,
    )

pub returns-in-Err-clause-cut : goal.returns-in-Err-clause-cut
returns-in-Err-clause-cut g c = λ seven.
    told_at_sink Nothing (IsAnswer _ _) _ _ _ (λ told none. absurd none) (c.end_without_memory.ensures.cut seven)

pub returns-in-Err-clause-no_memory : goal.returns-in-Err-clause-no_memory
returns-in-Err-clause-no_memory g c = λ eight.
    let lacks = c.end_without_memory.ensures.no_memory eight in
    (c.in-Err.ensures.memory, lacks.0, told_in_short Nothing (IsAnswer _ _) _ _ _ (λ told none. absurd none) lacks.1)
