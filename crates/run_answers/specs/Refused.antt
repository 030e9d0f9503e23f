-- The answer to what isn't accepted.
use Rattle.pair_text.specs.Lines.{refusal_line}
use Rattle.pair_text.specs.declared.refusals.Refusal.{Refusal}
use Rattle.run_answers.specs.declared.answers.Answer.{Answer}

unfoldable pub refused : Refusal → Answer
refused refusal = record { status = 4; text = refusal_line refusal }
