use Rattle.answer_text.proofs.OneText.{one_text}
use Rattle.answer_text.proofs.Told.{has_text}
use Rattle.answer_text.proofs.laws.answers_have_one_text.Goals as goal

pub returns : goal.returns
returns c = record { one = one_text; some = has_text }
