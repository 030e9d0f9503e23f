use Rattle.pair_text.proofs.OneReason.{one_pair, one_reason, pair_or_reason, some_answer}
use Rattle.pair_text.proofs.laws.texts_have_one_answer.Goals as goal

pub returns-clause-some : goal.returns-clause-some
returns-clause-some c = some_answer

pub returns-clause-pair : goal.returns-clause-pair
returns-clause-pair c = one_pair

pub returns-clause-pair_or_reason : goal.returns-clause-pair_or_reason
returns-clause-pair_or_reason c = pair_or_reason

pub returns-clause-reason : goal.returns-clause-reason
returns-clause-reason c = one_reason
