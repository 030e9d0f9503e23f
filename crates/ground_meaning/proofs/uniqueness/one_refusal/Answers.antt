use Rattle.ground_meaning.proofs.OneRefusal.{one_refusal}
use Rattle.ground_meaning.proofs.uniqueness.one_refusal.Goals as goal

pub returns : goal.returns
returns c = λ p readable f g a b real also. one_refusal p readable f g a b real also
