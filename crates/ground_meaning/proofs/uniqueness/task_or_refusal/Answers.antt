use Rattle.ground_meaning.proofs.OneRefusal.{only_memory}
use Rattle.ground_meaning.proofs.uniqueness.task_or_refusal.Goals as goal

pub returns : goal.returns
returns c = λ p readable t grounded placed in_range f refused. only_memory p readable t grounded placed in_range f refused
