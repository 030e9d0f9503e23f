use Rattle.pair_task.proofs.Tasks.{same_task}
use Rattle.pair_task.proofs.laws.texts_have_one_task.Goals as goal

pub returns : goal.returns
returns c = λ domain problem task other few fewer. same_task domain problem few fewer task other
