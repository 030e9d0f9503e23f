use Rattle.search_core.proofs.Plain.{journals_fix}
use Rattle.search_core.proofs.laws.journals_fix_nodes.Goals as goal

pub returns : goal.returns
returns c = journals_fix
