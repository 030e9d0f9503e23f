use Rattle.type_order.proofs.Climbs.{descends_from, descends_to}
use Rattle.type_order.proofs.laws.descent_is_tested.Goals as goal

pub returns : goal.returns
returns c = λ types k q. (descends_from types k q, descends_to types k q)
