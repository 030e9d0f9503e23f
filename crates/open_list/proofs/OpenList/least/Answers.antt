use Rattle.open_list.proofs.Pairs.{IsLeast-from_list}
use Rattle.open_list.proofs.OpenList.least.Goals as goal

pub returns-in-Some : goal.returns-in-Some
returns-in-Some c =
    rw (← c.self.view_is) (IsLeast-from_list c.self.inside.pairs.keys c.in-Some.pair.now c.in-Some.ensures.member c.in-Some.ensures.least)
