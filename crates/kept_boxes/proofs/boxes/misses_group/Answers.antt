use Rattle.std.proofs.Common.{◌≡◌, Bool, true, false, not, refl, subst}
use Rattle.search_runs.proofs.Places.{at_same}
use Rattle.kept_boxes.specs.Hulls.{IsInside}
use Rattle.kept_boxes.proofs.Groups.{read_at}
use Rattle.kept_boxes.proofs.boxes.misses_group.Goals as goal

not_true : (b : Bool) → not b ≡ true → b ≡ false
not_true true is = cc
not_true false is = refl

pub returns : goal.returns
returns c = λ missed hull b at inside contains.
    let hulls = c.args.hulls.now.items in
    let own = c.index-hull.result.now in
    let one = at_same hulls c.args.group hull own at (read_at hulls c.args.group own c.requires.within c.index-hull.ensures) in
    c.may_contain.ensures (not_true c.may_contain.result missed) b (subst (IsInside b) one inside) contains
