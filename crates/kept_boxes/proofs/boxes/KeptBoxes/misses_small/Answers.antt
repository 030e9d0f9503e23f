use Rattle.std.proofs.Common.{List, subst, sym, arith}
use Rattle.box_model.specs.Boxes.{Contains}
use Rattle.box_model.specs.declared.state_box.StateBox.{StateBox}
use Rattle.search_runs.specs.Spaces.{IsAt}
use Rattle.kept_boxes.proofs.Groups.{all_missed, same_small}
use Rattle.kept_boxes.proofs.boxes.KeptBoxes.misses_small.Goals as goal

pub returns : goal.returns
returns c = λ missed k other low high at contains.
    all_missed 16 (λ b. Contains c.args.task.now.places b c.args.state.now) c.args.at c.self.inside.boxes.items c.self.inside.small.items c.self.invariant.by_sixteen (c.misses_group.ensures missed) k other
    (same_small c.args.at k (omega arith) low high) (subst (λ (bs : List StateBox). IsAt bs k other) (sym c.self.view_is) at) contains
