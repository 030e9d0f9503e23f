use Rattle.std.proofs.Common.{List, subst, sym, arith}
use Rattle.box_model.specs.Boxes.{Contains}
use Rattle.box_model.specs.declared.state_box.StateBox.{StateBox}
use Rattle.search_runs.specs.Spaces.{IsAt}
use Rattle.kept_boxes.proofs.Groups.{all_missed, same_large}
use Rattle.kept_boxes.proofs.boxes.KeptBoxes.misses_large.Goals as goal

pub returns : goal.returns
returns c = λ missed k other low high at contains.
    all_missed 256 (λ b. Contains c.args.task.now.places b c.args.state.now) c.args.at c.self.inside.boxes.items c.self.inside.large.items c.self.invariant.by_large (c.misses_group.ensures missed) k other
    (same_large c.args.at k (omega arith) low high) (subst (λ (bs : List StateBox). IsAt bs k other) (sym c.self.view_is) at) contains
