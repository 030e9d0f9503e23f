use Rattle.std.proofs.Common.{◌∙◌, sym}
use Rattle.std.proofs.lemmas.Bool.{false_from_ne_true, both_ways}
use Rattle.box_model.specs.Hold.{may_hold}
use Rattle.box_model.proofs.ReadLemmas.{all_fit}
use Rattle.box_model.proofs.Monotony.{hold_wider}
use Rattle.box_model.proofs.laws.least_boxes_in_dead_ones_are_dead.Goals as goal

pub returns : goal.returns
returns c = λ t b dead s least is inside.
    let within = least.least dead is.a_box inside is.closed in
    record {
      a_box = least.a_box;
      closed = least.closed;
      misses_goal = false_from_ne_true (may_hold t.places b t.raw.goal) (λ h.
          both_ways (may_hold t.places dead t.raw.goal) is.misses_goal
          (hold_wider t.places b dead within (all_fit t b least.a_box) (all_fit t dead is.a_box) least.a_box.inhabited t.raw.goal h));
    }
