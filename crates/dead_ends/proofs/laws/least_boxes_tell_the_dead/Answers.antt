use Rattle.std.proofs.lemmas.Bool.{both_ways}
use Rattle.box_model.specs.Hold.{may_hold}
use Rattle.dead_ends.proofs.laws.least_boxes_tell_the_dead.Goals as goal

pub returns-clause-live : goal.returns-clause-live
returns-clause-live c = λ t s b least may dead.
    let own = c.least_boxes_in_dead_ones_are_dead.ensures t b dead.0 s least dead.1 dead.2 in
    both_ways (may_hold t.places b t.raw.goal) own.misses_goal may

pub returns-clause-dead : goal.returns-clause-dead
returns-clause-dead c = λ t s b least misses.
    (b, record { a_box = least.a_box; closed = least.closed; misses_goal = misses }, least.contains)
