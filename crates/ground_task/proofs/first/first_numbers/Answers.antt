use Rattle.ground_task.proofs.FirstState.{first_in_range_more, first_numbers_more}
use Rattle.ground_task.proofs.first.first_numbers.Goals as goal

pub each-preserved : goal.each-preserved
each-preserved c =
    let number = c.in-Ok.ensures.0 in
    (first_numbers_more _ _ c.each.i _ _ c.in-Ok.value.n number c.in_ok-push_number-in-Ok.ensures c.each.invariant.0, first_in_range_more _ _ c.each.i c.in-Ok.value.n number c.in-Ok.ensures.1 c.each.invariant.1)
