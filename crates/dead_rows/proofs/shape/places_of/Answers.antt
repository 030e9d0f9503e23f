use Rattle.std.proofs.Common.{ℕ, slice_index_or}
use Rattle.dead_rows.proofs.Steps.{filled}
use Rattle.dead_rows.proofs.shape.places_of.Goals as goal

pub each-preserved : goal.each-preserved
each-preserved c = filled (λ (x : ℕ). slice_index_or c.args.task.now.places x 0) c.each.places.items c.push.new.self.items c.each.fluent c.places.result c.each.invariant c.places.ensures.value c.in_ok-push.ensures.items
