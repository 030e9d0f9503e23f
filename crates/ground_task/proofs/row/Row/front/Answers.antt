use Rattle.ground_task.proofs.StateRows.{front_within, taken_front, words_of}
use Rattle.ground_task.proofs.row.Row.front.Goals as goal

pub slice_bounds-result-end : goal.slice_bounds-result-end
slice_bounds-result-end c =
    let r = c.self.inside in
    let are = words_of r.words.items r.facts r.values r.is_wide c.args.self.now c.self.invariant c.self.view_is in
    front_within r.words.items r.facts r.values r.is_wide c.args.self.now are _ _ c.div_ceil.ensures c.as_slice.ensures.value

pub returns : goal.returns
returns c =
    let r = c.self.inside in
    let are = words_of r.words.items r.facts r.values r.is_wide c.args.self.now c.self.invariant c.self.view_is in
    taken_front r.words.items r.facts r.values r.is_wide c.args.self.now are _ _ c.div_ceil.ensures c.as_slice.ensures.value
