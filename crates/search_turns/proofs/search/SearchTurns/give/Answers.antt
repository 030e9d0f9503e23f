use Rattle.std.proofs.Common.{◌++◌, ◌+◌, ◌≤◌, [], ◌∷◌, refl, ap, ◌∙◌, arith}
use Rattle.std.specs.Prelude.{vec_len, vec_capacity}
use Rattle.search_runs.specs.declared.events.Event.TheVariants.{Give}
use Rattle.search_turns.proofs.Counting.{counted_as, counted_give}
use Rattle.search_turns.proofs.search.SearchTurns.give.Goals as goal

pub invariant_of-self-2 : goal.invariant_of-self-2
invariant_of-self-2 c =
    let room : vec_len c.self.inside.journal + (c.self.inside.workers + 1) ≤ vec_capacity c.record.new.journal = omega (arith, c.in-Ok.ensures.ok, c.make_room.ensures.len, c.record.ensures.capacity) in
    counted_as c.self.inside.limit c.self.inside.workers (vec_capacity c.record.new.journal)
    (c.record.ensures.items ∙ ap (λ k. k ++ Give c.args.worker c.args.node ∷ []) c.make_room.ensures.items) refl refl (c.record.ensures.len ∙ ap (λ k. k + 1) c.make_room.ensures.len)
    (counted_give c.self.inside.journal.items c.self.inside.limit c.self.inside.workers c.self.inside.takes c.self.inside.starved (vec_len c.self.inside.journal) (vec_capacity c.self.inside.journal)
    (vec_capacity c.record.new.journal) c.args.worker c.args.node c.self.invariant room)
