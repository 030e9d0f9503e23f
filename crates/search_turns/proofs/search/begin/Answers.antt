use Rattle.std.proofs.Common.{◌≡◌, ◌++◌, ◌+◌, ◌≤◌, [], ◌∷◌, refl, ap, ◌∙◌, arith}
use Rattle.std.specs.Prelude.{vec_len, vec_capacity}
use Rattle.search_runs.specs.declared.events.Event.TheVariants.{Start}
use Rattle.search_turns.proofs.Counting.{counted_as, counted_start}
use Rattle.search_turns.proofs.search.begin.Goals as goal

pub invariant_of-result : goal.invariant_of-result
invariant_of-result c =
    let items = c.record.ensures.items ∙ ap (λ k. k ++ Start ∷ []) (c.make_room.ensures.items ∙ c.new-journal.ensures.items) in
    let len : vec_len c.record.new.journal ≡ 1 = omega (arith, c.record.ensures.len, c.make_room.ensures.len, c.new-journal.ensures.len) in
    let room : 0 + (c.args.workers + 1) ≤ vec_capacity c.record.new.journal = omega (arith, c.in-Ok.ensures.ok, c.make_room.ensures.len, c.new-journal.ensures.len, c.record.ensures.capacity) in
    counted_as c.args.limit c.args.workers (vec_capacity c.record.new.journal) items refl refl len (counted_start c.args.limit c.args.workers (vec_capacity c.record.new.journal) c.requires.workers room)
