use Rattle.std.proofs.Common.{◌≡◌, ◌++◌, ◌+◌, ◌<◌, ◌≤◌, None, [], ◌∷◌, refl, ap, subst, sym, ◌∙◌, arith}
use Rattle.std.specs.Prelude.{vec_len, vec_capacity}
use Rattle.search_runs.specs.declared.events.Event.TheVariants.{Take}
use Rattle.search_turns.proofs.Counting.{counted_as, counted_take}
use Rattle.search_turns.proofs.Taking.{taken_from}
use Rattle.search_turns.specs.Turns.{CanTake, IsTaken, Turns, answer_in}
use Rattle.search_turns.proofs.search.SearchTurns.take_node.Goals as goal

pub invariant_of-self-2 : goal.invariant_of-self-2
invariant_of-self-2 c =
    let s = c.self.inside in
    let can = subst (λ (v : Turns). CanTake v c.args.node) (sym c.self.view_is) c.requires.can in
    let less : s.takes < s.limit = omega (arith, can.1, c.self.invariant.takes_are) in
    let room : vec_len s.journal + (s.workers + 1) ≤ vec_capacity c.record.new.journal = omega (arith, c.in_ok-make_room.ensures.ok, c.make_room.ensures.len, c.record.ensures.capacity) in
    counted_as s.limit s.workers (vec_capacity c.record.new.journal)
    (c.record.ensures.items ∙ ap (λ k. k ++ Take c.args.worker c.args.node ∷ []) c.make_room.ensures.items) refl refl (c.record.ensures.len ∙ ap (λ k. k + 1) c.make_room.ensures.len)
    (counted_take s.journal.items s.limit s.workers s.takes s.starved (vec_len s.journal) (vec_capacity s.journal) (vec_capacity c.record.new.journal) c.args.worker c.args.node c.self.invariant less room)

pub returns-clause-ok : goal.returns-clause-ok
returns-clause-ok c =
    let s = c.self.inside in
    let t : Turns = record { table = s.nodes; limit = s.limit; workers = s.workers; journal = s.journal.items } in
    let new : Turns = record { table = c.take.new.self; limit = s.limit; workers = s.workers; journal = c.record.new.journal.items } in
    let worker = subst (λ (v : Turns). c.args.worker < v.workers) (sym c.self.view_is) c.requires.worker in
    let going = subst (λ (v : Turns). answer_in v ≡ None) (sym c.self.view_is) c.requires.going in
    let can = subst (λ (v : Turns). CanTake v c.args.node) (sym c.self.view_is) c.requires.can in
    subst (λ (v : Turns). IsTaken c.args.worker c.args.node c.in_ok-state.state v new) c.self.view_is
    (taken_from c.args.worker c.args.node c.in_ok-state.state t c.take.new.self c.record.new.journal.items worker going can c.take.ensures
    (c.record.ensures.items ∙ ap (λ k. k ++ Take c.args.worker c.args.node ∷ []) c.make_room.ensures.items) (c.state.ensures.0, c.state.ensures.1, c.state.ensures.2 ∙ sym c.in_ok-state.ensures))
