use Rattle.std.proofs.Common.{◌≡◌, ◌<◌, false, refl, subst, sym}
use Rattle.std.specs.Prelude.{vec_len, vec_capacity}
use Rattle.search_runs.specs.Runs.{has_starved}
use Rattle.search_turns.proofs.Counting.{counted_as, counted_starve, starve_room}
use Rattle.search_turns.specs.Turns.{Turns}
use Rattle.search_turns.proofs.search.SearchTurns.starve.Goals as goal

pub record-requires : goal.record-requires
record-requires c =
    let s = c.self.inside in
    let worker = subst (λ (v : Turns). c.args.worker < v.workers) (sym c.self.view_is) c.requires.worker in
    let once = subst (λ (v : Turns). has_starved c.args.worker v.journal ≡ false) (sym c.self.view_is) c.requires.once in
    record { room = starve_room s.journal.items s.limit s.workers s.takes s.starved (vec_len s.journal) (vec_capacity s.journal) c.args.worker c.self.invariant worker once }

pub invariant_of-self : goal.invariant_of-self
invariant_of-self c =
    let s = c.self.inside in
    let worker = subst (λ (v : Turns). c.args.worker < v.workers) (sym c.self.view_is) c.requires.worker in
    let once = subst (λ (v : Turns). has_starved c.args.worker v.journal ≡ false) (sym c.self.view_is) c.requires.once in
    counted_as s.limit s.workers (vec_capacity c.record.new.journal) c.record.ensures.items refl refl c.record.ensures.len
    (counted_starve s.journal.items s.limit s.workers s.takes s.starved (vec_len s.journal) (vec_capacity s.journal) (vec_capacity c.record.new.journal) c.args.worker c.self.invariant worker once c.record.ensures.capacity)
