use Rattle.std.proofs.Common.{◌≡◌, Some}
use Rattle.turn_lock.specs.Locks.{origin}
use Rattle.turn_lock.proofs.turn.Turn.take.Given as goal

abbrev pub invariant-tries : goal.invariant-tries
invariant-tries g l = (goal.iterator-tries g).can_next l.iterator' × (goal.iterator-tries g).is_finite l.iterator' × (l.place.table_id ≡ l.initial.place.table_id) × (l.place.me ≡ l.initial.place.me)

abbrev pub ghosts-try_turn : goal.ghosts-try_turn
ghosts-try_turn g a = record { said = Some (origin a.self.now) }
