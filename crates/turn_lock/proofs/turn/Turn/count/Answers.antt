use Rattle.std.proofs.Common.{rules, subst, sym}
use mathlib.Core.Option.{none}
use Rattle.atomic_table.specs.Table.{Allows, step}
use Rattle.turn_lock.specs.Turns.{Kept, looked}
use Rattle.turn_lock.specs.Locks.{origin, seats_of, lock_id}
use Rattle.turn_lock.specs.Seats.{seen_by, known_length}
use Rattle.turn_lock.proofs.TurnSteps.{looks}
use Rattle.turn_lock.proofs.turn.Turn.count.Goals as goal

pub load-length-requires : goal.load-length-requires
load-length-requires g c = let t = g.T.Told in let lock = c.args.self.now in let slots = (lock_id lock).slots in (
  search rules,
  search rules,
  subst (λ m. Allows (Kept t.terms t.journal (origin lock) (seats_of lock)) slots c.into_place-worker.result.1.id m 0 (λ n. n) (looked (step slots 0 0 0 none) m)) (sym c.into_place-worker.ensures.place.1)
      (looks t.terms t.journal (origin lock) (seats_of lock) slots c.into_place-worker.result.1.id c.args.seat.worker (seen_by c.args.seat) (known_length c.args.seat)),
)
