use Rattle.std.proofs.Common.{rules, subst, sym, eqb}
use prog.Atomic.{either}
use mathlib.Core.Option.{none}
use Rattle.atomic_table.specs.Table.{Allows, step}
use Rattle.turn_lock.specs.Turns.{Kept, tried}
use Rattle.turn_lock.specs.Locks.{origin, seats_of, lock_id}
use Rattle.turn_lock.specs.Words.{worker_in, seen_in, known_in}
use Rattle.turn_lock.proofs.TurnSteps.{tries}
use Rattle.turn_lock.proofs.turn.Turn.try_turn.Goals as goal

pub compare_exchange-requires : goal.compare_exchange-requires
compare_exchange-requires g c = let t = g.T.Told in let lock = c.args.self.now in let place = c.args.place.now in let slots = (lock_id lock).slots in (
  search rules,
  search rules,
  subst (λ m. Allows (Kept t.terms t.journal (origin lock) (seats_of lock)) slots place.id m 1 (λ w. either (eqb w 0) 1 w) (tried t.terms t.journal g.K.Origin.said (step slots 1 0 1 none) m)) (sym c.requires.idle)
      (tries t.terms t.journal (origin lock) (seats_of lock) g.K.Origin.said slots place.id (worker_in place.me.0) (seen_in place.me.0) (known_in place.me.0) c.requires.said),
)
