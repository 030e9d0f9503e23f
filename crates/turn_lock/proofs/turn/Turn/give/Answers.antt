use Rattle.std.proofs.Common.{rules, ◌≡◌, ◌∷◌, [], Some, ap, sym, ◌∙◌, subst}
use mathlib.Core.Option.{none}
use Rattle.atomic_table.specs.Table.{Allows, step, rest}
use Rattle.turn_lock.specs.History.{Journal}
use Rattle.turn_lock.specs.Turns.{Kept, noted, released, journal_in}
use Rattle.turn_lock.specs.Words.{holding, counted, worker_in, seen_in, known_in}
use Rattle.turn_lock.specs.Locks.{origin, seats_of, lock_id, taken_of, known_by_holder}
use Rattle.turn_lock.proofs.TurnSteps.{counts, releases}
use Rattle.turn_lock.proofs.turn.Turn.give.Goals as goal

pub store-requires : goal.store-requires
store-requires g c = let t = g.T.Told in let lock = c.args.self.now in let slots = (lock_id lock).slots in let held = c.args.held in let J : Journal = taken_of held in
    let here : c.exchange-out.new.seat.me ≡ (holding held.hand.worker J (known_by_holder held), (0, Some held.value) ∷ []) = c.exchange-out.ensures.3 ∙ ap (λ m. (m.0, (0, Some held.value) ∷ rest m.1)) held.hand.holds in (
      search rules,
      search rules,
      subst (λ m. Allows (Kept t.terms t.journal (origin lock) (seats_of lock)) slots c.exchange-out.new.seat.id m 0 (λ _. c.told-length.result) (λ _. noted t.journal (step slots 0 c.told-length.result 0 none) m c.told-length.result)) (sym here)
          (counts t.terms t.journal (origin lock) (seats_of lock) slots c.exchange-out.new.seat.id held.hand.worker c.told-length.result J (known_by_holder held) held.value c.told-length.ensures c.requires.journal),
    )

pub store-requires-2 : goal.store-requires-2
store-requires-2 g c = let t = g.T.Told in let lock = c.args.self.now in let slots = (lock_id lock).slots in let held = c.args.held in let J : Journal = taken_of held in
    let here : c.exchange-out.new.seat.me ≡ (holding held.hand.worker J (known_by_holder held), (0, Some held.value) ∷ []) = c.exchange-out.ensures.3 ∙ ap (λ m. (m.0, (0, Some held.value) ∷ rest m.1)) held.hand.holds in
    let there : c.store.new.seat.me ≡ (counted held.hand.worker J (known_by_holder held) (t.journal held.value), (0, Some held.value) ∷ []) = c.store.ensures.2 ∙ ap (λ m. (counted (worker_in m.0) (seen_in m.0) (known_in m.0) (journal_in t.journal m.1), m.1)) here in (
      search rules,
      search rules,
      subst (λ m. Allows (Kept t.terms t.journal (origin lock) (seats_of lock)) slots c.store.new.seat.id m 1 (λ _. 0) (λ _. released t.journal (step slots 1 0 0 none) m 0)) (sym there)
          (releases t.terms t.journal (origin lock) (seats_of lock) slots c.store.new.seat.id held.hand.worker J (known_by_holder held) held.value c.requires.terms),
    )
