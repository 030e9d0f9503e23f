use Rattle.std.proofs.Common.{◌≡◌, ◌≤◌, length, map, refl, sym, ap, ◌∙◌, subst, All, Option}
use Rattle.atomic_table.specs.Table.{Final, Seen}
use Rattle.std.specs.Prelude.{IfSome, IsSome}
use Rattle.std.specs.Slots.{slots_items}
use Rattle.turn_lock.specs.History.{OthersAfter}
use Rattle.turn_lock.specs.Turns.{Kept}
use Rattle.turn_lock.specs.Words.{waiting}
use Rattle.turn_lock.specs.Locks.{origin, seats_of}
use Rattle.turn_lock.specs.Seats.{seen_by, known_length, mark_of}
use Rattle.turn_lock.proofs.Endings.{closes}
use Rattle.turn_lock.proofs.turn.Turn.slot_at_end.Goals as goal

pub returns : goal.returns
returns g c = let t = g.T.Told in let lock = c.args.self in let place = c.gather-place.result in let closed = c.close_with-closed in
    let stands : place.me.0 ≡ waiting (map mark_of c.args.seats) = ap (λ m. m.0) c.gather-place.ensures.1 ∙ ap (λ xs. waiting (map mark_of xs)) c.into_vec.ensures in
    let last : Final (Seen (Kept t.terms t.journal (origin lock) (seats_of lock)) place.id (waiting (map mark_of c.args.seats))) (slots_items closed.result.words) (slots_items closed.result.slots) =
    subst (λ v. Final (Seen (Kept t.terms t.journal (origin lock) (seats_of lock)) place.id v) (slots_items closed.result.words) (slots_items closed.result.slots)) stands closed.ensures.values.2 in
    let e = closes t.terms t.journal (origin lock) (seats_of lock) place.id c.args.seats (slots_items closed.result.words) (slots_items closed.result.slots) c.take-slot.result last c.take-slot.ensures.value c.requires.0 in
    subst (λ (slot : Option g.row.T.Denot). IsSome slot × IfSome slot (λ value. (t.terms value ≡ t.terms (origin lock)) × All (λ seat. OthersAfter seat.worker (seen_by seat) (t.journal value)) c.args.seats × All (λ seat. known_length seat ≤ length (t.journal value)) c.args.seats)) (sym e.1)
    (refl, (e.2, e.3, e.4))
