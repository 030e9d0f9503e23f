-- What stands at the end, for a caller with all the seats.
use Rattle.std.proofs.Common.{◌≡◌, ℕ, ◌≤◌, List, length, map, sym, ap, ◌∙◌, All, Option, Some, None}
use mathlib.Core.Option.{some, some-injective}
use lib.ListN.{get_elem?}
use Rattle.atomic_table.specs.Table.{Final, Seen}
use Rattle.turn_lock.specs.History.{Journal, OthersAfter}
use Rattle.turn_lock.specs.declared.seat.TurnSeat.{TurnSeat}
use Rattle.turn_lock.specs.Words.{waiting, numbers_from}
use Rattle.turn_lock.specs.Turns.{Kept}
use Rattle.turn_lock.specs.Seats.{seen_by, known_length, worker_of, mark_of}
use Rattle.turn_lock.proofs.SeatSteps.{ends}
use Rattle.turn_lock.proofs.Seats.{all_goes}
use Rattle.turn_lock.proofs.Rows.{workers_of_marks, of_marks}

module _ {T X : Type 0} (terms : T → X) (journal : T → Journal) (origin : T) (count : ℕ) where
  abbrev pub Ended : List TurnSeat → Option T → Type 0
  Ended seats slot = (value : T) × (slot ≡ Some value) × (terms value ≡ terms origin) × All (λ seat. OthersAfter seat.worker (seen_by seat) (journal value)) seats
      × All (λ seat. known_length seat ≤ length (journal value)) seats

  pub closes : (id : ℕ) (seats : List TurnSeat) (words : List ℕ) (slots : List (Option T)) (slot : Option T)
      → Final (Seen (Kept terms journal origin count) id (waiting (map mark_of seats))) words slots → get_elem? slots 0 ≡ some slot → map worker_of seats ≡ numbers_from 0 count → Ended seats slot
  closes id seats words slots slot last at all = let t = ends terms journal origin count id (map mark_of seats) last.0 last.1.0 last.1.1 (workers_of_marks seats ∙ all) in (
    t.0,
    some-injective slot (Some t.0) (sym at ∙ last.4 0 (Some t.0) t.1),
    t.2,
    of_marks (λ m. OthersAfter m.worker m.seen (journal t.0)) seats
        (all_goes (λ m. OthersAfter m.worker m.seen (journal t.0) × (m.known ≤ length (journal t.0))) (λ m. OthersAfter m.worker m.seen (journal t.0)) (λ m h. h.0) (map mark_of seats) t.3),
    of_marks (λ m. m.known ≤ length (journal t.0)) seats
        (all_goes (λ m. OthersAfter m.worker m.seen (journal t.0) × (m.known ≤ length (journal t.0))) (λ m. m.known ≤ length (journal t.0)) (λ m h. h.1) (map mark_of seats) t.3),
  )

  abbrev value_or : T → Option T → T
  value_or d None = d
  value_or d (Some x) = x

  pub same_value : (x y : T) → Some x ≡ Some y → x ≡ y
  same_value x y e = ap (value_or x) e
