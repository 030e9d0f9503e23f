use Rattle.std.proofs.Common.{◌≤◌, Bool, Some, length}
use Rattle.std.proofs.lemmas.List.Elements.{All-pop}
use Rattle.atomic_table.specs.declared.shared.Seat.{Seat}
use Rattle.word_rows.specs.declared.view.View.{View}
use Rattle.dead_rows.specs.Seats.{claims_of, IsSeatOf}
use Rattle.store_tests.proofs.dead_boxes.are_filled.Goals as goal

pub is_full-requires-clause-seat : goal.is_full-requires-clause-seat
is_full-requires-clause-seat c =
    (All-pop (λ (one : Seat (Unit {0}) View × Bool). IsSeatOf c.args.store.now one.0) c.args.all.items c.pop.new.self.items (Some c.in-Some.one) c.in-Some.ensures.items c.requires.seats).1

pub is_full-requires-clause-claims : goal.is_full-requires-clause-claims
is_full-requires-clause-claims c =
    (All-pop (λ (one : Seat (Unit {0}) View × Bool). length (claims_of one.0) ≤ 64) c.args.all.items c.pop.new.self.items (Some c.in-Some.one) c.in-Some.ensures.items c.requires.claims).1
