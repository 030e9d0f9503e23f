use Rattle.std.proofs.Common.{◌≤◌, Bool, Some, length}
use Rattle.std.proofs.lemmas.List.Elements.{All-pop}
use Rattle.atomic_table.specs.declared.shared.Seat.{Seat}
use Rattle.word_rows.specs.declared.view.View.{View}
use Rattle.word_rows.specs.Tables.{id_of, view_of, IsIdle}
use Rattle.thread_tests.proofs.rows.last_drawn.Goals as goal

pub drawn-requires-clause-seat : goal.drawn-requires-clause-seat
drawn-requires-clause-seat c =
    (All-pop (λ (one : Seat (Unit {0}) View × Bool). IsIdle (id_of c.args.rows.now) one.0) c.args.all.items c.pop.new.self.items (Some c.in-Some.one) c.in-Some.ensures.items c.requires.idle).1

pub drawn-requires-clause-few : goal.drawn-requires-clause-few
drawn-requires-clause-few c =
    (All-pop (λ (one : Seat (Unit {0}) View × Bool). length (view_of one.0).claims ≤ 64) c.args.all.items c.pop.new.self.items (Some c.in-Some.one) c.in-Some.ensures.items c.requires.few).1
