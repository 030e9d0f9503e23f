use Rattle.std.proofs.Common.{◌≡◌, ◌+◌, length, All}
use Rattle.bound_words.specs.Seats.{places_of}
use Rattle.bound_words.specs.Tables.{IsSeatOf}
use Rattle.thread_tests.specs.Settling.{HasSwept}
use Rattle.thread_tests.proofs.sweeps.join_all.Given as goal

abbrev pub invariant-loop-other : goal.invariant-loop-other
invariant-loop-other g l = record {
  seat_of : IsSeatOf g.S.System.terms l.table l.seat;
  others : All (HasSwept g.S.System.terms l.table 1000) l.rest.items;
  places : length (places_of l.seat) + length l.rest.items ≡ length l.fn.seats.items;
}

abbrev pub decreases-loop-other : goal.decreases-loop-other
decreases-loop-other g l = length l.rest.items
