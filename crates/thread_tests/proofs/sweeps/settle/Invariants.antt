use Rattle.std.proofs.Common.{◌≡◌}
use Rattle.bound_words.specs.Seats.{number_of}
use Rattle.thread_tests.specs.Settling.{HasSwept}
use Rattle.thread_tests.proofs.sweeps.settle.Given as goal

abbrev pub invariant-loop-round : goal.invariant-loop-round
invariant-loop-round g l = HasSwept g.S.System.terms l.fn.table l.round l.seat × (number_of l.seat ≡ number_of l.fn.seat)
