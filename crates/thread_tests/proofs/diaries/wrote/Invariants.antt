use Rattle.std.proofs.Common.{◌≤◌}
use Rattle.thread_tests.proofs.diaries.wrote.Given as goal

abbrev pub invariant-loop-line : goal.invariant-loop-line
invariant-loop-line l = l.page ≤ l.times
