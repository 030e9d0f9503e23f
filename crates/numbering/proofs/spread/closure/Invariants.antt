use Rattle.std.proofs.Common.{◌≤◌, ◌+◌, ◌-◌, length}
use Rattle.numbering.proofs.Spreading.{IsSpread}
use Rattle.numbering.proofs.spread.closure.Given as goal

abbrev pub invariant-each : goal.invariant-each
invariant-each l = IsSpread l.starts l.edges l.reached.keys l.next × (l.next ≤ length l.starts + length l.edges)

abbrev pub decreases-each : goal.decreases-each
decreases-each l = (length l.starts + length l.edges) - l.next
