use Rattle.std.proofs.Common.{◌≡◌, drop}
use Rattle.std.specs.List.{list_any}
use Rattle.subgoal.specs.Help.{changes}
use Rattle.subgoal.proofs.unmet.changes_term.Given as goal

abbrev pub invariant-each : goal.invariant-each
invariant-each l = list_any (λ t. changes l.action t.0) (drop l.term-index l.terms) ≡ list_any (λ t. changes l.action t.0) l.terms
