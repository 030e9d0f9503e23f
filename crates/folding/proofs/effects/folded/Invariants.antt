use Rattle.std.proofs.Common.{◌≡◌, [], drop}
use Rattle.folding.specs.internal.Changes.{all_pending, with_patterns}
use Rattle.folding.proofs.effects.folded.Given as goal

abbrev pub invariant-each : goal.invariant-each
invariant-each l = with_patterns l.objects (all_pending l.changes.items) (drop l.pattern-index l.patterns) ≡ with_patterns l.objects [] l.patterns
