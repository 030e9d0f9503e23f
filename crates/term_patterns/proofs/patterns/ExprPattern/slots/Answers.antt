use Rattle.term_patterns.proofs.SeenTerms.{expression_seen}
use Rattle.term_patterns.proofs.patterns.ExprPattern.slots.Goals as goal

pub returns : goal.returns
returns c = λ os same known. expression_seen c.self.inside.checked.now c.self.inside.statics.now c.self.inside.params.now c.self.inside.expr.now c.self.inside.slots c.args.self.now c.self.invariant c.self.view_is os same known
