use Rattle.term_patterns.proofs.SeenTerms.{condition_seen}
use Rattle.term_patterns.proofs.patterns.CondPattern.slots.Goals as goal

pub returns : goal.returns
returns c = λ os same known. condition_seen c.self.inside.checked.now c.self.inside.statics.now c.self.inside.params.now c.self.inside.cond.now c.self.inside.slots c.args.self.now c.self.invariant c.self.view_is os same known
