use Rattle.term_verdicts.proofs.SeenTerms.{value_seen}
use Rattle.term_verdicts.proofs.seen.expression_value.Goals as goal

pub returns : goal.returns
returns c =
    value_seen c.args.pattern.now.0 c.statics.result.now c.args.objects.now c.statics.ensures c.slots.result.now _
    (c.slots.ensures c.args.objects.now c.requires.as_many c.requires.known) c.value.result c.value.ensures
