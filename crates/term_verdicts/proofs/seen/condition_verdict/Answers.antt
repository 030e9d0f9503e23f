use Rattle.term_verdicts.proofs.SeenTerms.{verdict_seen}
use Rattle.term_verdicts.proofs.seen.condition_verdict.Goals as goal

pub returns : goal.returns
returns c =
    verdict_seen c.args.pattern.now.0 c.statics.result.now c.args.objects.now c.statics.ensures c.slots.result.now _
    (c.slots.ensures c.args.objects.now c.requires.as_many c.requires.known) c.verdict.result c.verdict.ensures
