use Rattle.std.proofs.Common.{◌≡◌, Some, drop, map}
use Rattle.ground_meaning.specs.Results.{all_answers, mapped}
use Rattle.term_verdicts.specs.internal.Bound.{bound_verdict}
use Rattle.term_verdicts.specs.internal.Truths.{truths}
use Rattle.term_verdicts.proofs.verdicts.+verdicts.Given as goal

abbrev pub invariant-members_verdict-each : goal.invariant-members_verdict-each
invariant-members_verdict-each l =
    mapped (truths l.conjunction l.truth) (all_answers (map (bound_verdict l.statics l.objects) (drop l.member-index l.members)))
    ≡ mapped (truths l.conjunction (Some l.conjunction)) (all_answers (map (bound_verdict l.statics l.objects) l.members))
