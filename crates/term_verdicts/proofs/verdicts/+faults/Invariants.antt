use Rattle.std.proofs.Common.{◌≡◌, drop, map}
use Rattle.ground_meaning.specs.Results.{all_answers}
use Rattle.term_verdicts.specs.Verdicts.{fault_alone}
use Rattle.term_verdicts.specs.internal.Bound.{bound_verdict}
use Rattle.term_verdicts.proofs.verdicts.+faults.Given as goal

abbrev pub invariant-members_fault-each : goal.invariant-members_fault-each
invariant-members_fault-each l =
    fault_alone (all_answers (map (bound_verdict l.statics l.objects) (drop l.member-index l.members)))
    ≡ fault_alone (all_answers (map (bound_verdict l.statics l.objects) l.members))
