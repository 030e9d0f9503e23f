use Rattle.std.proofs.Common.{◌≡◌, drop, map}
use Rattle.ground_meaning.specs.Results.{all_answers, mapped}
use Rattle.term_patterns.specs.Bound.{bound_condition, joins}
use Rattle.folded_terms.specs.internal.Joints.{finished, joint_meaning, joint_of}
use Rattle.folded_terms.proofs.conditions.+conditions.Given as goal

abbrev pub invariant-folded_members-each : goal.invariant-folded_members-each
invariant-folded_members-each l =
    mapped (λ ss. finished l.conjunction (joint_of l.conjunction (joint_meaning l.joint) ss)) (all_answers (map (bound_condition l.statics l.objects) (drop l.member-index l.members)))
    ≡ mapped (joins l.conjunction) (all_answers (map (bound_condition l.statics l.objects) l.members))
