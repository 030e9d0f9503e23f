use Rattle.std.proofs.Common.{map}
use Rattle.ground_meaning.specs.Results.{all_answers}
use Rattle.term_patterns.specs.Bound.{bound_condition}
use Rattle.folded_terms.proofs.TopMembers.{none_joined}
use Rattle.folded_terms.proofs.conditions.+conditions.Goals as goal

pub folded_members-each-init : goal.folded_members-each-init
folded_members-each-init t c =
    none_joined c.args.conjunction c.no_members-joint.result c.no_members-joint.ensures.decides c.no_members-joint.ensures.members
    (all_answers (map (bound_condition c.args.statics.now c.args.objects.now) c.args.members.now))
