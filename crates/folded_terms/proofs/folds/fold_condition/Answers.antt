use Rattle.std.proofs.Common.{◌≡◌, Result, Ok, ap, subst, ◌∙◌}
use Rattle.std.specs.Prelude.{MatchResult}
use Rattle.pddl_types.specs.declared.pairs.Pair.{Pair}
use Rattle.ground_meaning.specs.Expressions.{FoldFault}
use Rattle.ground_meaning.specs.Conditions.{Settled}
use Rattle.folded_terms.specs.Faults.{IsFoldFault}
use Rattle.folded_terms.specs.Settled.{settled_of}
use Rattle.term_patterns.specs.Bound.{bound_condition}
use Rattle.folded_terms.proofs.folds.fold_condition.Goals as goal

pub returns : goal.returns
returns c =
    subst (λ (r : Result Settled FoldFault). MatchResult c.folded_condition.result (λ v. r ≡ Ok (settled_of v)) (IsFoldFault r))
    (ap (λ (p : Pair). bound_condition p c.args.objects.now c.slots.result.now) c.statics.ensures ∙ c.slots.ensures c.args.objects.now c.requires.as_many c.requires.known)
    c.folded_condition.ensures
