use Rattle.std.proofs.Common.{◌≡◌, Result, Ok, subst}
use Rattle.std.specs.Prelude.{MatchResult}
use Rattle.ground_meaning.specs.Expressions.{FoldFault}
use Rattle.ground_meaning.specs.Conditions.{Settled}
use Rattle.folded_terms.specs.Faults.{IsFoldFault}
use Rattle.folded_terms.specs.Settled.{settled_of}
use Rattle.folded_terms.proofs.SeenTerms.{goal_seen}
use Rattle.folded_terms.proofs.goals.folded_term.Goals as goal

pub returns : goal.returns
returns c =
    subst (λ (r : Result Settled FoldFault). MatchResult c.fold_condition.result (λ s. r ≡ Ok (settled_of s)) (IsFoldFault r))
    (goal_seen c.args.checked.now c.problem.result.now c.in_ok-pattern.pattern c.in_ok-pattern.ensures c.problem.ensures.problem)
    c.fold_condition.ensures
