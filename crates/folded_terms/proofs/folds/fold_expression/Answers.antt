use Rattle.std.proofs.Common.{◌≡◌, Result, Ok, ap, subst, ◌∙◌}
use Rattle.std.specs.Prelude.{MatchResult}
use Rattle.pddl_types.specs.declared.pairs.Pair.{Pair}
use Rattle.ground_meaning.specs.Expressions.{FoldFault, Operand}
use Rattle.folded_terms.specs.Faults.{IsFoldFault}
use Rattle.folded_terms.specs.Operands.{operand_of}
use Rattle.term_patterns.specs.Bound.{bound_expression}
use Rattle.folded_terms.proofs.folds.fold_expression.Goals as goal

pub returns : goal.returns
returns c =
    subst (λ (r : Result Operand FoldFault). MatchResult c.folded.result (λ v. r ≡ Ok (operand_of v)) (IsFoldFault r))
    (ap (λ (p : Pair). bound_expression p c.args.objects.now c.slots.result.now) c.statics.ensures ∙ c.slots.ensures c.args.objects.now c.requires.as_many c.requires.known)
    c.folded.ensures
