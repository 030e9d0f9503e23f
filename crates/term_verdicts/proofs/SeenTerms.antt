-- What is known under a binding, as contracts see it.
use Rattle.std.proofs.Common.{◌≡◌, ℕ, Bool, Option, Result, Ok, Err, sym, ap, subst, ◌∙◌}
use Rattle.std.specs.Prelude.{List, MatchResult}
use Rattle.num_ends.specs.Decimal.{Decimal}
use Rattle.pddl_types.specs.declared.pairs.Pair.{Pair}
use Rattle.ground_meaning.specs.Results.{mapped}
use Rattle.ground_meaning.specs.Expressions.{FoldFault, Operand}
use Rattle.ground_meaning.specs.Conditions.{Settled}
use Rattle.term_patterns.specs.declared.expressions.ExprSlots.{ExprSlots}
use Rattle.term_patterns.specs.declared.slots.CondSlots.{CondSlots}
use Rattle.term_patterns.specs.Bound.{bound_condition, bound_expression}
use Rattle.term_verdicts.specs.declared.faults.TermFault.{TermFault}
use Rattle.term_verdicts.specs.Verdicts.{constant_of, fault_alone, fold_fault, truth_of}
use Rattle.term_verdicts.specs.internal.Bound.{bound_value, bound_verdict}
use Rattle.term_verdicts.proofs.Chained.{alone_mapped, mapped_fault}

module _ (p statics : Pair) (os : List ℕ) (same : statics ≡ p) where
  module _ (q : ExprSlots) (whole : Result Operand FoldFault) (folds : bound_expression p os q ≡ whole) where
    value_is : bound_value statics os q ≡ mapped constant_of whole
    unfolding bound_value
    value_is = ap (λ (r : Pair). mapped constant_of (bound_expression r os q)) same ∙ ap (mapped constant_of) folds

    pub value_seen : (r : Result (Option Decimal) TermFault) → MatchResult r (λ v. bound_value statics os q ≡ Ok v) (λ f. bound_value statics os q ≡ Err (fold_fault f))
        → MatchResult r (λ v. mapped constant_of whole ≡ Ok v) (λ f. mapped constant_of whole ≡ Err (fold_fault f))
    value_seen r h = subst (λ (a : Result (Option Decimal) FoldFault). MatchResult r (λ v. a ≡ Ok v) (λ f. a ≡ Err (fold_fault f))) value_is h

    pub fault_seen : (r : Result (Unit {0}) TermFault) → MatchResult r (λ u. fault_alone (bound_value statics os q) ≡ Ok u) (λ f. bound_value statics os q ≡ Err (fold_fault f))
        → MatchResult r (λ u. fault_alone whole ≡ Ok u) (λ f. whole ≡ Err (fold_fault f))
    fault_seen (Ok u) h = sym (ap fault_alone value_is ∙ alone_mapped constant_of whole) ∙ h
    fault_seen (Err f) h = mapped_fault constant_of whole (fold_fault f) (sym value_is ∙ h)

  module _ (q : CondSlots) (whole : Result Settled FoldFault) (folds : bound_condition p os q ≡ whole) where
    verdict_is : bound_verdict statics os q ≡ mapped truth_of whole
    unfolding bound_verdict
    verdict_is = ap (λ (r : Pair). mapped truth_of (bound_condition r os q)) same ∙ ap (mapped truth_of) folds

    pub verdict_seen : (r : Result (Option Bool) TermFault) → MatchResult r (λ v. bound_verdict statics os q ≡ Ok v) (λ f. bound_verdict statics os q ≡ Err (fold_fault f))
        → MatchResult r (λ v. mapped truth_of whole ≡ Ok v) (λ f. mapped truth_of whole ≡ Err (fold_fault f))
    verdict_seen r h = subst (λ (a : Result (Option Bool) FoldFault). MatchResult r (λ v. a ≡ Ok v) (λ f. a ≡ Err (fold_fault f))) verdict_is h
