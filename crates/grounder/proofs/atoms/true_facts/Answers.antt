use Rattle.std.proofs.Common.{◌++◌, ℕ, List, [], ◌∷◌, ap, ◌∙◌}
use Rattle.std.specs.Prelude.{if◌then◌else◌}
use Rattle.grounder.proofs.Listing.{true_next}
use Rattle.grounder.proofs.atoms.true_facts.Goals as goal

pub each-preserved : goal.each-preserved
each-preserved c =
    c.in_ok-push_if.ensures ∙ ap (λ (ns : List ℕ). ns ++ (if c.in_ok-truth.truth then c.each.place ∷ [] else [])) c.each.invariant
    ∙ true_next c.args.statics.now c.args.codes.now c.each.place c.in_ok-truth.truth c.each-test.true c.in_ok-truth.ensures
