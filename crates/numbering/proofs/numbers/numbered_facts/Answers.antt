use Rattle.std.proofs.Common.{ℕ, List, [], ◌∷◌, ◌++◌, sym, ap₂, ◌∙◌}
use Rattle.ground_meaning.specs.Tasks.{number_in}
use Rattle.numbering.proofs.Lists.{map_next}
use Rattle.numbering.proofs.numbers.numbered_facts.Goals as goal

pub each-preserved : goal.each-preserved
each-preserved c =
    c.in_ok-push.ensures.items ∙ ap₂ (λ (ns : List ℕ) (n : ℕ). ns ++ n ∷ []) c.each.invariant c.rank.ensures
    ∙ sym (map_next (number_in c.args.facts.now) c.args.named.now c.each.fact-index c.each-test.true)
