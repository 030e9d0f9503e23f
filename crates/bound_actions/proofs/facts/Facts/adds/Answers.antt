use Rattle.std.proofs.Common.{◌≡◌, ℕ, List, ◌∙◌, subst}
use Rattle.std.specs.Prelude.{IfOk, flat_map}
use Rattle.bound_actions.specs.Patterns.{added}
use Rattle.bound_actions.proofs.FactCodes.{added_by_patterns}
use Rattle.bound_actions.proofs.Members.{bound_patterns}
use Rattle.bound_actions.proofs.facts.Facts.adds.Goals as goal

pub codes_once-requires : goal.codes_once-requires
codes_once-requires c = record {
  bound = bound_patterns c.self.inside.checked.now c.self.inside.schema.now c.args.self.now c.self.view_is c.args.objects.now c.as_slice.result.now
      (flat_map added c.self.inside.schema.now.effects) (c.as_slice.ensures.value ∙ c.self.invariant.adds) c.requires.as_many c.requires.known;
}

pub returns : goal.returns
returns c =
    subst (λ (codes : List ℕ). IfOk c.codes_once.result (λ found. found.items ≡ codes))
    (added_by_patterns c.self.inside.checked.now c.self.inside.schema.now c.args.self.now c.self.view_is c.args.objects.now c.as_slice.result.now (c.as_slice.ensures.value ∙ c.self.invariant.adds))
    c.codes_once.ensures
