use Rattle.std.proofs.Common.{◌≡◌, ℕ, List, ◌∙◌, subst}
use Rattle.std.specs.Prelude.{IfOk, flat_map}
use Rattle.bound_actions.specs.Patterns.{deleted}
use Rattle.bound_actions.proofs.FactCodes.{deleted_by_patterns}
use Rattle.bound_actions.proofs.Members.{bound_patterns}
use Rattle.bound_actions.proofs.facts.Facts.dels.Goals as goal

pub codes_once-requires : goal.codes_once-requires
codes_once-requires c = record {
  bound = bound_patterns c.self.inside.checked.now c.self.inside.schema.now c.args.self.now c.self.view_is c.args.objects.now c.as_slice.result.now
      (flat_map deleted c.self.inside.schema.now.effects) (c.as_slice.ensures.value ∙ c.self.invariant.dels) c.requires.as_many c.requires.known;
}

pub returns : goal.returns
returns c =
    subst (λ (codes : List ℕ). IfOk c.without.result (λ left. left.items ≡ codes))
    (deleted_by_patterns c.self.inside.checked.now c.self.inside.schema.now c.args.self.now c.self.view_is c.args.objects.now c.as_slice.result.now
    (c.as_slice.ensures.value ∙ c.self.invariant.dels) c.args.adds.now c.as_slice-2.result.now c.requires.adds (c.as_slice-2.ensures.value ∙ c.in_ok-codes.ensures))
    c.without.ensures
