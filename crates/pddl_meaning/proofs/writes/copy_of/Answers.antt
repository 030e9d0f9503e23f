use Rattle.std.proofs.Common.{◌∙◌}
use Rattle.std.specs.FinSet as set
use Rattle.std.specs.FinMap as finite
use Rattle.pddl_meaning.specs.Worlds.{text_cmp}
use Rattle.pddl_meaning.proofs.Written.{copied_entries, copied_keys, same_items}
use Rattle.pddl_meaning.proofs.writes.copy_of.Goals as goal

pub returns : goal.returns
returns c =
    (λ i. record {
      facts = set.from_list {R = text_cmp} (copied_keys (λ v. v.items) _ (λ v w h. same_items v.items w.items h.0) c.world.inside.facts.keys c.in_ok-clone.field-0.keys c.in_ok-clone.ensures.cases i);
      values = finite.from_entries {R = text_cmp} (copied_entries (λ v. v.items) _ (λ v w h. same_items v.items w.items h.0) _ (λ x y h. h) c.world.inside.values.entries c.in_ok-clone-2.field-0.entries c.in_ok-clone-2.ensures.cases i);
    })
    ∙ c.world.view_is
