use Rattle.std.proofs.Common.{ap, ◌∙◌, not, List, ℕ, map}
use Rattle.std.specs.Prelude.{bytes_eq}
use Rattle.std.specs.Cmp.Lexicographic.{pointwise}
use Rattle.pddl_types.specs.UseFaults.{has_value, with_fluent}
use Rattle.name_table.proofs.Hashed.{any_item, added_item, pointwise_items}
use Rattle.pddl_types.proofs.entries.Valued.add.Goals as goal

pub returns-clause-new : goal.returns-clause-new
returns-clause-new c =
    c.in_ok-new.ensures.added
    ∙ ap not
    (any_item (λ f. map (λ t. t.now) f.items) (pointwise bytes_eq) (λ f g. pointwise (λ x y. bytes_eq x.now y.now) f.items g.items)
    (λ f g. pointwise_items (λ t. t.now) bytes_eq f.items g.items) c.args.fluent c.self.inside.fluents.keys
    ∙ ap (has_value (map (λ t. t.now) c.args.fluent.items)) c.self.view_is)

pub returns-clause-after : goal.returns-clause-after
returns-clause-after c =
    ap (map (λ f. map (λ t. t.now) f.items)) c.in_ok-new.ensures.keys
    ∙ added_item (λ f. map (λ t. t.now) f.items) (pointwise bytes_eq) (λ f g. pointwise (λ x y. bytes_eq x.now y.now) f.items g.items)
    (λ f g. pointwise_items (λ t. t.now) bytes_eq f.items g.items) c.args.fluent c.self.inside.fluents.keys
    ∙ ap (λ (fs : List (List (List ℕ))). with_fluent fs (map (λ t. t.now) c.args.fluent.items)) c.self.view_is
