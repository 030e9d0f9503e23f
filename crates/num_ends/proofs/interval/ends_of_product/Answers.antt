use Rattle.std.proofs.Common.{sym, ap₂, ◌∙◌}
use Rattle.num_ends.specs.Ends.{lower_hull, upper_hull}
use Rattle.num_ends.proofs.Clips.{least_outward, greatest_outward}
use Rattle.num_ends.proofs.interval.ends_of_product.Goals as goal

pub returns-clause-lower : goal.returns-clause-lower
returns-clause-lower c =
    c.hull_of_ends.ensures.lower
    ∙ ap₂ lower_hull (c.hull_of_ends-lower.ensures.lower ∙ ap₂ lower_hull c.product.ensures.lower c.product-2.ensures.lower)
    (c.hull_of_ends-upper.ensures.lower ∙ ap₂ lower_hull c.product-3.ensures.lower c.product-4.ensures.lower)
    ∙ sym (least_outward (c.args.a.now, c.args.b.now) (c.args.c.now, c.args.d.now) c.requires)

pub returns-clause-upper : goal.returns-clause-upper
returns-clause-upper c =
    c.hull_of_ends.ensures.upper
    ∙ ap₂ upper_hull (c.hull_of_ends-lower.ensures.upper ∙ ap₂ upper_hull c.product.ensures.upper c.product-2.ensures.upper)
    (c.hull_of_ends-upper.ensures.upper ∙ ap₂ upper_hull c.product-3.ensures.upper c.product-4.ensures.upper)
    ∙ sym (greatest_outward (c.args.a.now, c.args.b.now) (c.args.c.now, c.args.d.now) c.requires)
