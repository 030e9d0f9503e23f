use Rattle.std.proofs.Common.{◌≡◌, ◌∙◌, false, ap, ap₂, sym}
use Rattle.std.proofs.lemmas.Bool.{both_ways}
use Rattle.num_ends.specs.Ends.{Interval, hull_of, is_inhabited, lower_hull, upper_hull}
use Rattle.num_ends.proofs.Members.{hull_inhabited}
use Rattle.relax_plain.proofs.widen.reached.Goals as goal

pub returns-in-None : goal.returns-in-None
returns-in-None c =
    let i = c.args.interval.now in
    let ends : Interval = (c.args.lower.now, c.args.upper.now) in
    let none : is_inhabited (hull_of i ends).0 (hull_of i ends).1 ≡ false =
    sym (ap₂ is_inhabited (c.outer_lower.ensures ∙ ap (λ e. lower_hull e c.args.lower.now) c.lower.ensures) (c.outer_upper.ensures ∙ ap (λ e. upper_hull e c.args.upper.now) c.upper.ensures)) ∙ c.in-None.ensures in
    absurd (both_ways (is_inhabited (hull_of i ends).0 (hull_of i ends).1) none (hull_inhabited i ends c.requires.inhabited))
