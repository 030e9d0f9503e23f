use Rattle.std.proofs.Common.{◌≡◌, get_or, ap₂, ◌∙◌, arith}
use Rattle.num_ends.proofs.Members.{within_hull_first, within_hull_second, within_refl}
use Rattle.num_ends.specs.Ends.{hull_of, is_within, whole_line}
use Rattle.kept_boxes.proofs.Lies.{wider_all, wider_step}
use Rattle.kept_boxes.proofs.hull.widen_fluents.Goals as goal

pub each-preserved : goal.each-preserved
each-preserved c =
    let i = c.each.i in
    let old = c.args.fluents.now in
    let others = c.args.others.now in
    let part : c.part_of-part.result ≡ get_or old i whole_line = c.part_of-part.ensures ∙ c.each.invariant.rest i (omega arith) in
    let joined : c.hull.result ≡ hull_of (get_or old i whole_line) (get_or others i whole_line) = c.hull.ensures ∙ ap₂ hull_of part c.part_of-other.ensures in
    wider_step is_within whole_line i old others c.each.fluents c.hull.result c.each.invariant (omega arith)
    (rw joined (within_hull_first (get_or old i whole_line) (get_or others i whole_line)))
    (rw joined (within_hull_second (get_or old i whole_line) (get_or others i whole_line)))

pub returns-clause-old : goal.returns-clause-old
returns-clause-old c = λ x h. wider_all is_within whole_line within_refl c.each.i c.args.fluents.now c.args.others.now c.each.fluents c.each.invariant x
