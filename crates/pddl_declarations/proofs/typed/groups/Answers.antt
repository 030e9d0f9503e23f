use Rattle.std.proofs.Common.{◌+◌, List, drop, ap, sym, ◌∙◌, arith}
use Rattle.pddl_trees.specs.Faults.{all_noted}
use Rattle.pddl_trees.specs.Forms.{Form}
use Rattle.pddl_trees.specs.Trees.{forms_of}
use Rattle.pddl_declarations.specs.Kinds.{kind_of}
use Rattle.pddl_declarations.specs.internal.Typing.{typed_with}
use Rattle.pddl_declarations.proofs.TypedSteps.{forms_next}
use Rattle.pddl_declarations.proofs.typed.groups.Goals as goal

pub each-preserved : goal.each-preserved
each-preserved c =
    let i = c.each.invariant in
    let kind = kind_of c.args.kind in
    let text = c.args.text.now in
    let taken = c.in_ok-take.ensures.taken in
    let next = forms_next text c.args.trees.now c.each.tree-index c.tree-item.result c.each-test.true c.tree-item.is in
    let rest : List Form = forms_of text (drop (c.each.tree-index + 1) c.args.trees.now) in
    record {
      faults = taken.faults c.args.at rest ∙ ap (λ (ts : List Form). all_noted c.each.notes.first (typed_with c.each.names kind c.args.at ts).faults) (sym next) ∙ i.faults;
      items = taken.items c.args.at rest ∙ ap (λ (ts : List Form). (typed_with c.each.names kind c.args.at ts).items) (sym next) ∙ i.items;
      seen = omega (arith, i.seen, c.in_ok-take.ensures.seen);
    }
