use Rattle.std.proofs.Common.{sym, ◌∙◌}
use Rattle.std.proofs.lemmas.Bool.{both_ways}
use Rattle.kept_boxes.proofs.Lies.{hull_contains}
use Rattle.kept_boxes.proofs.hull.Hull.may_contain.Goals as goal

pub returns-then-has_shape : goal.returns-then-has_shape
returns-then-has_shape c = λ wrong b inside contains.
    let shape = c.has_shape.ensures.0 c.if-has_shape.true in
    both_ways c.contains.result wrong
    (c.contains.ensures.1 (hull_contains c.args.task.now.places b c.args.self.now c.args.state.now inside contains (shape.0 ∙ sym c.requires.facts) (shape.1 ∙ sym c.requires.values)))
