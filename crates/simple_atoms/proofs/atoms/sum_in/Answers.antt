use Rattle.std.proofs.Common.{Some, ap, ◌∙◌}
use Rattle.simple_atoms.specs.Values.{number_in}
use Rattle.simple_atoms.proofs.Loops.{weighted_some, weighted_none, weighted_end}
use Rattle.simple_atoms.proofs.atoms.sum_in.Goals as goal

pub returns-in_default : goal.returns-in_default
returns-in_default c =
    weighted_none (number_in c.args.task.now.places c.args.state.now) c.args.terms.now c.each.term-index c.term-item.result c.term-item.result c.each.total _ c.each-test.true c.term-item.is (ap Some c.number_in-number.ensures) c.in_default.ensures
    ∙ c.each.invariant

pub each-preserved : goal.each-preserved
each-preserved c =
    weighted_some (number_in c.args.task.now.places c.args.state.now) c.args.terms.now c.each.term-index c.term-item.result c.term-item.result c.each.total _ c.each-test.true c.term-item.is (ap Some c.number_in-number.ensures) c.in-Some.sum c.in-Some.ensures
    ∙ c.each.invariant

pub returns : goal.returns
returns c =
    weighted_end (number_in c.args.task.now.places c.args.state.now) c.args.terms.now c.each.term-index c.each.total c.each-test.false
    ∙ c.each.invariant
