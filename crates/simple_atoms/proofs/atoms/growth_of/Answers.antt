use Rattle.std.proofs.Common.{◌∙◌}
use Rattle.simple_atoms.specs.Values.{growth}
use Rattle.simple_atoms.proofs.Loops.{weighted_some, weighted_none, weighted_end}
use Rattle.simple_atoms.proofs.atoms.growth_of.Goals as goal

pub returns-in_default : goal.returns-in_default
returns-in_default c =
    weighted_none (growth c.args.action.now) c.args.terms.now c.each.term-index c.term-item.result c.term-item.result c.each.total c.growth.result c.each-test.true c.term-item.is c.growth.ensures c.in_default.ensures
    ∙ c.each.invariant

pub each-preserved : goal.each-preserved
each-preserved c =
    weighted_some (growth c.args.action.now) c.args.terms.now c.each.term-index c.term-item.result c.term-item.result c.each.total c.growth.result c.each-test.true c.term-item.is c.growth.ensures c.in-Some.sum c.in-Some.ensures
    ∙ c.each.invariant

pub returns : goal.returns
returns c =
    weighted_end (growth c.args.action.now) c.args.terms.now c.each.term-index c.each.total c.each-test.false ∙ c.each.invariant
