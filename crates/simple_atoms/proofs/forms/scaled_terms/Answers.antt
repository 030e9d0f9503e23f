use Rattle.std.proofs.Common.{◌∙◌}
use Rattle.simple_atoms.proofs.Loops.{scaled_end}
use Rattle.simple_atoms.proofs.forms.scaled_terms.Goals as goal

pub returns : goal.returns
returns c =
    scaled_end c.args.factor c.args.terms.now c.each.term-index c.each.products c.each-test.false ∙ c.each.invariant
