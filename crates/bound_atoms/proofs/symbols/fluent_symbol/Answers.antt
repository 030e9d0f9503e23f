use Rattle.std.proofs.Common.{sym, ◌∙◌}
use Rattle.bound_atoms.proofs.Numbered.{declared_function, undeclared_function}
use Rattle.bound_atoms.proofs.symbols.fluent_symbol.Goals as goal

pub returns-in-Some : goal.returns-in-Some
returns-in-Some c =
    declared_function c.args.checked.now c.args.statics.now c.args.head.now c.in-Some.number c.function_fixed.result (sym c.in-Some.is ∙ c.function_number.ensures) c.requires.one_pair c.function_fixed.ensures

pub returns-in-None : goal.returns-in-None
returns-in-None c = undeclared_function c.args.checked.now c.args.head.now c.domain-domain.ensures.well_formed (sym c.in-None.is ∙ c.function_number.ensures)
