use Rattle.std.proofs.Common.{sym, ◌∙◌}
use Rattle.bound_atoms.proofs.Numbered.{declared_predicate, undeclared_predicate}
use Rattle.bound_atoms.proofs.symbols.fact_symbol.Goals as goal

pub returns-in-Some : goal.returns-in-Some
returns-in-Some c =
    declared_predicate c.args.checked.now c.args.statics.now c.args.head.now c.in-Some.number c.predicate_fixed.result (sym c.in-Some.is ∙ c.predicate_number.ensures) c.requires.one_pair c.predicate_fixed.ensures

pub returns-in-None : goal.returns-in-None
returns-in-None c = undeclared_predicate c.args.checked.now c.args.head.now c.domain-domain.ensures.well_formed (sym c.in-None.is ∙ c.predicate_number.ensures)
