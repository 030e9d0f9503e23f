use Rattle.std.proofs.Common.{◌∙◌}
use Rattle.pddl_declarations.specs.Sides.{sections_of_side}
use Rattle.pddl_trees.specs.Sections.{section_faults}
use Rattle.pddl_trees.proofs.Noted.{walked}
use Rattle.pddl_trees.proofs.Walks.{those_noted, with_those}
use Rattle.pddl_declarations.proofs.sections.Side.note_sections.Goals as goal

pub returns : goal.returns
returns c =
    walked (with_those (section_faults c.args.text.now (sections_of_side c.args.self))) c.each.notes.first _ c.args.sections.now c.each.section-index c.each-test.false c.each.invariant
    ∙ those_noted (section_faults c.args.text.now (sections_of_side c.args.self)) c.args.notes.now.first c.args.sections.now
