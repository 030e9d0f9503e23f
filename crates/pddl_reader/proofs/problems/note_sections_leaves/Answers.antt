use Rattle.std.proofs.Common.{◌∙◌}
use Rattle.pddl_trees.specs.Problems.{section_leaves}
use Rattle.pddl_trees.proofs.Noted.{walked}
use Rattle.pddl_trees.proofs.Walks.{those_noted, with_those}
use Rattle.pddl_reader.proofs.problems.note_sections_leaves.Goals as goal

pub returns : goal.returns
returns c =
    walked (with_those (section_leaves c.args.text.now)) c.each.notes.first _ c.args.sections.now c.each.section-index c.each-test.false c.each.invariant
    ∙ those_noted (section_leaves c.args.text.now) c.args.notes.now.first c.args.sections.now
