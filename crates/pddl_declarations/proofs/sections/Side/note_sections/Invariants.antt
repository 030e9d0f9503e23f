use Rattle.std.proofs.Common.{◌≡◌, drop}
use Rattle.std.specs.Prelude.{fold}
use Rattle.pddl_declarations.specs.Sides.{sections_of_side}
use Rattle.pddl_trees.specs.Sections.{section_faults}
use Rattle.pddl_trees.proofs.Walks.{with_those}
use Rattle.pddl_declarations.proofs.sections.Side.note_sections.Given as goal

abbrev pub invariant-each : goal.invariant-each
invariant-each l =
    fold (with_those (section_faults l.text (sections_of_side l.self))) l.notes.first (drop l.section-index l.sections)
    ≡ fold (with_those (section_faults l.text (sections_of_side l.self))) l.initial.notes.first l.sections
