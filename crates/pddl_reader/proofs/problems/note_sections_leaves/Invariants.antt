use Rattle.std.proofs.Common.{◌≡◌, drop}
use Rattle.std.specs.Prelude.{fold}
use Rattle.pddl_trees.specs.Problems.{section_leaves}
use Rattle.pddl_trees.proofs.Walks.{with_those}
use Rattle.pddl_reader.proofs.problems.note_sections_leaves.Given as goal

abbrev pub invariant-each : goal.invariant-each
invariant-each l =
    fold (with_those (section_leaves l.text)) l.notes.first (drop l.section-index l.sections)
    ≡ fold (with_those (section_leaves l.text)) l.initial.notes.first l.sections
