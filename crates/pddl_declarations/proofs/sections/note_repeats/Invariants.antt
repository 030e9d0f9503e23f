use Rattle.std.proofs.Common.{◌≡◌, drop}
use Rattle.pddl_trees.specs.Faults.{all_noted}
use Rattle.pddl_trees.specs.Sections.{repeats_of}
use Rattle.pddl_trees.proofs.Walks.{repeats_after}
use Rattle.pddl_declarations.proofs.sections.note_repeats.Given as goal

abbrev pub invariant-each : goal.invariant-each
invariant-each l =
    all_noted l.notes.first (repeats_after l.text l.word l.seen (drop l.section-index l.sections))
    ≡ all_noted l.initial.notes.first (repeats_of l.text l.sections l.word)
