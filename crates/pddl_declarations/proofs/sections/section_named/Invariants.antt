use Rattle.std.proofs.Common.{◌≡◌, drop}
use Rattle.pddl_trees.specs.Sections.{section_named}
use Rattle.pddl_declarations.proofs.sections.section_named.Given as goal

abbrev pub invariant-each : goal.invariant-each
invariant-each l = section_named l.text l.word (drop l.section-index l.sections) ≡ section_named l.text l.word l.sections
