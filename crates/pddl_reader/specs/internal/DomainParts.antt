-- The parts of a list that is to be a domain.
use Rattle.std.specs.Prelude.{ℕ, List, codes}
use Rattle.sexp_text.specs.declared.trees.Tree.{Tree}
use Rattle.pddl_terms.specs.declared.files.Domain.{Domain}
use Rattle.pddl_trees.specs.Forms.{Parsed}
use Rattle.pddl_trees.specs.Domains.{domain_of_sections}
use Rattle.pddl_trees.specs.Frames.{frame_of}
use Rattle.pddl_trees.specs.Sections.{sections_of}

abbrev pub domain_of_parts : List ℕ → ℕ → List Tree → Parsed Domain
domain_of_parts text at ts = domain_of_sections text (frame_of text (codes "domain") at ts) (sections_of ts)
