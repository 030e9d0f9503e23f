-- The parts of a list that is to be a problem.
use Rattle.std.specs.Prelude.{ℕ, List, codes}
use Rattle.sexp_text.specs.declared.trees.Tree.{Tree}
use Rattle.pddl_terms.specs.declared.files.Problem.{Problem}
use Rattle.pddl_trees.specs.Forms.{Parsed}
use Rattle.pddl_trees.specs.Frames.{frame_of}
use Rattle.pddl_trees.specs.Problems.{problem_of_sections}
use Rattle.pddl_trees.specs.Sections.{sections_of}

abbrev pub problem_of_parts : List ℕ → ℕ → List Tree → Parsed Problem
problem_of_parts text at ts = problem_of_sections text at (frame_of text (codes "problem") at ts) (sections_of ts)
