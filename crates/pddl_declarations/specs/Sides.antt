-- The sections of what a text is read as.
use Rattle.std.specs.Prelude.{ℕ, List}
use Rattle.pddl_trees.specs.Sections.{domain_sections, problem_sections}
use Rattle.pddl_declarations.specs.declared.sections.Side.{Side}
use Rattle.pddl_declarations.specs.declared.sections.Side.TheVariants.{Domain, Problem}

-- the names of its sections
abbrev pub sections_of_side : Side → List (List ℕ)
sections_of_side Domain = domain_sections
sections_of_side Problem = problem_sections
