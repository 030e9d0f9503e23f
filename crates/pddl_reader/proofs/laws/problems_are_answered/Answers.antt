use Rattle.pddl_terms.specs.declared.files.Problem.{Problem}
use Rattle.pddl_trees.specs.Problems.{problem_in}
use Rattle.pddl_grammar.specs.Problems.{SpellsProblem}
use Rattle.pddl_grammar.proofs.SpelledProblems.{faultless_problem, problem_said}
use Rattle.pddl_reader.proofs.Causes.{answered, one_answer, refused_unsaid}
use Rattle.pddl_reader.proofs.laws.problems_are_answered.Goals as goal

pub returns-clause-some : goal.returns-clause-some
returns-clause-some c = answered Problem problem_in SpellsProblem faultless_problem

pub returns-clause-refused : goal.returns-clause-refused
returns-clause-refused c = λ text fault problem x spelled.
    let said = problem_said text problem spelled in
    refused_unsaid Problem problem_in text fault said.0 problem x said.1

pub returns-clause-fault : goal.returns-clause-fault
returns-clause-fault c = one_answer Problem problem_in
