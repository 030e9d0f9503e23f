use Rattle.pddl_grammar.proofs.ReadableTexts.{problem_readable}
use Rattle.pddl_grammar.proofs.SpelledProblems.{faultless_problem, problem_fits, problem_said, one_problem}
use Rattle.pddl_grammar.proofs.laws.problems_are_spelled.Goals as goal

pub returns-clause-read : goal.returns-clause-read
returns-clause-read c = problem_fits

pub returns-clause-again : goal.returns-clause-again
returns-clause-again c = problem_said

pub returns-clause-one : goal.returns-clause-one
returns-clause-one c = one_problem

pub returns-clause-faultless : goal.returns-clause-faultless
returns-clause-faultless c = faultless_problem

pub returns-clause-readable : goal.returns-clause-readable
returns-clause-readable c = problem_readable
