use Rattle.sexp_text.proofs.OneAnswer.{one_list, no_fault, one_fault}
use Rattle.sexp_text.proofs.SomeAnswer.{some_answer}
use Rattle.sexp_text.proofs.laws.text_has_one_answer.Goals as goal

pub returns-clause-some : goal.returns-clause-some
returns-clause-some c = some_answer

pub returns-clause-trees : goal.returns-clause-trees
returns-clause-trees c = one_list

pub returns-clause-trees_or_fault : goal.returns-clause-trees_or_fault
returns-clause-trees_or_fault c = no_fault

pub returns-clause-fault : goal.returns-clause-fault
returns-clause-fault c = one_fault
