use Rattle.sexp_text.proofs.Spelled.{are_items_at, are_said, are_read, is_one, is_none_said}
use Rattle.sexp_text.proofs.laws.reading_is_exact.Goals as goal

pub returns-clause-places : goal.returns-clause-places
returns-clause-places c = are_items_at

pub returns-clause-said : goal.returns-clause-said
returns-clause-said c = are_said

pub returns-clause-read : goal.returns-clause-read
returns-clause-read c = are_read

pub returns-clause-one : goal.returns-clause-one
returns-clause-one c = is_one

pub returns-clause-none : goal.returns-clause-none
returns-clause-none c = is_none_said
