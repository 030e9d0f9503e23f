use Rattle.pddl_grammar.proofs.ReadableTexts.{domain_readable}
use Rattle.pddl_grammar.proofs.SpelledDomains.{faultless_domain, domain_fits, domain_said, one_domain}
use Rattle.pddl_grammar.proofs.laws.domains_are_spelled.Goals as goal

pub returns-clause-read : goal.returns-clause-read
returns-clause-read c = domain_fits

pub returns-clause-again : goal.returns-clause-again
returns-clause-again c = domain_said

pub returns-clause-one : goal.returns-clause-one
returns-clause-one c = one_domain

pub returns-clause-faultless : goal.returns-clause-faultless
returns-clause-faultless c = faultless_domain

pub returns-clause-readable : goal.returns-clause-readable
returns-clause-readable c = domain_readable
