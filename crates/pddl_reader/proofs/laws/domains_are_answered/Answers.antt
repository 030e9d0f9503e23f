use Rattle.pddl_terms.specs.declared.files.Domain.{Domain}
use Rattle.pddl_trees.specs.Domains.{domain_in}
use Rattle.pddl_grammar.specs.Domains.{SpellsDomain}
use Rattle.pddl_grammar.proofs.SpelledDomains.{faultless_domain, domain_said}
use Rattle.pddl_reader.proofs.Causes.{answered, one_answer, refused_unsaid}
use Rattle.pddl_reader.proofs.laws.domains_are_answered.Goals as goal

pub returns-clause-some : goal.returns-clause-some
returns-clause-some c = answered Domain domain_in SpellsDomain faultless_domain

pub returns-clause-refused : goal.returns-clause-refused
returns-clause-refused c = λ text fault domain x spelled.
    let said = domain_said text domain spelled in
    refused_unsaid Domain domain_in text fault said.0 domain x said.1

pub returns-clause-fault : goal.returns-clause-fault
returns-clause-fault c = one_answer Domain domain_in
