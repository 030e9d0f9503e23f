use Rattle.std.proofs.Common.{ap, ◌∙◌, map, not, is_some, List, nat_eq}
use Rattle.indexmap.specs.IndexMap as entries
use Rattle.indexmap.specs.IndexSet as set
use Rattle.pddl_terms.specs.declared.actions.Schema.{Schema}
use Rattle.pddl_terms.specs.declared.files.Domain.{Domain}
use Rattle.pddl_terms.specs.declared.names.Sig.{Sig}
use Rattle.name_table.specs.Tables.{numbered, table_number}
use Rattle.pddl_types.specs.Pairs.{changed_heads}
use Rattle.static_facts.specs.Fixed.{changed_predicate_heads}
use Rattle.static_facts.proofs.Stored.{stored}
use Rattle.static_facts.proofs.statics.find_statics.Goals as goal

pub invariant_of-result : goal.invariant_of-result
invariant_of-result c =
    let domain = c.domain-domain.ensures.domain in
    stored c.args.checked.now c.domain-domain.ensures.well_formed c.domain-domain.ensures.readable c.in_ok-changed.changed c.in_ok-changed-2.changed
    c.in_ok-fixed_predicates.fixed_predicates.items c.in_ok-fixed_functions.fixed_functions.items (set.contains nat_eq c.in_ok-facts.facts) (entries.get nat_eq c.in_ok-values.values)
    (c.in_ok-changed.ensures ∙ ap (λ (ss : List Schema). numbered (changed_predicate_heads ss)) (c.as_slice.ensures ∙ ap (λ (d : Domain). d.schemas) domain))
    (c.in_ok-changed-2.ensures ∙ ap (λ (ss : List Schema). numbered (changed_heads ss)) (c.as_slice-3.ensures ∙ ap (λ (d : Domain). d.schemas) domain))
    (c.in_ok-fixed_predicates.ensures ∙ ap (map (λ (s : Sig). not (is_some (table_number s.name.text c.in_ok-changed.changed)))) (c.as_slice-2.ensures ∙ ap (λ (d : Domain). d.predicates) domain))
    (c.in_ok-fixed_functions.ensures ∙ ap (map (λ (s : Sig). not (is_some (table_number s.name.text c.in_ok-changed-2.changed)))) (c.as_slice-4.ensures ∙ ap (λ (d : Domain). d.functions) domain))
    c.in_ok-facts.ensures c.in_ok-values.ensures
