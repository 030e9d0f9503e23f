use Rattle.std.proofs.Common.{◌≡◌, ◌<◌, List, Some, ap, get_or, length, subst, sym, ◌∙◌}
use Rattle.pddl_terms.specs.declared.actions.Schema.{Schema}
use Rattle.pddl_terms.specs.declared.files.Domain.{Domain}
use Rattle.pddl_meaning.proofs.Places.{at_place, found_at, not_found, place_within}
use Rattle.pddl_meaning.proofs.steps.schema_named.Goals as goal

pub bounds-as_slice-number : goal.bounds-as_slice-number
bounds-as_slice-number c =
    subst (λ (ss : List Schema). c.in-Some.number < length ss) (sym (c.as_slice.ensures ∙ ap (λ (d : Domain). d.schemas) c.domain.ensures.domain))
    (place_within (λ (s : Schema). s.name) c.args.name.now c.args.checked.now.domain.schemas c.in-Some.number c.in-Some.ensures)

pub returns-in-Some : goal.returns-in-Some
returns-in-Some c =
    let schemas = c.args.checked.now.domain.schemas in
    let same : c.as_slice.result.now ≡ schemas = c.as_slice.ensures ∙ ap (λ (d : Domain). d.schemas) c.domain.ensures.domain in
    let within = place_within (λ (s : Schema). s.name) c.args.name.now schemas c.in-Some.number c.in-Some.ensures in
    let own = c.index-as_slice-number.result in
    sym (found_at (λ (s : Schema). s.name) c.args.name.now schemas c.in-Some.number own c.in-Some.ensures
    (at_place (λ (s : Schema). s.name) schemas c.in-Some.number own within ∙ ap Some (ap (λ (ss : List Schema). get_or ss c.in-Some.number own) (sym same) ∙ sym c.index-as_slice-number.is)))

pub returns-in-None : goal.returns-in-None
returns-in-None c = sym (not_found (λ (s : Schema). s.name) c.args.name.now c.args.checked.now.domain.schemas c.in-None.ensures)
