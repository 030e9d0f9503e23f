use Rattle.std.proofs.Common.{◌≡◌, ◌≤◌, ℕ, List, Some, None, ap, sym, subst, ◌∙◌, slice_get}
use Rattle.std.specs.Prelude.{MatchResult, option_copied}
use Rattle.pddl_terms.specs.declared.actions.Schema.{Schema}
use Rattle.pddl_terms.specs.declared.files.Domain.{Domain}
use Rattle.pddl_terms.specs.declared.limits.TheConstants.{MAX_PREFIXES}
use Rattle.static_facts.specs.Bindings.{bindings, prefix_count}
use Rattle.binder.specs.Bound.{IsBindFault}
use Rattle.binder.proofs.Dropped.{few_of_found, found_stands}
use Rattle.binder.proofs.bindings.bind_rows.Goals as goal

pub bound-requires-clause-few_params : goal.bound-requires-clause-few_params
bound-requires-clause-few_params c =
    let schemas = c.args.checked.now.domain.schemas in
    let there : slice_get schemas c.args.schema ≡ Some c.in-Some.found.now =
    sym (ap (λ (xs : List Schema). slice_get xs c.args.schema) (c.as_slice.ensures ∙ ap (λ (d : Domain). d.schemas) c.domain-domain.ensures.domain))
    ∙ sym c.at.ensures ∙ ap option_copied c.in-Some.is in
    few_of_found schemas c.domain-domain.ensures.readable.domain.schemas c.args.schema c.in-Some.found.now there

pub bound-requires-clause-stands : goal.bound-requires-clause-stands
bound-requires-clause-stands c =
    let schemas = c.args.checked.now.domain.schemas in
    let there : slice_get schemas c.args.schema ≡ Some c.in-Some.found.now =
    sym (ap (λ (xs : List Schema). slice_get xs c.args.schema) (c.as_slice.ensures ∙ ap (λ (d : Domain). d.schemas) c.domain-domain.ensures.domain))
    ∙ sym c.at.ensures ∙ ap option_copied c.in-Some.is in
    found_stands schemas c.args.schema c.in-Some.found.now there

pub returns-in-Some : goal.returns-in-Some
returns-in-Some c s h =
    let p = c.args.checked.now in
    let there : slice_get p.domain.schemas c.args.schema ≡ Some c.in-Some.found.now =
    sym (ap (λ (xs : List Schema). slice_get xs c.args.schema) (c.as_slice.ensures ∙ ap (λ (d : Domain). d.schemas) c.domain-domain.ensures.domain))
    ∙ sym c.at.ensures ∙ ap option_copied c.in-Some.is in
    let equal : Some c.in-Some.found.now ≡ Some s = sym there ∙ h in
    let same : c.in-Some.found.now ≡ s = cc in
    subst (λ (u : Schema). MatchResult c.bound.result (λ (rows : ℕ × List (List ℕ)). (rows.1 ≡ bindings p u) × (prefix_count p u ≤ MAX_PREFIXES)) (IsBindFault p c.args.schema u)) same c.bound.ensures

pub returns-in-None : goal.returns-in-None
returns-in-None c s h =
    let none : slice_get c.args.checked.now.domain.schemas c.args.schema ≡ None =
    sym (ap (λ (xs : List Schema). slice_get xs c.args.schema) (c.as_slice.ensures ∙ ap (λ (d : Domain). d.schemas) c.domain-domain.ensures.domain))
    ∙ sym c.at.ensures ∙ ap option_copied c.in-None.is in
    let bad : None ≡ Some s = sym none ∙ h in
    cc
