use Rattle.std.proofs.Common.{◌<◌, ℕ, List, ◌∷◌, length, slice_index_or, sym, ap, ap₂, subst, ◌∙◌}
use Rattle.pddl_terms.specs.declared.names.Sig.{Sig}
use Rattle.pddl_terms.specs.declared.files.Domain.{Domain}
use Rattle.pddl_types.specs.Pairs.{objects_of}
use Rattle.pddl_types.specs.WellFormed.{Each}
use Rattle.static_facts.specs.Atoms.{names, text_of_atom}
use Rattle.grounder.specs.internal.Decoded.{symbol_of}
use Rattle.grounder.proofs.Decoding.{fluent_objects, fluent_symbol, head_there, if_ok}
use Rattle.grounder.proofs.atoms.fluent_text.Goals as goal

pub atom_text-requires : goal.atom_text-requires
atom_text-requires c = record {
  known = subst (λ (os : List ℕ). Each (λ o. o < length (objects_of c.args.checked.now)) os) (sym (c.as_slice.ensures.value ∙ c.in_ok-numbers.ensures.objects))
      (fluent_objects c.args.checked.now c.domain.ensures.readable c.domain.ensures.well_formed c.args.code c.requires.of_fluent);
}

pub returns : goal.returns
returns c =
    let p = c.args.checked.now in
    let sig = c.index-functions-numbers.result in
    let symbol = c.in_ok-numbers.ensures.symbol in
    let objects = c.as_slice.ensures.value ∙ c.in_ok-numbers.ensures.objects in
    let sigs = c.as_slice-functions.ensures ∙ ap (λ (d : Domain). d.functions) c.domain.ensures.domain in
    let at = c.index-functions-numbers.is ∙ ap (λ (l : List Sig). slice_index_or l c.in_ok-numbers.numbers.symbol sig) sigs
    ∙ ap (λ (n : ℕ). slice_index_or p.domain.functions n sig) symbol in
    let head = c.as_slice-head.ensures ∙ ap (λ (u : Sig). u.name.text) (sym c.index-functions-numbers.is)
    ∙ head_there p.domain.functions (symbol_of c.args.code) sig (fluent_symbol p c.domain.ensures.readable c.domain.ensures.well_formed c.args.code c.requires.of_fluent) at in
    if_ok c.atom_text.result _ _ (λ text is. is ∙ ap₂ (λ (h os : List ℕ). text_of_atom (h ∷ names p os)) head objects) c.atom_text.ensures
