use Rattle.std.proofs.Common.{List, ap, arith, sym, ◌∙◌}
use Rattle.std.proofs.lemmas.List.{length-map}
use Rattle.folded_terms.specs.Operands.{operand_of}
use Rattle.folding.specs.declared.changes.PendingChange.{PendingChange}
use Rattle.folding.specs.internal.Changes.{all_pending, growth_place, pending}
use Rattle.folding.proofs.Grown.{grown_match, place_within}
use Rattle.folding.proofs.growth.grow.Goals as goal

pub index_mut-requires : goal.index_mut-requires
index_mut-requires c =
    let within = place_within c.args.fluent (all_pending c.as_slice.result.now) c.in-Some.place (sym c.in-Some.ensures) in
    omega (arith, within, length-map c.as_slice.result.now pending, c.as_slice.ensures.len)

pub returns-in-Some : goal.returns-in-Some
returns-in-Some c =
    grown_match c.args.decrease c.args.fluent (operand_of c.args.value) c.args.changes.now.items c.in-Some.place c.index_mut.result.now c.join.new.change c.join.result
    (sym (c.in-Some.ensures ∙ ap (λ (changes : List PendingChange). growth_place c.args.fluent (all_pending changes)) c.as_slice.ensures.value)) c.index_mut.ensures.value c.join.ensures.fluent
    c.join.ensures.replaces c.join.ensures.value
