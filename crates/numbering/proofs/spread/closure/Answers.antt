use Rattle.std.proofs.Common.{◌<◌, ℕ, List, length, slice_index_or, sym, ap, subst, ◌∙◌, arith}
use Rattle.std.specs.Prelude.{nat_eq}
use Rattle.indexmap.specs.IndexSet.{insert_all}
use Rattle.numbering.specs.internal.Closures.{IsClosure}
use Rattle.numbering.proofs.Lists.{nothing}
use Rattle.numbering.proofs.Spreading.{spread_bound, spread_end, spread_next, spread_start}
use Rattle.numbering.proofs.spread.closure.Goals as goal

pub each-init : goal.each-init
each-init c =
    let empty = nothing c.new-reached.result.keys c.new-reached.ensures.len in
    let first = c.in_ok-add_all.ensures ∙ ap (λ (ks : List ℕ). insert_all nat_eq ks c.args.starts.now) empty in
    (spread_start c.args.starts.now c.args.edges.now c.add_all.new.reached.keys first, omega arith)

pub each-smaller : goal.each-smaller
each-smaller c =
    let few = spread_bound c.args.starts.now c.args.edges.now c.each.reached.keys c.each.next c.each.invariant.0 c.len.ensures.unique in
    let below : c.each.next < length c.each.reached.keys = omega (arith, c.each-test.true, c.len.ensures.len) in
    omega (arith, few, below)

pub each-preserved : goal.each-preserved
each-preserved c =
    let few = spread_bound c.args.starts.now c.args.edges.now c.each.reached.keys c.each.next c.each.invariant.0 c.len.ensures.unique in
    let below : c.each.next < length c.each.reached.keys = omega (arith, c.each-test.true, c.len.ensures.len) in
    let code = ap (λ (l : List ℕ). slice_index_or l c.each.next 0) (sym c.as_slice.ensures.keys) in (
      spread_next c.args.starts.now c.args.edges.now c.each.reached.keys c.each.next _ c.edges_from.result.now c.add_ends.new.reached.keys c.each.invariant.0 below code c.edges_from.ensures c.in_ok-add_ends.ensures,
      omega (arith, few, below),
    )

pub returns : goal.returns
returns c =
    let is = c.in_ok-from_slice.ensures.items ∙ c.as_slice-2.ensures.keys in
    subst (λ (l : List ℕ). IsClosure c.args.starts.now c.args.edges.now l) (sym is)
    (spread_end c.args.starts.now c.args.edges.now c.each.reached.keys c.each.next c.each.invariant.0 (omega (arith, c.each-test.false, c.len.ensures.len)))
