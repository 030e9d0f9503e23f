use Rattle.std.proofs.Common.{ℕ, List, map, subst}
use Rattle.std.specs.List.Sorted.{IsPermutation}
use Rattle.coded_actions.specs.Coded.{action_of, condition_of}
use Rattle.numbering.specs.internal.Closures.{IsClosure}
use Rattle.numbering.proofs.Reaching.{are_relevant}
use Rattle.numbering.proofs.fluents.fluent_codes.Goals as goal

pub returns : goal.returns
returns c =
    let actions = map action_of c.args.actions.now in
    let edges = c.sorted-edges.result.items in
    let reached = c.in_ok-reached.reached.items in
    let same = subst (λ (l : List (ℕ × ℕ)). IsPermutation l edges) c.in_ok-edges.ensures c.sorted-edges.ensures.same in
    let closed = subst (λ (l : List (ℕ × ℕ)). IsClosure c.in_ok-starts.starts.items l reached) c.as_slice-2.ensures.value
    (subst (λ (l : List ℕ). IsClosure l c.as_slice-2.result.now reached) c.as_slice.ensures.value c.in_ok-reached.ensures) in
    are_relevant actions (condition_of c.args.goal.now) edges same c.in_ok-starts.starts.items reached c.rising.result.items c.in_ok-starts.ensures closed c.rising.ensures
