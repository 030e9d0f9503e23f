use Rattle.std.proofs.Common.{◌≡◌, Some, slice_get, refl, subst}
use Rattle.ground_task.specs.States.{StateValue}
use Rattle.search_nodes.specs.Tables.{node_of}
use Rattle.search_nodes.proofs.Kept.{node_at}
use Rattle.search_runs.specs.declared.nodes.Node.{Node}
use Rattle.search_nodes.proofs.nodes.SearchNodes.state.Goals as goal

pub returns : goal.returns
returns c =
    let s = c.state.result.now in
    let r = c.state.ensures.0 in
    subst (λ v. (x : Node StateValue) × (slice_get v.nodes c.args.node ≡ Some x) × (x.state ≡ s)) c.self.view_is
    (node_of (s, r), node_at c.self.inside.table c.args.node (s, r) c.state.ensures.1, refl)
