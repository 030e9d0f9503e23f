use Rattle.std.proofs.Common.{refl, subst, inl, inr}
use Rattle.indexmap.proofs.MapLemmas.{OnOk-map}
use Rattle.search_nodes.specs.Tables.{IsNew, node_of}
use Rattle.search_nodes.proofs.Growing.{new_nodes, not_node}
use Rattle.search_nodes.proofs.Kept.{node_at}
use Rattle.search_runs.specs.Nodes.{IsNode}
use Rattle.search_nodes.proofs.nodes.SearchNodes.meet_kept.Goals as goal

pub enter_kept-requires-clause-new : goal.enter_kept-requires-clause-new
enter_kept-requires-clause-new c =
    subst (λ v. IsNew v.nodes c.args.state) c.self.view_is (new_nodes c.self.inside.table c.args.state c.in-None.ensures.absent)

pub returns-in-Some-clause-ok : goal.returns-in-Some-clause-ok
returns-in-Some-clause-ok c =
    let n = c.in-Some.field-0 in
    let found = c.in-Some.ensures.found in
    let x = node_of (c.args.state, found.0) in
    inl (subst (λ v. IsNode v.nodes c.args.state) c.self.view_is (n, x, node_at c.self.inside.table n (c.args.state, found.0) found.1, refl), refl)

pub returns-in-None-clause-ok : goal.returns-in-None-clause-ok
returns-in-None-clause-ok c =
    let new = subst (λ v. IsNew v.nodes c.args.state) c.self.view_is (new_nodes c.self.inside.table c.args.state c.in-None.ensures.absent) in
    OnOk-map c.enter_kept.result _ _ (λ entered. inr (not_node c.args.self.now.nodes c.args.state new, entered)) c.enter_kept.ensures.ok
