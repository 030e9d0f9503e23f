use Rattle.std.proofs.Common.{◌<◌, length, refl, sym, subst, ap, ◌∙◌, arith}
use Rattle.search_nodes.specs.Parts.{CanJoin, joined_frontier, joined_goal}
use Rattle.search_nodes.specs.Tables.{IsNew}
use Rattle.search_nodes.proofs.Kept.{new_key, can_join, length-nodes, same_table, table_pushed}
use Rattle.search_nodes.proofs.nodes.SearchNodes.push.Goals as goal

pub push-requires-clause-absent : goal.push-requires-clause-absent
push-requires-clause-absent c =
    new_key c.self.inside.table c.args.state (subst (λ v. IsNew v.nodes c.args.state) (sym c.self.view_is) c.requires.new)

pub join_frontier-requires : goal.join_frontier-requires
join_frontier-requires c =
    let is = c.self.invariant in
    subst (λ n. CanJoin c.self.inside.frontier n c.args.rest.status) (length-nodes c.self.inside.table ∙ sym c.len-node.ensures.len)
    (can_join c.self.inside.frontier _ c.args.rest.status is.waiting)

pub invariant_of-self-2 : goal.invariant_of-self-2
invariant_of-self-2 c =
    let st = c.args.rest.status in
    let room = subst (λ v. length v.nodes < v.most.states) (sym c.self.view_is) c.requires.room in
    let pushed = table_pushed c.self.inside.task c.self.inside.most c.self.inside.table c.self.inside.explored c.self.inside.frontier c.self.inside.goal c.self.inside.taken c.args.state c.args.rest
    (omega (arith, room, length-nodes c.self.inside.table)) c.requires.not_taken c.self.invariant in
    let len = c.len-node.ensures.len in
    same_table c.self.inside.task c.self.inside.most c.self.inside.explored c.in_ok-push.ensures.ok
    (c.in-Ok.ensures.ok ∙ ap (λ n. joined_frontier c.self.inside.frontier n st) len)
    (c.join_goal-self-inside.ensures ∙ ap (λ n. joined_goal c.self.inside.goal n st) len) refl pushed
