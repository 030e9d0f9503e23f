use Rattle.std.proofs.Common.{refl, sym, subst, ap, ◌∙◌}
use Rattle.search_nodes.specs.Parts.{joined_taken}
use Rattle.search_nodes.specs.Tables.{IsOther, node_of}
use Rattle.search_nodes.proofs.Kept.{node_at, same_table, table_changed, taken_few, taken_some}
use Rattle.search_nodes.proofs.nodes.SearchNodes.change.Goals as goal

pub leave_taken-self-inside-requires : goal.leave_taken-self-inside-requires
leave_taken-self-inside-requires c = λ held.
    taken_some c.self.inside.task c.self.inside.most c.self.inside.table c.self.inside.explored c.self.inside.frontier c.self.inside.goal c.self.inside.taken c.args.node
    c.payload-old.ensures.0 c.payload-old.result c.payload-old.ensures.1 c.self.invariant held

pub join_taken-self-inside-requires : goal.join_taken-self-inside-requires
join_taken-self-inside-requires c =
    rw c.leave_taken-self-inside.ensures (taken_few c.self.inside.task c.self.inside.most c.self.inside.table c.self.inside.explored c.self.inside.frontier c.self.inside.goal c.self.inside.taken c.payload-old.result.status c.self.invariant)

pub invariant_of-self : goal.invariant_of-self
invariant_of-self c =
    let x = node_of (c.payload-old.ensures.0, c.payload-old.result) in
    let at = node_at c.self.inside.table c.args.node (c.payload-old.ensures.0, c.payload-old.result) c.payload-old.ensures.1 in
    let other = subst (λ v. IsOther v.nodes c.args.node) (sym c.self.view_is) c.requires.old in
    let changed = table_changed c.self.inside.task c.self.inside.most c.self.inside.table c.set_status.new.table c.self.inside.explored c.self.inside.frontier c.self.inside.goal c.self.inside.taken c.args.node
    x c.args.status at (other x at) c.requires.not_waiting c.requires.not_goal c.set_status.ensures c.self.invariant in
    same_table c.self.inside.task c.self.inside.most c.self.inside.explored refl c.leave_frontier.ensures refl
    (c.join_taken-self-inside.ensures ∙ ap (λ k. joined_taken k c.args.status) c.leave_taken-self-inside.ensures) changed
