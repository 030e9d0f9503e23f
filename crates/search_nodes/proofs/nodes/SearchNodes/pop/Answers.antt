use Rattle.std.proofs.Common.{◌≡◌, ◌<◌, ◌-◌, suc, length, map, take, sym, subst, ap, ◌∙◌, arith}
use Rattle.search_nodes.specs.Parts.{left_frontier, left_goal}
use Rattle.search_nodes.specs.Tables.{IsTable, WithNodes, node_of}
use Rattle.search_nodes.proofs.Kept.{length-nodes, nodes_shorter, table_shorter, taken_some}
use Rattle.search_nodes.proofs.nodes.SearchNodes.pop.Goals as goal

pub leave_taken-self-inside-requires : goal.leave_taken-self-inside-requires
leave_taken-self-inside-requires c = λ held.
    taken_some c.self.inside.task c.self.inside.most c.self.inside.table c.self.inside.explored c.self.inside.frontier c.self.inside.goal c.self.inside.taken (c.len-last.result - 1)
    c.payload-status.ensures.0 c.payload-status.result c.payload-status.ensures.1 c.self.invariant held

pub invariant_of-self : goal.invariant_of-self
invariant_of-self c =
    let n = c.len-last.result - 1 in
    let st = c.payload-status.result.status in
    let some = subst (λ v. 0 < length v.nodes) (sym c.self.view_is) c.requires.some in
    let long : length c.self.inside.table ≡ suc n = omega (arith, some, length-nodes c.self.inside.table, c.len-last.ensures.len) in
    let shorter = table_shorter c.self.inside.task c.self.inside.most c.self.inside.table c.self.inside.explored c.self.inside.frontier c.self.inside.goal c.self.inside.taken n
    c.payload-status.ensures.0 c.payload-status.result c.payload-status.ensures.1 long c.self.invariant in
    subst (λ k. IsTable c.self.inside.task c.self.inside.most k c.self.inside.explored c.leave_frontier.new.frontier c.leave_goal-self-inside.result c.leave_taken-self-inside.result) (sym c.cut.ensures)
    (subst (λ f. IsTable c.self.inside.task c.self.inside.most (take n c.self.inside.table) c.self.inside.explored f c.leave_goal-self-inside.result c.leave_taken-self-inside.result) (sym c.leave_frontier.ensures)
    (subst (λ g. IsTable c.self.inside.task c.self.inside.most (take n c.self.inside.table) c.self.inside.explored (left_frontier c.self.inside.frontier n st) g c.leave_taken-self-inside.result) (sym c.leave_goal-self-inside.ensures)
    (subst (λ k. IsTable c.self.inside.task c.self.inside.most (take n c.self.inside.table) c.self.inside.explored (left_frontier c.self.inside.frontier n st) (left_goal c.self.inside.goal n) k) (sym c.leave_taken-self-inside.ensures) shorter)))

pub returns : goal.returns
returns c =
    let n = c.len-last.result - 1 in
    let some = subst (λ v. 0 < length v.nodes) (sym c.self.view_is) c.requires.some in
    let long : length c.self.inside.table ≡ suc n = omega (arith, some, length-nodes c.self.inside.table, c.len-last.ensures.len) in
    ap (λ k. record { task = c.self.inside.task; most = c.self.inside.most; nodes = map node_of k; boxes = c.self.inside.explored.boxes; over = c.self.inside.explored.over; full = c.self.inside.explored.full }) c.cut.ensures
    ∙ ap (λ k. record { task = c.self.inside.task; most = c.self.inside.most; nodes = k; boxes = c.self.inside.explored.boxes; over = c.self.inside.explored.over; full = c.self.inside.explored.full }) (nodes_shorter c.self.inside.table n long)
    ∙ ap (λ v. WithNodes (take (length v.nodes - 1) v.nodes) v) c.self.view_is
