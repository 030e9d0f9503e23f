use Rattle.std.proofs.Common.{◌≤◌, length, vec_capacity, sym, subst, ap, ◌∙◌}
use Rattle.search_nodes.proofs.Kept.{length-set}
use Rattle.search_nodes.proofs.store.NodeStore.set.Goals as goal

pub invariant_of-self : goal.invariant_of-self
invariant_of-self c =
    let same = ap length c.set.ensures ∙ length-set c.self.inside.table c.args.node c.args.rest in
    record {
      empty = c.self.invariant.empty;
      none = c.self.invariant.none;
      room = subst (λ n. n ≤ vec_capacity c.self.inside.room) (sym same) c.self.invariant.room;
    }
