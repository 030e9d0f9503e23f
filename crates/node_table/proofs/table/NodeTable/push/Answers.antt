use Rattle.std.proofs.Common.{◌++◌, [], ◌∷◌, ap, ◌∙◌}
use Rattle.indexmap.proofs.CallerLemmas.{insert_entry-new}
use Rattle.ground_task.specs.Orders.{is_same_state}
use Rattle.node_table.proofs.Places.{no_key}
use Rattle.node_table.proofs.table.NodeTable.push.Goals as goal

pub returns-clause-ok : goal.returns-clause-ok
returns-clause-ok g c =
    let absent = no_key c.args.state c.self.inside.table.entries (rw c.self.view_is c.requires.absent) in
    c.in_ok-insert.ensures.entries
    ∙ insert_entry-new is_same_state c.self.inside.table c.args.state c.args.payload absent
    ∙ ap (λ nodes. nodes ++ (c.args.state, c.args.payload) ∷ []) c.self.view_is
