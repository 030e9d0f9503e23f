use Rattle.std.proofs.Common.{map, ap, ◌∙◌}
use Rattle.search_nodes.specs.Tables.{node_of}
use Rattle.search_nodes.proofs.Kept.{status_set}
use Rattle.search_nodes.proofs.parts.set_status.Goals as goal

pub returns : goal.returns
returns c =
    ap (map node_of) c.set.ensures
    ∙ status_set c.args.table.now c.args.node c.payload-rest.ensures.0 c.payload-rest.result c.args.status c.payload-rest.ensures.1
