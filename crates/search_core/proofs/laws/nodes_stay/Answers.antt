use Rattle.search_core.proofs.Events.{node_stays, nodes_continue}
use Rattle.search_core.proofs.laws.nodes_stay.Goals as goal

pub returns : goal.returns
returns c = record { event = node_stays; events = nodes_continue }
