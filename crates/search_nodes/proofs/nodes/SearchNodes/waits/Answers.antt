use Rattle.std.proofs.Common.{sym, ap}
use Rattle.search_nodes.proofs.Kept.{none_first}
use Rattle.search_runs.proofs.Stays.{where_some}
use Rattle.search_runs.specs.Answers.{is_waiting}
use Rattle.search_nodes.proofs.nodes.SearchNodes.waits.Goals as goal

pub returns-in-Some : goal.returns-in-Some
returns-in-Some c =
    let least = c.in-Some.ensures.1 in
    sym (where_some is_waiting c.args.self.now.nodes c.in-Some.field-0 least.node least.there (ap is_waiting least.waits))

pub returns-in-None : goal.returns-in-None
returns-in-None c = sym (none_first c.args.self.now.nodes c.in-None.ensures)
