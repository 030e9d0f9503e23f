use Rattle.std.proofs.Common.{◌≡◌, IfSome, IfNone, subst}
use Rattle.search_nodes.specs.Tables.{IsNew}
use Rattle.search_nodes.proofs.Growing.{known_node, none_known}
use Rattle.search_runs.specs.Spaces.{IsAt}
use Rattle.search_runs.specs.declared.nodes.Node.{Node}
use Rattle.ground_task.specs.States.{StateValue}
use Rattle.search_nodes.proofs.nodes.SearchNodes.knows.Goals as goal

pub returns-clause-found : goal.returns-clause-found
returns-clause-found c =
    subst (λ v. IfSome c.find.result (λ n. (x : Node StateValue) × IsAt v.nodes n x × (x.state ≡ c.args.state.now))) c.self.view_is
    (known_node c.self.inside.table c.args.state.now c.find.result c.find.ensures.found)

pub returns-clause-absent : goal.returns-clause-absent
returns-clause-absent c =
    subst (λ v. IfNone c.find.result (IsNew v.nodes c.args.state.now)) c.self.view_is
    (none_known c.self.inside.table c.args.state.now c.find.result c.find.ensures.absent)
