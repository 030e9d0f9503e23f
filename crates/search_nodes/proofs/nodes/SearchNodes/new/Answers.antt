use Rattle.std.proofs.Common.{sym, None, subst}
use Rattle.search_nodes.specs.Tables.{IsTable}
use Rattle.search_nodes.proofs.Kept.{table_empty}
use Rattle.search_nodes.proofs.nodes.SearchNodes.new.Goals as goal

pub invariant_of-result : goal.invariant_of-result
invariant_of-result c =
    subst (λ nodes. IsTable c.args.task c.args.most nodes c.new-3.result c.new-2.result None 0) (sym c.new.ensures)
    (subst (λ e. IsTable c.args.task c.args.most _ e c.new-2.result None 0) (sym c.new-3.ensures)
    (subst (λ f. IsTable c.args.task c.args.most _ _ f None 0) (sym c.new-2.ensures) (table_empty c.args.task c.args.most c.requires.states c.requires.boxes)))
