use Rattle.std.proofs.Common.{ap, sym, ◌∙◌}
use Rattle.std.specs.Map.Iter.{deref_pair}
use Rattle.std.specs.Option.{option_map}
use Rattle.node_table.proofs.table.NodeTable.state.Goals as goal

pub returns : goal.returns
returns g c =
    rw (← c.self.view_is) (c.unwrap.result.1.now, sym c.get_index.ensures.entry ∙ ap (λ o. option_map deref_pair o) c.unwrap.ensures)
