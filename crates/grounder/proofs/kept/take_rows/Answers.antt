use Rattle.grounder.proofs.Taking.{row_known}
use Rattle.grounder.proofs.kept.take_rows.Goals as goal

pub take_binding-requires-clause-known : goal.take_binding-requires-clause-known
take_binding-requires-clause-known g c =
    row_known (g.F.Outcomes.pair c.args.folder.now) (g.F.Outcomes.schema c.args.folder.now) c.args.rows.now.1 c.each.number c.row.result.now c.requires.bound c.row.ensures.row
