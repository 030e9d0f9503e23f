use Rattle.std.proofs.Common.{◌≡◌, drop}
use Rattle.std.specs.List.{list_all}
use Rattle.ground_task.specs.Rows.{is_narrow}
use Rattle.ground_task.proofs.row.Row.is_all_narrow.Given as goal

abbrev pub invariant-each : goal.invariant-each
invariant-each l = list_all is_narrow (drop l.place l.self.values) ≡ list_all is_narrow l.self.values
