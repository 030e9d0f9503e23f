use Rattle.std.proofs.Common.{◌≡◌, drop}
use Rattle.std.specs.List.{list_all}
use Rattle.ground_task.specs.Rows.{is_narrow}
use Rattle.ground_task.proofs.row.is_each_narrow.Given as goal

abbrev pub invariant-each : goal.invariant-each
invariant-each l = list_all is_narrow (drop l.value-index l.values) ≡ list_all is_narrow l.values
