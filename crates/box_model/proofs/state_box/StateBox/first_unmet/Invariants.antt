use Rattle.std.proofs.Common.{◌≡◌, drop}
use Rattle.std.specs.List.{position_from}
use Rattle.box_model.specs.Demands.{is_unmet}
use Rattle.box_model.proofs.state_box.StateBox.first_unmet.Given as goal

abbrev pub invariant-each : goal.invariant-each
invariant-each l =
    position_from (is_unmet l.task.places l.self) l.number (drop l.number l.task.raw.actions)
    ≡ position_from (is_unmet l.task.places l.self) 0 l.task.raw.actions
