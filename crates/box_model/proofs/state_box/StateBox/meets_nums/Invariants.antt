use Rattle.std.proofs.Common.{◌≡◌, drop}
use Rattle.std.specs.List.{list_all}
use Rattle.box_model.specs.Demands.{meets_change}
use Rattle.box_model.proofs.state_box.StateBox.meets_nums.Given as goal

abbrev pub invariant-each : goal.invariant-each
invariant-each l =
    list_all (λ effect. meets_change l.task.places l.self l.action.pre effect.0 effect.1) (drop l.fluent-index l.action.nums)
    ≡ list_all (λ effect. meets_change l.task.places l.self l.action.pre effect.0 effect.1) l.action.nums
