use Rattle.std.proofs.Common.{◌≡◌, true, false, take}
use Rattle.std.specs.List.{list_all}
use Rattle.box_model.specs.Demands.{meets_change}
use Rattle.relax_plain.specs.Marks.{is_marked}
use Rattle.relax_plain.specs.Spread.{IsSpread}
use Rattle.relax_plain.proofs.widen.with_changes.Given as goal

abbrev pub invariant-each : goal.invariant-each
invariant-each l = record {
  spread : IsSpread l.task l.fn.state_box l.fn.marks l.wider l.marks;
  changed : is_marked l.marks l.number ≡ false → list_all (λ effect. meets_change l.task.places l.wider l.action.pre effect.0 effect.1) (take l.fluent-index l.action.nums) ≡ true;
}
