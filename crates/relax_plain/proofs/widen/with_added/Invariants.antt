use Rattle.std.proofs.Common.{◌≡◌, true, take}
use Rattle.relax_plain.specs.Spread.{IsSpread}
use Rattle.relax_plain.proofs.BoxLemmas.{may_be_all}
use Rattle.relax_plain.proofs.widen.with_added.Given as goal

abbrev pub invariant-each : goal.invariant-each
invariant-each l = record {
  spread : IsSpread l.task l.fn.state_box l.fn.marks l.wider l.marks;
  added : may_be_all (take l.fact-index l.action.adds) l.wider ≡ true;
}
