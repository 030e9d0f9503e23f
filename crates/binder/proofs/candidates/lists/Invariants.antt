use Rattle.std.proofs.Common.{◌≡◌, length}
use Rattle.binder.specs.internal.Candidates.{ArePassing}
use Rattle.binder.proofs.candidates.lists.Given as goal

abbrev pub invariant-each : goal.invariant-each
invariant-each l = record {
  count : length l.lists.items ≡ l.value;
  passing : ArePassing l.statics l.check l.width l.objects l.lists.items;
}
