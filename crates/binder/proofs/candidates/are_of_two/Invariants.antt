use Rattle.std.proofs.Common.{◌≡◌, drop}
use Rattle.std.specs.List.{list_all}
use Rattle.binder.specs.internal.Candidates.{is_of_two}
use Rattle.binder.proofs.candidates.are_of_two.Given as goal

abbrev pub invariant-each : goal.invariant-each
invariant-each l = list_all (is_of_two l.place l.last) (drop l.slot-index l.slots) ≡ list_all (is_of_two l.place l.last) l.slots
