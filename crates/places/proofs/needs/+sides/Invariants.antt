use Rattle.std.proofs.Common.{◌≡◌, drop}
use Rattle.std.specs.List.{list_all}
use Rattle.ground_task.specs.Placed.{has_few_places}
use Rattle.places.proofs.needs.+sides.Given as goal

abbrev pub invariant-have_few_places-each : goal.invariant-have_few_places-each
invariant-have_few_places-each l =
    list_all (has_few_places l.counts) (drop l.cond-index l.conds) ≡ list_all (has_few_places l.counts) l.conds
