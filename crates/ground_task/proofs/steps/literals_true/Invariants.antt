use Rattle.std.proofs.Common.{◌≡◌, drop}
use Rattle.std.specs.List.{list_all}
use Rattle.ground_task.specs.declared.raw.GCond.{out-GCond}
use Rattle.ground_task.specs.Ranged.{literal_layer}
use Rattle.ground_task.proofs.steps.literals_true.Given as goal

abbrev pub invariant-each : goal.invariant-each
invariant-each l =
    list_all (λ d. literal_layer l.state (out-GCond d)) (drop l.conjunct-index l.conjunct-items) ≡ list_all (λ d. literal_layer l.state (out-GCond d)) l.conjunct-items
