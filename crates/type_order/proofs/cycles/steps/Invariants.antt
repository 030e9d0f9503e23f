use Rattle.std.proofs.Common.{◌≡◌, ◌++◌, drop, map}
use Rattle.std.specs.Option.{option_copied}
use Rattle.type_order.specs.Types.{parent_of}
use Rattle.type_order.proofs.cycles.steps.Given as goal

abbrev pub invariant-each : goal.invariant-each
invariant-each l =
    map option_copied l.jumps.items ++ map (λ t. parent_of l.order t.name.text) (drop l.item-index l.item-items) ≡ map (λ t. parent_of l.order t.name.text) l.item-items
