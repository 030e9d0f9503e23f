use Rattle.std.proofs.Common.{◌≡◌, drop, map, not}
use Rattle.std.specs.Prelude.{find, option_map}
use Rattle.bound_actions.specs.Patterns.{is_set_by}
use Rattle.bound_actions.proofs.unset.first_unset.Given as goal

abbrev pub invariant-each : goal.invariant-each
invariant-each l =
    find (λ q. not (is_set_by l.objects q)) (map (λ f. f.fluent) (drop l.assigned-index l.fluents)) ≡ find (λ q. not (is_set_by l.objects q)) (map (λ f. f.fluent) l.fluents)
