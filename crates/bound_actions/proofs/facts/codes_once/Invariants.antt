use Rattle.std.proofs.Common.{◌≡◌, [], drop, map}
use Rattle.ground_meaning.specs.Actions.{each_once}
use Rattle.bound_actions.specs.Patterns.{fact_code_by}
use Rattle.bound_actions.proofs.facts.codes_once.Given as goal

abbrev pub invariant-each : goal.invariant-each
invariant-each l = each_once l.codes.items (map (fact_code_by l.objects) (drop l.fact-index l.facts)) ≡ each_once [] (map (fact_code_by l.objects) l.facts)
