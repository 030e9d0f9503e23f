use Rattle.std.proofs.Common.{[], arith, map}
use Rattle.ground_meaning.specs.Actions.{each_once}
use Rattle.bound_actions.specs.Patterns.{fact_code_by}
use Rattle.bound_actions.proofs.Members.{once_more}
use Rattle.bound_actions.proofs.facts.codes_once.Goals as goal

pub each-preserved : goal.each-preserved
each-preserved c =
    once_more (fact_code_by c.args.objects.now) c.args.facts.now c.each.fact-index c.fact-item.result (omega arith) c.fact-item.is c.each.codes.items c.push_new.new.codes.items c.code.result
    c.code.ensures c.in_ok-push_new.ensures (each_once [] (map (fact_code_by c.args.objects.now) c.args.facts.now)) c.each.invariant
