use Rattle.std.proofs.Common.{◌≡◌, ◌||◌, List, [], drop, subst, arith}
use Rattle.std.proofs.lemmas.List.{drop_all}
use Rattle.std.specs.List.{list_any}
use Rattle.ground_task.specs.Orders.{is_same_state}
use Rattle.ground_task.specs.States.{StateValue}
use Rattle.cert_check.proofs.Listed.{all_added, next_added}
use Rattle.cert_check.proofs.set.StateSet.of.Goals as goal

pub each-preserved : goal.each-preserved
each-preserved c =
    next_added c.each.set c.add.new.self c.args.states.now c.each.state-index c.state-item.result (omega arith) c.state-item.is c.in_ok-add.ensures c.each.invariant

pub returns : goal.returns
returns c = λ s.
    let none : drop c.each.state-index c.args.states.now ≡ [] = drop_all c.each.state-index c.args.states.now (omega arith) in
    all_added c.each.set c.args.states.now s
    (subst (λ (xs : List StateValue). (list_any (is_same_state s) c.each.set || list_any (is_same_state s) xs) ≡ list_any (is_same_state s) c.args.states.now) none (c.each.invariant s))
