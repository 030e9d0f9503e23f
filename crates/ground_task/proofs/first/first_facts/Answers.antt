use Rattle.std.proofs.Common.{◌≡◌, ℕ, List, take, false, ap, ◌∙◌}
use Rattle.std.proofs.lemmas.List.{take_all}
use Rattle.std.proofs.lemmas.List.FromFn.{fill_by_all}
use Rattle.ground_task.specs.Tasks.{is_listed}
use Rattle.ground_task.proofs.first.first_facts.Goals as goal

pub returns : goal.returns
returns c =
    let all : take c.each.fact-index c.args.listed.now ≡ c.args.listed.now = take_all _ _ c.each-test.false in
    fill_by_all (is_listed c.args.listed.now) c.each.facts.items c.args.count false c.each.invariant.0
    (λ f known. c.each.invariant.1 f known ∙ ap (λ (xs : List ℕ). is_listed xs f) all)
