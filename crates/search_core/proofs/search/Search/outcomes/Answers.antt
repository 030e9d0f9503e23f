use Rattle.std.proofs.Common.{subst, sym}
use Rattle.ground_task.specs.Tasks.{IsStateOf}
use Rattle.search_core.proofs.Events.{all_can_give, taken_sized}
use Rattle.search_core.specs.Searches.{HasTaken}
use Rattle.search_turns.specs.Turns.{Turns}
use Rattle.search_core.proofs.search.Search.outcomes.Goals as goal

pub outcomes_of-requires-clause-of_task : goal.outcomes_of-requires-clause-of_task
outcomes_of-requires-clause-of_task g c =
    let has = subst (λ (v : Turns). HasTaken c.args.worker c.args.node c.args.state.now v) (sym c.self.view_is) c.requires.taken in
    subst (λ (v : Turns). IsStateOf v.table.task c.args.state.now) c.self.view_is (taken_sized c.args.worker c.args.node c.args.state.now c.self.inside.turns c.self.invariant has)

pub returns-clause-can : goal.returns-clause-can
returns-clause-can g c = all_can_give c.args.worker c.args.node c.args.state.now c.args.self.now c.outcomes_of.result c.requires.taken c.outcomes_of.ensures.all
