use Rattle.std.proofs.Common.{◌≡◌, ◌++◌, List, [], ◌∷◌, ap, length, length-append, sym, subst, ◌∙◌, arith}
use Rattle.search_nodes.specs.declared.views.Outcome.{Outcome}
use Rattle.search_core.proofs.Outcomes.{outcomes_more}
use Rattle.search_records.specs.Spaces.{LeastDead}
use Rattle.search_core.specs.Views.{AreRightOutcomes}
use Rattle.search_core.proofs.search.Search.outcomes_of.Goals as goal

pub each-preserved : goal.each-preserved
each-preserved g c =
    let o = c.in_ok-outcome_of.field-0 in
    let more : c.push.new.self ≡ c.each.outcomes ++ o ∷ [] = c.in_ok-push.ensures.ok in
    let longer = ap length more in
    record {
      as_many = omega (arith, longer, length-append c.each.outcomes (o ∷ []), c.each.invariant.as_many);
      right = subst (λ (os : List Outcome). AreRightOutcomes LeastDead c.args.self.now.table c.args.state.now 0 os) (sym more)
          (outcomes_more c.args.self.now.table c.args.state.now c.each.outcomes o c.each.action c.each.invariant.as_many c.each.invariant.right c.in_ok-outcome_of.ensures.right);
      room = c.outcome_of.ensures.room;
      task = c.outcome_of.ensures.task ∙ c.each.invariant.task;
    }
