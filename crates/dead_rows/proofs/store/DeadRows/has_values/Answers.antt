use Rattle.std.proofs.Common.{rules, IsTrue, below_more, ◌∙◌}
use Rattle.num_ends.specs.Ends.{has}
use Rattle.ground_task.specs.Meaning.{fluent_value}
use Rattle.box_words.specs.Words.{interval_at}
use Rattle.dead_rows.specs.Seats.{row_words}
use Rattle.dead_rows.proofs.Steps.{tested_value}
use Rattle.dead_rows.proofs.store.DeadRows.has_values.Goals as goal

pub fluents-preserved : goal.fluents-preserved
fluents-preserved c = let inv = c.fluents.invariant in let row = c.args.row in let s = c.args.state.now in let x = c.fluents.fluent in let shape = c.args.self.now.shape in let passed : IsTrue c.fluent_has.result = search rules in
    let here = tested_value c.args.seat.now.me.0 c.fluents.seat.me.0 row shape.facts x c.value-value.result (fluent_value shape.places s x) c.fluent_has.result inv.view c.value-value.ensures c.fluent_has.ensures.has in record {
      seat = c.fluent_has.ensures.seat;
      view = c.fluent_has.ensures.view ∙ inv.view;
      all = below_more (λ k. IsTrue (has (interval_at shape.facts (row_words c.args.seat.now row) k) (fluent_value shape.places s k))) x inv.all (here ∙ passed);
    }
