use Rattle.std.proofs.Common.{ℕ, ap, ◌∙◌}
use Rattle.std.specs.Int.{div_ceil}
use Rattle.ground_task.proofs.StateRows.{words_of}
use Rattle.ground_task.proofs.row.Row.fact_words.Goals as goal

pub returns : goal.returns
returns c =
    let r = c.self.inside in
    c.div_ceil.ensures ∙ ap (λ (n : ℕ). div_ceil n 64) (words_of r.words.items r.facts r.values r.is_wide c.args.self.now c.self.invariant c.self.view_is).facts_are
