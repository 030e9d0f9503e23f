use Rattle.std.proofs.Common.{subst, sym}
use Rattle.ground_task.specs.Inside.{AreEffectsOf}
use Rattle.ground_task.specs.Rows.{state_of_row}
use Rattle.ground_task.proofs.StepAnswers.{effects_written}
use Rattle.ground_task.proofs.steps.write_effects.Goals as goal

pub write_values-requires-clause-effects : goal.write_values-requires-clause-effects
write_values-requires-clause-effects c = subst (AreEffectsOf c.args.task.now) (sym c.as_slice-3.ensures) c.requires.effects

pub returns-clause-next : goal.returns-clause-next
returns-clause-next c fits =
    effects_written c.args.task.now.places c.args.state.now (state_of_row c.args.row.now) (state_of_row c.delete_facts.new.next) (state_of_row c.add_facts.new.next) (state_of_row c.write_values.new.next) c.args.action.now
    c.as_slice.result.now c.as_slice-2.result.now c.as_slice-3.result.now c.as_slice.ensures c.as_slice-2.ensures c.as_slice-3.ensures
    c.requires.same c.delete_facts.ensures.as_many c.delete_facts.ensures.facts c.add_facts.ensures.as_many c.add_facts.ensures.facts
    c.write_values.ensures.facts c.write_values.ensures.as_many (c.write_values.ensures.values fits)
