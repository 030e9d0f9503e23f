use Rattle.std.proofs.Common.{sym, ◌∙◌}
use Rattle.pddl_meaning.specs.internal.Computed.{new_values}
use Rattle.pddl_meaning.proofs.Evaluations.{over_written, ready_written}
use Rattle.pddl_meaning.proofs.steps.prepare_writes.Goals as goal

pub returns-in-None : goal.returns-in-None
returns-in-None c =
    let s = c.args.binding.now in
    over_written s.params.now s.args.now s.world.now c.args.effects.now c.args.evaluations c.requires
    (sym c.in-None.is ∙ c.in_ok-new_values.ensures ∙ (λ i. new_values (c.as_slice.ensures i) (c.as_slice.ensures i)))

pub returns-in_ok-added-in-Some : goal.returns-in_ok-added-in-Some
returns-in_ok-added-in-Some c =
    let s = c.args.binding.now in
    ready_written s.params.now s.args.now s.world.now c.args.effects.now c.in_ok-deleted-in-Some.deleted c.in_ok-added-in-Some.added c.args.evaluations c.in-Some.news c.in_ok-deleted-in-Some.ensures c.in_ok-added-in-Some.ensures c.requires
    (sym c.in-Some.is ∙ c.in_ok-new_values.ensures ∙ (λ i. new_values (c.as_slice.ensures i) (c.as_slice.ensures i)))
