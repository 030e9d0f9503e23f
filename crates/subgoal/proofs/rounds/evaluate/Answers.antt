use Rattle.std.proofs.Common.{◌∙◌, ap}
use Rattle.ground_task.specs.declared.raw.RawTask.{RawTask}
use Rattle.subgoal.specs.Help.{atoms_in}
use Rattle.subgoal.specs.Network.{weights_by}
use Rattle.subgoal.proofs.Improving.{next_found}
use Rattle.subgoal.proofs.rounds.evaluate.Goals as goal

pub returns-clause-next : goal.returns-clause-next
returns-clause-next c =
    let t = c.args.rules.now.task.now in
    let s = c.args.state.now in
    next_found c.args.rules.now s c.args.values.now c.as_slice-2.result.now c.as_slice-3.result.now c.revalue.new.values.items c.as_slice-actions.result.now c.requires.rules
    (c.as_slice-2.ensures.value ∙ c.weigh.ensures ∙ ap (weights_by (atoms_in t s) t.raw.actions c.args.values.now) c.as_slice.ensures.value)
    c.as_slice-3.ensures.value (c.as_slice-actions.ensures ∙ ap (λ (r : RawTask). r.actions) c.raw.ensures.value) c.revalue.ensures
