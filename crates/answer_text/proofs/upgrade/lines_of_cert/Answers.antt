use Rattle.std.proofs.Common.{List, All, subst, sym, ◌∙◌}
use Rattle.ground_task.specs.Tasks.{IsStateOf}
use Rattle.box_model.specs.Boxes.{IsBoxOf}
use Rattle.box_model.specs.declared.state_box.StateBox.{StateBox}
use Rattle.answer_text.proofs.Told.{ready_all}
use Rattle.answer_text.proofs.upgrade.lines_of_cert.Goals as goal

pub returns-clause-ready : goal.returns-clause-ready
returns-clause-ready c = (
  subst (λ (boxes : List StateBox). All (IsBoxOf c.args.task.now) boxes) (sym c.as_slice-2.ensures) c.requires.cert.boxes,
  ready_all (IsStateOf c.args.task.now) (λ s. s.now) c.in_ok-states.states.items c.args.cert.now.states (c.in_ok-states.ensures.same ∙ c.as_slice.ensures) c.requires.cert.states,
)
