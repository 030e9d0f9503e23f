use Rattle.std.proofs.Common.{List, All, map, subst, sym}
use Rattle.ground_task.specs.States.{StateValue}
use Rattle.ground_task.specs.Tasks.{IsStateOf}
use Rattle.box_model.specs.Boxes.{IsBoxOf}
use Rattle.box_model.specs.declared.state_box.StateBox.{StateBox}
use Rattle.search_runs.specs.Answers.{closed_states}
use Rattle.search_runs.specs.declared.nodes.Node.{Node}
use Rattle.answer_text.proofs.Told.{ready_states}
use Rattle.answer_text.specs.Texts.{AreSorted}
use Rattle.answer_text.proofs.answers.certificate_lines.Goals as goal

pub returns-clause-ready : goal.returns-clause-ready
returns-clause-ready c =
    let sorted = subst (λ (nodes : List (Node StateValue)). AreSorted (closed_states nodes) (map (λ s. s.now) c.in_ok-states.states.items)) c.as_slice.ensures c.in_ok-states.ensures.sorted in (
      subst (λ (boxes : List StateBox). All (IsBoxOf c.args.found.now.task) boxes) (sym c.as_slice-2.ensures) c.requires.sound.boxes,
      ready_states (IsStateOf c.args.found.now.task) c.args.found.now.nodes (λ s. s.now) c.in_ok-states.states.items c.requires.sound.states sorted,
    )
