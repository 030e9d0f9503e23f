use Rattle.std.proofs.Common.{ap, refl, sym}
use Rattle.ground_task.specs.Ranged.{without_state}
use Rattle.ground_task.proofs.StepAnswers.{action_blocked, action_next, action_over, effects_over, next_is, no_next_blocked, no_next_over, step_of_action}
use Rattle.ground_task.proofs.task.Task.apply_into.Goals as goal

pub returns-in-Blocked-clause-answer : goal.returns-in-Blocked-clause-answer
returns-in-Blocked-clause-answer c =
    let a = c.action-action.result.now in
    ap without_state (sym (step_of_action c.args.self.now c.args.state.now c.args.action a _ c.action-action.ensures.value (action_blocked c.args.self.now.places c.args.state.now a c.in-Blocked.ensures)))

pub returns-in-Blocked-clause-next : goal.returns-in-Blocked-clause-next
returns-in-Blocked-clause-next c =
    let a = c.action-action.result.now in
    no_next_blocked c.args.self.now c.args.state.now c.args.action c.args.next.now (step_of_action c.args.self.now c.args.state.now c.args.action a _ c.action-action.ensures.value (action_blocked c.args.self.now.places c.args.state.now a c.in-Blocked.ensures))

pub returns-in-Over-clause-answer : goal.returns-in-Over-clause-answer
returns-in-Over-clause-answer c =
    let a = c.action-action.result.now in
    ap without_state (sym (step_of_action c.args.self.now c.args.state.now c.args.action a _ c.action-action.ensures.value (action_over c.args.self.now.places c.args.state.now a c.in-Over.ensures)))

pub returns-in-Over-clause-next : goal.returns-in-Over-clause-next
returns-in-Over-clause-next c =
    let a = c.action-action.result.now in
    no_next_over c.args.self.now c.args.state.now c.args.action c.args.next.now (step_of_action c.args.self.now c.args.state.now c.args.action a _ c.action-action.ensures.value (action_over c.args.self.now.places c.args.state.now a c.in-Over.ensures))

pub returns-then-write_next-clause-answer : goal.returns-then-write_next-clause-answer
returns-then-write_next-clause-answer c =
    let a = c.action-action.result.now in
    ap without_state (sym (step_of_action c.args.self.now c.args.state.now c.args.action a _ c.action-action.ensures.value (action_next c.args.self.now.places c.args.state.now a c.in-Next.ensures c.if-write_next.ensures.fits)))

pub returns-then-write_next-clause-next : goal.returns-then-write_next-clause-next
returns-then-write_next-clause-next c =
    let a = c.action-action.result.now in
    next_is c.args.self.now c.args.state.now c.args.action c.write_next.new.self _ (step_of_action c.args.self.now c.args.state.now c.args.action a _ c.action-action.ensures.value (action_next c.args.self.now.places c.args.state.now a c.in-Next.ensures c.if-write_next.ensures.fits))
    (c.if-write_next.ensures.next refl)

pub returns-clause-answer : goal.returns-clause-answer
returns-clause-answer c =
    let a = c.action-action.result.now in
    ap without_state (sym (step_of_action c.args.self.now c.args.state.now c.args.action a _ c.action-action.ensures.value (effects_over c.args.self.now.places c.args.state.now a c.in-Next.ensures c.if-write_next.ensures.fits)))

pub returns-clause-next : goal.returns-clause-next
returns-clause-next c =
    let a = c.action-action.result.now in
    no_next_over c.args.self.now c.args.state.now c.args.action c.write_next.new.self (step_of_action c.args.self.now c.args.state.now c.args.action a _ c.action-action.ensures.value (effects_over c.args.self.now.places c.args.state.now a c.in-Next.ensures c.if-write_next.ensures.fits))
