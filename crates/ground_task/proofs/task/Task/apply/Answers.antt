use Rattle.std.proofs.Common.{◌≡◌, subst, sym}
use Rattle.std.specs.Prelude.{IfOk}
use Rattle.ground_task.specs.declared.answers.Applied.{Applied}
use Rattle.ground_task.proofs.StepAnswers.{action_blocked, action_goes_on, action_over, mapped_ok, next_of_task, step_of_action}
use Rattle.ground_task.proofs.task.Task.apply.Goals as goal

pub returns-in-Next-clause-step : goal.returns-in-Next-clause-step
returns-in-Next-clause-step c =
    let a = c.action-action.result.now in
    let is = step_of_action c.args.self.now c.args.state.now c.args.action a _ c.action-action.ensures.value (action_goes_on c.args.self.now.places c.args.state.now a c.in-Next.ensures) in
    subst (λ (z : Applied). IfOk c.applied.result (λ x. x ≡ z)) (sym is) c.applied.ensures

pub returns-in-Next-clause-of_task : goal.returns-in-Next-clause-of_task
returns-in-Next-clause-of_task c =
    mapped_ok c.applied.result (λ x is s next. next_of_task c.args.self.now c.args.state.now c.action-action.result.now c.requires.of_task x is s next) c.applied.ensures

pub returns-in-Blocked-clause-step : goal.returns-in-Blocked-clause-step
returns-in-Blocked-clause-step c =
    let a = c.action-action.result.now in
    sym (step_of_action c.args.self.now c.args.state.now c.args.action a _ c.action-action.ensures.value (action_blocked c.args.self.now.places c.args.state.now a c.in-Blocked.ensures))

pub returns-in-Over-clause-step : goal.returns-in-Over-clause-step
returns-in-Over-clause-step c =
    let a = c.action-action.result.now in
    sym (step_of_action c.args.self.now c.args.state.now c.args.action a _ c.action-action.ensures.value (action_over c.args.self.now.places c.args.state.now a c.in-Over.ensures))
