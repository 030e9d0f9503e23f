-- Steps within the range and steps without bounds.
use Rattle.std.proofs.Common.{◌≡◌, ℕ, ◌+◌, List, [], ◌∷◌, IsTrue, false, map, refl, sym, subst, ◌∙◌}
use Rattle.pddl_types.specs.declared.pairs.Pair.{Pair}
use Rattle.pddl_meaning.specs.Worlds.{WorldValue, initial_world}
use Rattle.pddl_meaning.specs.declared.answers.Holds.{Holds}
use Rattle.pddl_meaning.specs.declared.answers.Holds.TheVariants as truth
use Rattle.pddl_meaning.specs.declared.answers.Stepped.{Stepped}
use Rattle.pddl_meaning.specs.declared.answers.Stepped.TheVariants as answer
use Rattle.pddl_meaning.specs.Truth.{goal_holds, ranged_goal}
use Rattle.pddl_meaning.specs.Steps.{IsStep, ranged_step, StepsLead}
use Rattle.pddl_meaning.specs.Laws.{Agrees, GoalAgrees}
use Rattle.plan_text.specs.declared.step.Step.{Step}
use Rattle.plan_validator.specs.declared.verdicts.Verdict.{Verdict}
use Rattle.plan_validator.specs.declared.verdicts.Verdict.TheVariants as verdict
use Rattle.plan_validator.specs.Verdicts.{answer_to, RangedLead, IsVerdict, IsPlanOf, IsValidOrOver}
use Rattle.plan_validator.proofs.Onward.{at_goal, on_answer, verdict_from, is_this}

abbrev pub StepsAgree : Type 0
StepsAgree = (p : Pair) (w : WorldValue) (name : List ℕ) (args : List (List ℕ)) → Agrees p w name args (ranged_step p w name args)

abbrev pub GoalsAgree : Type 0
GoalsAgree = (p : Pair) (w : WorldValue) → GoalAgrees p w (ranged_goal p w)

leads_too : StepsAgree → (p : Pair) (steps : List Step) (w last : WorldValue) → RangedLead p w steps last
    → StepsLead p w (map (λ step. (step.name, step.args)) steps) last
leads_too agree p [] w last led = led
leads_too agree p (s ∷ steps) w last (next, is, led) =
    let step = subst (Agrees p w s.name s.args) is (agree p w s.name s.args) in
    (next, step.0, leads_too agree p steps next last led)

pub valid_is_plan : StepsAgree → GoalsAgree → (p : Pair) (steps : List Step) → IsVerdict p steps verdict.Valid → IsPlanOf p steps
valid_is_plan agree goals p steps is =
    (is.last, leads_too agree p steps (initial_world p) is.last is.led, subst (GoalAgrees p is.last) is.ends (goals p is.last))

module _ (agree : StepsAgree) (goals : GoalsAgree) (p : Pair) where
  -- where the goal holds, it is met or over
  goal_met : (w : WorldValue) (g : Holds) → GoalAgrees p w g → IsTrue (goal_holds p w) → IsValidOrOver (at_goal g)
  goal_met w truth.Yes says holds = tt
  goal_met w truth.No says holds = let bad = sym holds ∙ says in cc
  goal_met w truth.Over says holds = tt

  -- a step that leads somewhere is made, or is over
  step_made : (w next : WorldValue) (s : Step) (n : ℕ) (go : WorldValue → Verdict) (a : Stepped) → Agrees p w s.name s.args a → IsStep p w s.name s.args next
      → IsValidOrOver (go next) → IsValidOrOver (on_answer a n go)
  step_made w next s n go (answer.Next other) says step behind = subst (λ (x : WorldValue). IsValidOrOver (go x)) (says.1 next step) behind
  step_made w next s n go answer.Blocked says step behind = absurd (says next step)
  step_made w next s n go answer.Illegal says step behind = absurd (says next step)
  step_made w next s n go answer.Over says step behind = tt

  steps_made : (steps : List Step) (w last : WorldValue) (n : ℕ) → StepsLead p w (map (λ step. (step.name, step.args)) steps) last → IsTrue (goal_holds p last)
      → IsValidOrOver (verdict_from p w n steps)
  steps_made [] w last n led holds = goal_met w (ranged_goal p w) (goals p w) (subst (λ (x : WorldValue). IsTrue (goal_holds p x)) (sym led) holds)
  steps_made (s ∷ steps) w last n (next, step, led) holds =
      step_made w next s n (λ x. verdict_from p x (n + 1) steps) (answer_to p w s) (agree p w s.name s.args) step (steps_made steps next last (n + 1) led holds)

pub plan_is_valid_or_over : StepsAgree → GoalsAgree → (p : Pair) (steps : List Step) (v : Verdict) → IsPlanOf p steps → IsVerdict p steps v → IsValidOrOver v
plan_is_valid_or_over agree goals p steps v (last, led, holds) is =
    subst IsValidOrOver (is_this p steps v is) (steps_made agree goals p steps (initial_world p) last 1 led holds)
