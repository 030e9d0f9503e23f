-- The text of a plan of a task reads as a plan of its pair.
use Rattle.std.proofs.Common.{◌≡◌, ℕ, ◌<◌, ◌≤◌, ◌^◌, zero, suc, List, [], ◌∷◌, Option, Some, None, option_map, unwrap_or, map, length, codes, refl, sym, ap, ap₂, subst, ◌∙◌, arith, ◌++◌}
use Rattle.std.specs.List.{concat, join_with_byte}
use Rattle.ground_meaning.specs.Plans.{AreNamed}
use Rattle.ground_meaning.specs.Worlds.{IsNamed}
use Rattle.ground_task.specs.Tasks.{TaskValue}
use Rattle.ground_task.specs.declared.raw.Ground.{Ground}
use Rattle.pddl_terms.specs.Readable.{IsReadable}
use Rattle.pddl_types.specs.declared.pairs.Pair.{Pair}
use Rattle.pddl_meaning.specs.Steps.{IsPlan, StepsLead}
use Rattle.pddl_meaning.specs.Worlds.{WorldValue, initial_world}
use Rattle.plan_text.specs.Plans.{ReadsAs}
use Rattle.plan_text.specs.declared.step.Step.{Step}
use Rattle.answer_text.proofs.Readings.{plan_read}
use Rattle.answer_text.specs.Readings.{AreStepsOf}
use Rattle.answer_text.specs.Texts.{action_text, plan_lines}
use Rattle.plan_command.proofs.Names.{as_step, step_named}

module _ (p : Pair) (readable : IsReadable p.domain p.problem) (t : TaskValue) where
  -- the text of the action that a step names
  named_text : (number : ℕ) (name : List ℕ) (objects : List (List ℕ)) → IsNamed t number name objects → action_text t number ≡ codes "(" ++ join_with_byte 32 (name ∷ objects) ++ codes ")"
  named_text number name objects is = ap (λ (o : Option Ground). unwrap_or (option_map (λ a. a.name) o) []) is.1 ∙ is.2

  -- the steps of the pair are those that the actions of the task print
  printed_steps : (numbers : List ℕ) (steps : List (List ℕ × List (List ℕ))) (w last : WorldValue) → AreNamed t numbers steps → StepsLead p w steps last → AreStepsOf t numbers (map as_step steps)
  printed_steps [] [] w last named lead = tt
  printed_steps [] (s ∷ steps) w last named lead = absurd named
  printed_steps (n ∷ numbers) [] w last named lead = absurd named
  printed_steps (n ∷ numbers) (s ∷ steps) w last named lead =
      ((named_text n s.0 s.1 named.0, step_named p readable w s lead.0 lead.1), printed_steps numbers steps lead.0 last named.1 lead.2)

  pub plan_printed : (numbers : List ℕ) (steps : List (List ℕ × List (List ℕ))) → length numbers < 2 ^ 64 → AreNamed t numbers steps → IsPlan p steps
      → ReadsAs (concat (plan_lines t numbers)) (map as_step steps)
  plan_printed numbers steps few named plan =
      plan_read t numbers (map as_step steps) few (printed_steps numbers steps (initial_world p) plan.0 named plan.1)
