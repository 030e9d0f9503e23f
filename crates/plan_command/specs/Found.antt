-- What the search of a pair finds, as the texts of its domain and its problem tell it.
use Rattle.std.specs.Prelude.{ℕ, ◌≡◌, List, Some, false, map, ⊤}
use Rattle.pair_task.specs.Tasks.{IsPlanOfTexts, IsTaskOf}
use Rattle.plan_text.specs.Plans.{ReadsAs}
use Rattle.plan_text.specs.declared.step.Step.{Step}
use Rattle.search_runs.specs.Runs.{has_starve}
use Rattle.search_runs.specs.declared.answers.Answer.{Answer}
use Rattle.search_runs.specs.declared.answers.Answer.TheVariants as variant
use Rattle.search_records.specs.Claims.{Claims}
use Rattle.search_records.specs.Records.{IsPlain, answer_in, bounds, config_of}
use Rattle.search_records.specs.declared.record.Record.{Record}
use Rattle.answer_text.specs.Texts.{IsTextOf}

-- the pair that the texts spell has a plan, by the meaning of PDDL with numbers of no bounds
abbrev pub HasPlan : List ℕ → List ℕ → Type 0
HasPlan domain problem = (steps : List (List ℕ × List (List ℕ))) × IsPlanOfTexts domain problem steps

-- the text that is printed for the answer, read as a plan file, is a plan of the pair
pub record PrintsPlan (domain problem : List ℕ) (r : Record) (a : Answer) : Type 0 where
  pub text : List ℕ
  pub steps : List Step
  pub printed : IsTextOf r a text
  pub reads : ReadsAs text steps
  pub is_plan : IsPlanOfTexts domain problem (map (λ step. (step.name, step.args)) steps)

-- what an answer says of the pair: the printed plan is one; there is none; the others say nothing of its plans, and none is
-- that a worker starved
abbrev pub SaysOfPair : List ℕ → List ℕ → Record → Answer → Type 0
SaysOfPair domain problem r (variant.Plan n) = PrintsPlan domain problem r (variant.Plan n)
SaysOfPair domain problem r variant.Exhausted = HasPlan domain problem → ⊥
SaysOfPair domain problem r (variant.Over n place) = ⊤
SaysOfPair domain problem r variant.Expansions = ⊤
SaysOfPair domain problem r (variant.Filled full) = ⊤
SaysOfPair domain problem r variant.Starved = ⊥

-- The record of the search of the pair that the texts spell, with so many expansions at most.
pub record IsFound (domain problem : List ℕ) (limit : ℕ) (r : Record) : Type 0 where
  -- its task is the ground task of the pair
  pub task : IsTaskOf domain problem r.task
  -- it is that of one worker, which ends at the first answer and keeps least closed boxes alone, with the bounds of the program
  pub plain : IsPlain r.task limit r
  pub unstarved : has_starve r.journal ≡ false
  -- it has an answer, which holds of the task and of the pair
  pub answer : Answer
  pub answered : answer_in r ≡ Some answer
  pub claims : Claims r.task limit bounds r.journal (config_of r) answer
  pub says : SaysOfPair domain problem r answer
