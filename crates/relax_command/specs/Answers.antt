-- What `relax` may answer to the texts of a domain and a problem.
use Rattle.std.specs.Prelude.{ℕ, List, [], ◌∷◌}
use Rattle.pair_task.specs.Refusals.{IsRefusal}
use Rattle.pair_task.specs.Tasks as tasks
use Rattle.pair_text.specs.declared.refusals.Refusal.{Refusal}
use Rattle.run_answers.specs.Refused.{refused}
use Rattle.run_answers.specs.declared.answers.Answer.{Answer}
use Rattle.relax_command.specs.Relaxations.{IsRelaxed}

-- the least closed box of the task of the pair that they spell, or a refusal
pub data IsAnswer (domain problem : List ℕ) : Answer → Type 0 where
  relaxed : (answer : Answer) → IsRelaxed domain problem answer → IsAnswer domain problem answer
  refusal : (r : Refusal) → IsRefusal domain problem r → IsAnswer domain problem (refused r)

-- no reason stands against the texts
abbrev pub IsAccepted : List ℕ → List ℕ → Type 0
IsAccepted domain problem = tasks.IsAccepted domain problem

-- how the command ends where none does: met, or missed
abbrev pub statuses : List ℕ
statuses = 0 ∷ 1 ∷ []
