-- What the search of a generated pair finds.
use Rattle.std.specs.Prelude.{ℕ, List, Result}
use Rattle.pair_task.specs.Refusals as pair_task
use Rattle.pair_text.specs.declared.refusals.PairFault.{PairFault}
use Rattle.search_records.specs.declared.record.Record.{Record}
use Rattle.plan_command.specs.Ends as pair
use Rattle.plan_command.specs.Found.{IsFound}
use Rattle.task_gen.specs.Counters.{domain_text, problem_text}

-- the record of the search of the task with so many counters, with so many expansions at most
abbrev pub IsGenerated : ℕ → ℕ → Record → Type 0
IsGenerated size limit r = IsFound domain_text (problem_text size) limit r

-- why there is none
abbrev pub IsFault : ℕ → PairFault → Type 0
IsFault size fault = pair_task.IsFault domain_text (problem_text size) fault

-- how the search ends
abbrev pub EndsWith : ℕ → ℕ → Result Record PairFault → Type 0
EndsWith size limit result = pair.EndsWith domain_text (problem_text size) limit result
