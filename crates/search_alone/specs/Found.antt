-- What a search on one thread finds.
use Rattle.std.specs.Prelude.{ℕ, ◌≡◌, ◌≢◌, false, Some}
use Rattle.ground_task.specs.Tasks.{TaskValue}
use Rattle.search_runs.specs.Runs.{has_starve}
use Rattle.search_runs.specs.declared.answers.Answer.TheVariants as answer
use Rattle.search_records.specs.Records.{IsPlain, answer_in}
use Rattle.search_records.specs.declared.record.Record.{Record}

-- The plain record of the task and the limit in which no worker starved. There is no other but for the form of its boxes.
pub record IsFound (task : TaskValue) (limit : ℕ) (r : Record) : Type 0 where
  pub plain : IsPlain task limit r
  pub unstarved : has_starve r.journal ≡ false
  pub answered : answer_in r ≢ Some answer.Starved
