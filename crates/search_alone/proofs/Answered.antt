-- Where no worker starved, that isn't the answer.
use Rattle.std.proofs.Common.{◌≡◌, ◌≢◌, ℕ, Bool, true, false, if◌then◌else◌, List, Option, None, Some, nat_lt}
use Rattle.std.specs.Prelude.{Result, Ok, Err, IfOk}
use Rattle.num_ends.specs.declared.faults.NoMemory.{NoMemory}
use Rattle.ground_task.specs.Tasks.{TaskValue}
use Rattle.search_runs.specs.Answers.{answer_of, first_where, is_goal, is_taken, is_waiting, when_idle}
use Rattle.search_runs.specs.Nodes.{Config}
use Rattle.search_runs.specs.Runs.{count_takes, has_starve}
use Rattle.search_runs.specs.declared.answers.Answer.{Answer}
use Rattle.search_runs.specs.declared.answers.Answer.TheVariants.{Plan, Exhausted, Expansions, Filled, Starved}
use Rattle.search_runs.specs.declared.answers.Answer.TheVariants as answer
use Rattle.search_runs.specs.declared.answers.Full.{Full}
use Rattle.search_runs.specs.declared.answers.Site.{Site}
use Rattle.search_runs.specs.declared.events.Event.{Event}
use Rattle.search_records.specs.Records.{IsPlain, answer_in}
use Rattle.search_records.specs.declared.record.Record.{Record}
use Rattle.search_alone.specs.Found.{IsFound}

module _ {S B : Type 0} (limit : ℕ) (j : List Event) (c : Config S B) where
  by_site : (o : Option (ℕ × Site)) → (elim o as (λ _. Option Answer) [ Some p ↦ Some (answer.Over p.0 p.1) | None ↦ Some Exhausted ]) ≡ Some Starved → ⊥
  by_site (Some p) is = cc
  by_site None is = cc

  by_limit : (b : Bool) → (if b then None else Some Expansions) ≡ Some Starved → ⊥
  by_limit true is = cc
  by_limit false is = cc

  by_waiting : (o : Option ℕ) → (elim o as (λ _. Option Answer) [ Some m ↦ if nat_lt (count_takes j) limit then None else Some Expansions | None ↦ elim c.over [ Some p ↦ Some (answer.Over p.0 p.1) | None ↦ Some Exhausted ] ]) ≡ Some Starved → ⊥
  by_waiting (Some m) is = by_limit (nat_lt (count_takes j) limit) is
  by_waiting None is = by_site c.over is

  by_mark : (o : Option Full) → (elim o as (λ _. Option Answer) [ Some f ↦ Some (Filled f) | None ↦ elim (first_where is_waiting c.nodes) [ Some m ↦ if nat_lt (count_takes j) limit then None else Some Expansions | None ↦ elim c.over [ Some p ↦ Some (answer.Over p.0 p.1) | None ↦ Some Exhausted ] ] ]) ≡ Some Starved → ⊥
  by_mark (Some f) is = cc
  by_mark None is = by_waiting (first_where is_waiting c.nodes) is

  by_taken : (o : Option ℕ) → (elim o as (λ _. Option Answer) [ Some m ↦ None | None ↦ when_idle limit j c ]) ≡ Some Starved → ⊥
  by_taken (Some m) is = cc
  by_taken None is = by_mark c.full is

  by_starve : (b : Bool) → b ≡ false → (if b then Some Starved else elim (first_where is_taken c.nodes) as (λ _. Option Answer) [ Some m ↦ None | None ↦ when_idle limit j c ]) ≡ Some Starved → ⊥
  by_starve true none is = cc
  by_starve false none is = by_taken (first_where is_taken c.nodes) is

  by_goal : (o : Option ℕ) → has_starve j ≡ false → (elim o as (λ _. Option Answer) [ Some m ↦ Some (Plan m) | None ↦ if has_starve j then Some Starved else elim (first_where is_taken c.nodes) [ Some m ↦ None | None ↦ when_idle limit j c ] ]) ≡ Some Starved → ⊥
  by_goal (Some m) none is = cc
  by_goal None none is = by_starve (has_starve j) none is

  pub not_starved : has_starve j ≡ false → answer_of limit j c ≡ Some Starved → ⊥
  not_starved none is = by_goal (first_where is_goal c.nodes) none is

module _ (t : TaskValue) (limit : ℕ) where
  pub found_plain : (r : Result Record NoMemory) → IfOk r (IsFound t limit) → IfOk r (IsPlain t limit)
  found_plain (Ok found) is = is.plain
  found_plain (Err fault) is = tt

  pub found_unstarved : (r : Result Record NoMemory) → IfOk r (IsFound t limit) → IfOk r (λ found. has_starve found.journal ≡ false)
  found_unstarved (Ok found) is = is.unstarved
  found_unstarved (Err fault) is = tt

  pub found_answered : (r : Result Record NoMemory) → IfOk r (IsFound t limit) → IfOk r (λ found. answer_in found ≢ Some Starved)
  found_answered (Ok found) is = is.answered
  found_answered (Err fault) is = tt
