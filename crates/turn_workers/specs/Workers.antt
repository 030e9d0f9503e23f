-- What a worker holds that was answered.
use Rattle.std.specs.Prelude.{ℕ}
use Rattle.turn_lock.specs.History.{Journal}
use Rattle.turn_workers.specs.declared.work.Job.{Job}
use Rattle.turn_workers.specs.declared.work.Taken.{Taken}
use Rattle.turn_workers.specs.declared.work.Taken.TheVariants as taken

module _ {A N : Type 0} (Idle : A → ℕ → Journal → Type 0) (Has : A → ℕ → Job N → Journal → Type 0) where
  -- a worker that was answered so holds the node that it was given, and otherwise none
  abbrev pub IsTaken : A → ℕ → Journal → Taken N → Type 0
  IsTaken about worker seen (taken.Job job) = Has about worker job seen
  IsTaken about worker seen (taken.NotYet nodes) = Idle about worker seen
  IsTaken about worker seen taken.Done = Idle about worker seen
