-- How the search of a pair ends.
use Rattle.std.specs.Prelude.{ℕ, ◌≡◌, List, Some, Result, IfErr, IfOk, option_map}
use Rattle.ground_task.specs.Tasks.{TaskValue}
use Rattle.dead_ends.specs.Reachable.{IsDeadState, initial_state}
use Rattle.pair_task.specs.Tasks.{IsAccepted, IsTaskOf}
use Rattle.pair_text.specs.declared.refusals.PairFault.{PairFault}
use Rattle.pair_text.specs.declared.refusals.PairFault.TheVariants.{NoMemory}
use Rattle.search_records.specs.Complete.{HasRoom}
use Rattle.search_records.specs.Records.{answer_in, bounds}
use Rattle.search_records.specs.declared.record.Record.{Record}
use Rattle.answer_text.specs.Texts.{status_of}
use Rattle.plan_command.specs.Found.{HasPlan}

-- the status of the record's answer: a plan 0, no plan 1, a limit 2, a number out of its range 3
abbrev pub HasStatus : ℕ → Record → Type 0
HasStatus status r = option_map status_of (answer_in r) ≡ Some status

-- status 0 where the pair has a plan, and 1 where it has none
pub data Decides (domain problem : List ℕ) (r : Record) : Type 0 where
  solved : HasPlan domain problem → HasStatus 0 r → Decides domain problem r
  unsolvable : (HasPlan domain problem → ⊥) → HasStatus 1 r → Decides domain problem r

-- How the search of the texts ends, with so many expansions at most.
pub record EndsWith (domain problem : List ℕ) (limit : ℕ) (result : Result Record PairFault) : Type 0 where
  -- texts that are accepted have a record, unless memory is wanting
  pub accepted : IsAccepted domain problem → IfErr result (λ fault. fault ≡ NoMemory)
  -- Where the limit and the bounds leave room for all that may be reached, and no number leaves its range there, a record tells
  -- whether the pair has a plan.
  pub with_room : (task : TaskValue) → IsTaskOf domain problem task → HasRoom task limit bounds
      → IfOk result (Decides domain problem)
  -- where the initial state is dead it tells that there is none
  pub dead : (task : TaskValue) → IsTaskOf domain problem task → IsDeadState task (initial_state task) → IfOk result (HasStatus 1)
