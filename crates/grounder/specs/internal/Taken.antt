-- Outcomes of bindings taken one after another: the actions that they leave, up to the first refusal.
use Rattle.std.specs.Prelude.{◌≡◌, ◌++◌, List, Some, None, filter_map, length, map}
use Rattle.pddl_types.specs.declared.pairs.Pair.{Pair}
use Rattle.ground_task.specs.declared.raw.Ground.{Ground}
use Rattle.coded_actions.specs.declared.coded.CodedAction.{CodedAction}
use Rattle.coded_actions.specs.Coded.{action_of}
use Rattle.ground_meaning.specs.declared.faults.GroundFault.{GroundFault}
use Rattle.ground_meaning.specs.declared.faults.GroundFault.TheVariants as fault
use Rattle.ground_meaning.specs.Outcomes.{Outcome, first_refused, kept, kept_in, outcomes}

abbrev pub actions_of : List CodedAction → List Ground
actions_of actions = map action_of actions

-- none of these outcomes refuses, and after them these actions are kept
pub record IsTaken (os : List Outcome) (before after : List CodedAction) : Type 0 where
  pub kept_ones : actions_of after ≡ actions_of before ++ filter_map kept_in os
  pub none_refused : (rest : List Outcome) → first_refused (length before) (os ++ rest) ≡ first_refused (length after) rest

-- this is the first refusal among the outcomes, whatever follows them; nothing is said where memory is wanting
pub data IsStopped (os : List Outcome) (before : List CodedAction) : GroundFault → Type 0 where
  refused : (f : GroundFault) → ((rest : List Outcome) → first_refused (length before) (os ++ rest) ≡ Some f) → IsStopped os before f
  by_memory : IsStopped os before fault.NoMemory

-- the actions of the pair
pub record AreKept (p : Pair) (actions : List CodedAction) : Type 0 where
  pub kept_ones : actions_of actions ≡ kept p
  pub none_refused : first_refused 0 (outcomes p) ≡ None

-- why there are none
pub data IsBindingFault (p : Pair) : GroundFault → Type 0 where
  refused : (f : GroundFault) → first_refused 0 (outcomes p) ≡ Some f → IsBindingFault p f
  by_memory : IsBindingFault p fault.NoMemory
