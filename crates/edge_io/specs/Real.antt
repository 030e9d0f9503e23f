-- Adapters over what the machine has.
use Rattle.std.specs.Prelude.{ℕ, Bool, List, Option}

-- a writer, and the count of its faults
pub record WriterState (W : Type 0) : Type 0 where
  pub writer : W
  pub faults : ℕ

-- files of the machine, by the counts that are kept
pub record ReaderState : Type 0 where
  pub is_open : Bool
  -- what is left of the file that is read, where the machine tells it
  pub left : Option (List ℕ)
  pub faults : ℕ
  -- how many calls of `begin` there were, and the count of faults as the last of them was made
  pub begun : ℕ
  pub mark : ℕ
