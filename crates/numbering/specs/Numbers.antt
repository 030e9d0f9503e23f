-- The codes by which facts and fluents get their numbers.
use Rattle.std.specs.Prelude.{ℕ, ◌≤◌, List, length}
use Rattle.std.specs.List.Sorted.{IsStrictlyIncreasing}

-- rising codes of facts and of fluents, no more than a task may have
pub record AreTaskCodes (facts fluents : List ℕ) : Type 0 where
  pub rising_facts : IsStrictlyIncreasing facts
  pub rising_fluents : IsStrictlyIncreasing fluents
  pub few_facts : length facts ≤ 4096
  pub few_fluents : length fluents ≤ 256
