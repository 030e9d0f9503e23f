-- A state as contracts see it, with values of no bounds.
use Rattle.std.specs.Prelude.{ℤ, Bool, List}

-- a truth value per fact, and per fluent the number of its value at the fluent's places
pub record StateValue : Type 0 where
  pub facts : List Bool
  pub values : List ℤ
