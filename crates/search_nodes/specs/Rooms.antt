-- Room for items that are to come.
use Rattle.std.specs.Prelude.{ℕ, ◌≡◌, ◌≤◌, List, []}

-- an empty list, by its items, its length and its capacity, has room for so many
pub record HasRoom {X : Type 0} (count : ℕ) (items : List X) (len capacity : ℕ) : Type 0 where
  pub empty : items ≡ []
  pub none : len ≡ 0
  pub room : count ≤ capacity
