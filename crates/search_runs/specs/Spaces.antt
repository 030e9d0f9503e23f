-- What a search sees of a task, and the states that it may reach.
use Rattle.std.specs.Prelude.{ℕ, ◌≡◌, ◌≢◌, ◌≤◌, ◌⊎◌, List, length, slice_get, Some, AllPairs, All}
use Rattle.search_runs.specs.Walks as walks

-- whether the goal holds, where no number leaves its range
pub data Truth : Type 0 where
  Yes : Truth
  No : Truth
  Overflow : Truth

-- what an action leads to, where no number leaves its range
pub data Stepped (S : Type 0) : Type 0 where
  Blocked : Stepped S
  Over : Stepped S
  Next : S → Stepped S

-- A task with states S and boxes B of states, and the bounds of its search. Moves and walks have
-- numbers of no bounds; `step` and `goal` tell where one leaves its range.
pub record Space (S B : Type 0) : Type 1 where
  pub initial : S
  -- as many facts and values as the task has
  pub IsState : S → Type 0
  -- the ground actions have the numbers below this one
  pub actions : ℕ
  pub Moves : ℕ → S → S → Type 0
  pub step : ℕ → S → Stepped S
  pub goal : S → Truth
  pub Contains : B → S → Type 0
  -- no plan leads from a state of the box to the goal
  pub IsDead : B → Type 0
  pub IsEstimate : S → ℕ → Type 0
  -- the dead box may be kept for the state
  pub Keeps : S → B → Type 0
  pub most_states : ℕ
  pub most_boxes : ℕ
  pub workers : ℕ
  -- the greatest number of expansions
  pub limit : ℕ

-- the item at this place
abbrev pub IsAt : {X : Type 0} → List X → ℕ → X → Type 0
IsAt xs n x = slice_get xs n ≡ Some x

abbrev pub IsListed : {X : Type 0} → List X → X → Type 0
IsListed xs x = (n : ℕ) × IsAt xs n x

-- no list of pairwise different members is longer
abbrev pub AtMost : {S : Type 0} → ℕ → (S → Type 0) → Type 0
AtMost {S} n P = (xs : List S) → AllPairs (λ x y. x ≢ y) xs → All P xs → length xs ≤ n

module _ {S B : Type 0} (g : Space S B) where
  -- some dead box contains the state
  abbrev pub IsDeadState : S → Type 0
  IsDeadState s = (b : B) × g.IsDead b × g.Contains b s

  abbrev pub IsLive : S → Type 0
  IsLive s = IsDeadState s → ⊥

  abbrev pub Walk : List ℕ → S → S → Type 0
  Walk actions s last = walks.Walk g.Moves actions s last

  -- through live states alone
  abbrev pub LiveWalk : List ℕ → S → S → Type 0
  LiveWalk actions s last = walks.WalkThrough IsLive g.Moves actions s last

  abbrev pub IsLiveReachable : S → Type 0
  IsLiveReachable s = (actions : List ℕ) × LiveWalk actions g.initial s

  -- a dead state one step from a live reachable one, or the initial state where it is dead
  abbrev pub IsDeadNeighbour : S → Type 0
  IsDeadNeighbour s =
      IsDeadState s × ((s ≡ g.initial) ⊎ ((p : S) × (a : ℕ) × IsLiveReachable p × g.Moves a p s))
