-- Sets that are closed under edges, and what effects read as edges.
use Rattle.std.specs.Prelude.{ℕ, ◌≡◌, ◌++◌, ◌↔◌, List, map, flat_map}
use Rattle.pddl_types.specs.WellFormed.{Stands}
use Rattle.ground_task.specs.declared.raw.Change.{Change}
use Rattle.ground_task.specs.declared.raw.GCond.{GCond}
use Rattle.ground_task.specs.declared.raw.Ground.{Ground}
use Rattle.ground_task.specs.Valid.{right_side}
use Rattle.ground_meaning.specs.Tasks.{condition_fluents, fluents_in}

-- the least set with some numbers that has the second of each edge whose first it has
pub data IsFrom (starts : List ℕ) (edges : List (ℕ × ℕ)) : ℕ → Type 0 where
  start : (x : ℕ) → Stands x starts → IsFrom starts edges x
  step : (y x : ℕ) → IsFrom starts edges y → Stands (y, x) edges → IsFrom starts edges x

abbrev pub IsClosure : List ℕ → List (ℕ × ℕ) → List ℕ → Type 0
IsClosure starts edges xs = (x : ℕ) → Stands x xs ↔ IsFrom starts edges x

-- the edges from a number
pub record AreFrom (edges : List (ℕ × ℕ)) (from : ℕ) (group : List (ℕ × ℕ)) : Type 0 where
  pub listed : (e : ℕ × ℕ) → Stands e group → Stands e edges × (e.0 ≡ from)
  pub all : (e : ℕ × ℕ) → Stands e edges → e.0 ≡ from → Stands e group

-- the edges from a number to each of these
unfoldable pub edges_to : ℕ → List ℕ → List (ℕ × ℕ)
edges_to y xs = map (λ x. (y, x)) xs

-- from a fluent to those that a change of it reads
abbrev pub effect_edges : ℕ × Change → List (ℕ × ℕ)
effect_edges n = edges_to n.0 (fluents_in (right_side n.1))

abbrev pub action_edges : Ground → List (ℕ × ℕ)
action_edges a = flat_map effect_edges a.nums

-- what the goal and the preconditions read
abbrev pub starting_fluents : List Ground → GCond → List ℕ
starting_fluents actions goal = condition_fluents goal ++ flat_map (λ a. condition_fluents a.pre) actions
