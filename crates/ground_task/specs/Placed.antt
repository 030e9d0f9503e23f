-- How many decimal places expressions have, and which places of the fluents suffice for a task.
use Rattle.std.specs.Prelude.{ℕ, ◌≡◌, ◌≤◌, ◌<◌, ◌+◌, ◌&&◌, max, List, Bool, true, IsTrue, length, All, nat_le, slice_index_or}
use Rattle.std.specs.List.{list_all}
use Rattle.num_ends.specs.Decimal.{origin, trimmed}
use Rattle.ground_task.specs.declared.raw.GExpr.{GExpr, GExpr-F, fold-GExpr}
use Rattle.ground_task.specs.declared.raw.GExpr.TheOpen as expr
use Rattle.ground_task.specs.declared.raw.GCond.{GCond, GCond-F, fold-GCond}
use Rattle.ground_task.specs.declared.raw.GCond.TheOpen as cond
use Rattle.ground_task.specs.declared.raw.Ground.{Ground}
use Rattle.ground_task.specs.declared.raw.RawTask.{RawTask}
use Rattle.ground_task.specs.Valid.{right_side}

-- a constant has its trimmed places, a sum or difference the larger count of its parts, and a product both together
abbrev pub places_layer : List ℕ → GExpr-F ℕ → ℕ
places_layer places (expr.Const c) = (trimmed c).p
places_layer places (expr.Read x) = slice_index_or places x 0
places_layer places (expr.Add a b) = max a b
places_layer places (expr.Sub a b) = max a b
places_layer places (expr.Mul a b) = a + b

-- the places of an expression where the fluents have these
abbrev pub places_of : List ℕ → GExpr → ℕ
places_of places = fold-GExpr ℕ (places_layer places)

abbrev pub few_places_layer : List ℕ → GCond-F Bool → Bool
few_places_layer places cond.True = true
few_places_layer places cond.False = true
few_places_layer places (cond.Fact f truth) = true
few_places_layer places (cond.Cmp r a b) = nat_le (places_of places a) 18 && nat_le (places_of places b) 18
few_places_layer places (cond.And cs) = list_all (λ c. c) cs
few_places_layer places (cond.Or cs) = list_all (λ c. c) cs

-- each side of each comparison has at most 18 places
abbrev pub has_few_places : List ℕ → GCond → Bool
has_few_places places = fold-GCond Bool (few_places_layer places)

pub record IsPlacedAction (places : List ℕ) (a : Ground) : Type 0 where
  pub few_in_condition : IsTrue (has_few_places places a.pre)
  pub changes_fit : All (λ effect. places_of places (right_side effect.1) ≤ slice_index_or places effect.0 0) a.nums

-- a count of places for each fluent, at most 9, of which the first value and the right-hand side of each change have
-- no more, so that no value is ever rounded
pub record IsPlaced (raw : RawTask) (places : List ℕ) : Type 0 where
  pub a_count_each : length places ≡ length raw.fluents
  pub few : All (λ p. p ≤ 9) places
  pub values_fit : (x : ℕ) → x < length raw.fluents → (trimmed (slice_index_or raw.values x origin)).p ≤ slice_index_or places x 0
  pub placed_actions : All (IsPlacedAction places) raw.actions
  pub few_in_goal : IsTrue (has_few_places places raw.goal)
