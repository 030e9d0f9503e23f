-- What the demands of an action depend on.
use Rattle.std.specs.Prelude.{ℕ, ◌≡◌, ◌<◌, ◌==◌, ◌||◌, ◌⊎◌, Bool, true, false, List, [], Some, slice_get, slice_index_or, length}
use Rattle.std.specs.List.{list_any, IsAmong}
use Rattle.ground_task.specs.declared.raw.GExpr.{GExpr, GExpr-F, fold-GExpr}
use Rattle.ground_task.specs.declared.raw.GExpr.TheOpen as expr
use Rattle.ground_task.specs.declared.raw.GCond.{GCond, GCond-F, fold-GCond}
use Rattle.ground_task.specs.declared.raw.GCond.TheOpen as cond
use Rattle.ground_task.specs.declared.raw.Change.{Change}
use Rattle.ground_task.specs.declared.raw.Change.TheVariants.{Add, Set}
use Rattle.ground_task.specs.declared.raw.Ground.{Ground}
use Rattle.ground_task.specs.Tasks.{TaskValue}

abbrev pub reads_layer : ℕ → GExpr-F Bool → Bool
reads_layer x (expr.Const c) = false
reads_layer x (expr.Read y) = y == x
reads_layer x (expr.Add a b) = a || b
reads_layer x (expr.Sub a b) = a || b
reads_layer x (expr.Mul a b) = a || b

-- the fluent stands in an expression
abbrev pub reads : ℕ → GExpr → Bool
reads x = fold-GExpr Bool (reads_layer x)

abbrev pub compares_layer : ℕ → GCond-F Bool → Bool
compares_layer x cond.True = false
compares_layer x cond.False = false
compares_layer x (cond.Fact f truth) = false
compares_layer x (cond.Cmp r a b) = reads x a || reads x b
compares_layer x (cond.And cs) = list_any (λ c. c) cs
compares_layer x (cond.Or cs) = list_any (λ c. c) cs

-- the fluent stands in a condition
abbrev pub compares : ℕ → GCond → Bool
compares x = fold-GCond Bool (compares_layer x)

abbrev pub asks_layer : ℕ → GCond-F Bool → Bool
asks_layer f cond.True = false
asks_layer f cond.False = false
asks_layer f (cond.Fact g truth) = g == f
asks_layer f (cond.Cmp r a b) = false
asks_layer f (cond.And cs) = list_any (λ c. c) cs
asks_layer f (cond.Or cs) = list_any (λ c. c) cs

-- the fact stands in a condition
abbrev pub asks : ℕ → GCond → Bool
asks f = fold-GCond Bool (asks_layer f)

-- the fluent is read by a change, or assigned: what an assignment demands depends on the values that the fluent had
abbrev pub is_used : ℕ → ℕ × Change → Bool
is_used x (y, Add e) = reads x e
is_used x (y, Set e) = y == x || reads x e

abbrev pub depends_on_fluent : ℕ → Ground → Bool
depends_on_fluent x a = compares x a.pre || list_any (is_used x) a.nums

-- an action's number was added to the lists that pass a test, and to some others perhaps
pub record IsNoted (number : ℕ) (test : ℕ → Bool) (old new : List (List ℕ)) : Type 0 where
  pub as_many : length new ≡ length old
  pub kept : (at other : ℕ) → IsAmong (slice_index_or old at []) other → IsAmong (slice_index_or new at []) other
  pub noted : (at : ℕ) → at < length old → test at ≡ true → IsAmong (slice_index_or new at []) number
  pub only : (at other : ℕ) → IsAmong (slice_index_or new at []) other → IsAmong (slice_index_or old at []) other ⊎ (other ≡ number)

-- lists of numbers of actions by fact and by fluent, in which each action below a number stands at what its demands
-- depend on
pub record AreReadersBelow (t : TaskValue) (count : ℕ) (facts fluents : List (List ℕ)) : Type 0 where
  pub a_list_each_fact : length facts ≡ length t.raw.facts
  pub a_list_each_fluent : length fluents ≡ length t.raw.fluents
  pub known_in_facts : (f number : ℕ) → IsAmong (slice_index_or facts f []) number → number < length t.raw.actions
  pub known_in_fluents : (x number : ℕ) → IsAmong (slice_index_or fluents x []) number → number < length t.raw.actions
  pub of_facts : (f number : ℕ) (a : Ground) → f < length t.raw.facts → number < count → slice_get t.raw.actions number ≡ Some a → asks f a.pre ≡ true → IsAmong (slice_index_or facts f []) number
  pub of_fluents : (x number : ℕ) (a : Ground) → x < length t.raw.fluents → number < count → slice_get t.raw.actions number ≡ Some a → depends_on_fluent x a ≡ true → IsAmong (slice_index_or fluents x []) number

-- the same of all actions
abbrev pub AreReaders : TaskValue → List (List ℕ) → List (List ℕ) → Type 0
AreReaders t facts fluents = AreReadersBelow t (length t.raw.actions) facts fluents
