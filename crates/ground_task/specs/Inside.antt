-- For contracts inside this crate alone: what can be evaluated, and how the answers for members of a condition are joined.
use Rattle.std.specs.Prelude.{ℕ, ◌≡◌, ◌≢◌, ◌≤◌, ◌<◌, Bool, List, Some, IsTrue, AllPairs, All, fold, length, not, slice_index_or, if◌then◌else◌}
use Rattle.num_ends.specs.Decimal.{Decimal, number_at}
use Rattle.num_ends.specs.Range.{operands_fit}
use Rattle.ground_task.specs.declared.answers.Advanced.{Advanced}
use Rattle.ground_task.specs.declared.answers.Advanced.TheVariants as advance
use Rattle.ground_task.specs.declared.answers.Truth.{Truth}
use Rattle.ground_task.specs.declared.answers.Truth.TheVariants.{Yes, No, Over}
use Rattle.ground_task.specs.declared.raw.Change.{Change}
use Rattle.ground_task.specs.declared.raw.GCond.{GCond}
use Rattle.ground_task.specs.declared.raw.GExpr.{GExpr}
use Rattle.ground_task.specs.declared.raw.Rel.{Rel}
use Rattle.ground_task.specs.Meaning.{holds, stands}
use Rattle.ground_task.specs.Placed.{has_few_places, places_of}
use Rattle.ground_task.specs.Ranged.{are_effects_in_bounds, both, is_change_in_bounds, is_in_bounds, literals_true, ranged_value}
use Rattle.ground_task.specs.States.{StateValue}
use Rattle.ground_task.specs.declared.answers.Applied.{Applied}
use Rattle.ground_task.specs.declared.answers.Applied.TheVariants as step
use Rattle.ground_task.specs.declared.raw.Ground.{Ground}
use Rattle.ground_task.specs.Steps.{changed_value, next_state}
use Rattle.ground_task.specs.Tasks.{TaskValue}
use Rattle.ground_task.specs.Valid.{is_known_condition, is_known_expression, right_side}

-- an expression of known fluents, with at most 18 places
pub record IsEvaluable (t : TaskValue) (e : GExpr) : Type 0 where
  pub known : IsTrue (is_known_expression (length t.raw.fluents) e)
  pub few : places_of t.places e ≤ 18

-- a condition on known facts and fluents, whose comparisons have at most 18 places on each side
pub record IsDecidable (t : TaskValue) (c : GCond) : Type 0 where
  pub known : IsTrue (is_known_condition (length t.raw.facts) (length t.raw.fluents) c)
  pub few : IsTrue (has_few_places t.places c)

abbrev pub answer_of : Bool → Truth
answer_of b = if b then Yes else No

abbrev pub both_of : Truth → Truth → Truth
both_of Over x = Over
both_of Yes x = x
both_of No Over = Over
both_of No Yes = No
both_of No No = No

abbrev pub either_of : Truth → Truth → Truth
either_of Over x = Over
either_of No x = x
either_of Yes Over = Over
either_of Yes Yes = Yes
either_of Yes No = Yes

abbrev pub truth_of_all : (GCond → Truth) → Truth → List GCond → Truth
truth_of_all truth done cs = fold (λ answer c. both_of answer (truth c)) done cs

abbrev pub truth_of_any : (GCond → Truth) → Truth → List GCond → Truth
truth_of_any truth done cs = fold (λ answer c. either_of answer (truth c)) done cs

-- two values compared, within the range
abbrev pub compared : Rel → Decimal → Decimal → Truth
compared r a b = if operands_fit a b then answer_of (stands r a b) else Over

-- a comparison within the range
abbrev pub comparison : TaskValue → StateValue → Rel → GExpr → GExpr → Truth
comparison t s r e f =
    if both operands_fit (ranged_value t.places s e) (ranged_value t.places s f) then answer_of (both (stands r) (ranged_value t.places s e) (ranged_value t.places s f))
    else Over

-- ---- steps

-- a change of a known fluent, which the places suffice for
pub record IsEffectOf (t : TaskValue) (x : ℕ) (change : Change) : Type 0 where
  pub known : x < length t.raw.fluents
  pub evaluable : IsEvaluable t (right_side change)
  pub places : places_of t.places (right_side change) ≤ slice_index_or t.places x 0

-- such changes, at most one of each fluent
pub record AreEffectsOf (t : TaskValue) (effects : List (ℕ × Change)) : Type 0 where
  pub each : All (λ effect. IsEffectOf t effect.0 effect.1) effects
  pub one_each : AllPairs (λ one other. one.0 ≢ other.0) effects

-- the value that a change gives a fluent, at the fluent's places and in range there
pub record IsNewValue (places : List ℕ) (s : StateValue) (x : ℕ) (change : Change) (d : Decimal) : Type 0 where
  pub number : d.n ≡ number_at (slice_index_or places x 0) (changed_value places s x (Some change))
  pub fits : IsTrue (is_change_in_bounds places s x change)

-- whether an action with this precondition gets as far as its effects
abbrev pub guard_of : List ℕ → StateValue → GCond → Advanced
guard_of places s c =
    if not (literals_true s c) then advance.Blocked
    else (if not (is_in_bounds places s c) then advance.Over
    else (if not (holds places s c) then advance.Blocked
    else advance.Next))

-- what the effects of an action make of a state
abbrev pub effects_step : List ℕ → StateValue → Ground → Applied
effects_step places s a =
    if not (are_effects_in_bounds places s a.nums) then step.Over
    else step.Next (next_state places s a)
