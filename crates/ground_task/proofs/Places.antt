-- The places of values: those of an expression, and those of what a change gives.
use Rattle.std.proofs.Common.{◌≡◌, ℕ, ◌+◌, ◌≤◌, max, ◌==◌, List, [], ◌∷◌, All, slice_index_or, Some, sym, refl, ap, ap₂, ◌∙◌, arith, inl, inr, eqb-true}
use Rattle.std.proofs.lemmas.Bool.{cases_Bool}
use Rattle.std.proofs.lemmas.List.Elements.{All-head, All-tail}
use Rattle.num_ends.specs.Decimal.{Decimal}
use Rattle.ground_task.specs.declared.raw.GExpr.{GExpr}
use Rattle.ground_task.specs.declared.raw.Change.{Change}
use Rattle.ground_task.specs.declared.raw.Change.TheVariants.{Add, Set}
use Rattle.ground_task.specs.Meaning.{fluent_value, value_in, value_layer, value_of}
use Rattle.ground_task.specs.Placed.{places_layer, places_of}
use Rattle.ground_task.specs.States.{StateValue}
use Rattle.ground_task.specs.Steps.{change_of, changed_value}
use Rattle.ground_task.specs.Valid.{right_side}
use Rattle.ground_task.proofs.Trees.{fold-Const, fold-Read, fold-Add, fold-Sub, fold-Mul, induct_expression}

abbrev count : Decimal → ℕ
count d = d.p

-- the value of an expression has the expression's places, where the fluents' values have theirs
pub places_of_value : (v : ℕ → Decimal) (places : List ℕ) → ((x : ℕ) → (v x).p ≡ slice_index_or places x 0) → (x : GExpr) → (value_in v x).p ≡ places_of places x
places_of_value v places own =
    induct_expression (λ x. (value_in v x).p ≡ places_of places x)
    (λ d. ap count (fold-Const (value_layer v) d) ∙ sym (fold-Const (places_layer places) d))
    (λ x. ap count (fold-Read (value_layer v) x) ∙ own x ∙ sym (fold-Read (places_layer places) x))
    (λ a b one other. ap count (fold-Add (value_layer v) a b) ∙ ap₂ max one other ∙ sym (fold-Add (places_layer places) a b))
    (λ a b one other. ap count (fold-Sub (value_layer v) a b) ∙ ap₂ max one other ∙ sym (fold-Sub (places_layer places) a b))
    (λ a b one other. ap count (fold-Mul (value_layer v) a b) ∙ ap₂ (λ (m n : ℕ). m + n) one other ∙ sym (fold-Mul (places_layer places) a b))

-- in a state
pub places_in_state : (places : List ℕ) (s : StateValue) (x : GExpr) → (value_of places s x).p ≡ places_of places x
places_in_state places s = places_of_value (fluent_value places s) places (λ x. refl)

by_change : (places : List ℕ) (s : StateValue) (x : ℕ) (change : Change) → places_of places (right_side change) ≤ slice_index_or places x 0 → (changed_value places s x (Some change)).p ≤ slice_index_or places x 0
by_change places s x (Add e) few = omega (arith, places_in_state places s e)
by_change places s x (Set e) few = omega (arith, places_in_state places s e)

-- what a change gives a fluent has no more places than the fluent, where the right-hand sides have none
pub places_of_change : (places : List ℕ) (s : StateValue) (x : ℕ) (effects : List (ℕ × Change)) → All (λ effect. places_of places (right_side effect.1) ≤ slice_index_or places effect.0 0) effects → (changed_value places s x (change_of x effects)).p ≤ slice_index_or places x 0
places_of_change places s x [] fit = omega arith
places_of_change places s x (effect ∷ effects) fit =
    let here = All-head (λ (e : ℕ × Change). places_of places (right_side e.1) ≤ slice_index_or places e.0 0) effect effects fit in
    elim (cases_Bool (effect.0 == x)) [
      | inl same ↦ rw same (by_change places s x effect.1 (rw (← eqb-true effect.0 x same) here))
      | inr other ↦ rw other (places_of_change places s x effects (All-tail (λ (e : ℕ × Change). places_of places (right_side e.1) ≤ slice_index_or places e.0 0) effect effects fit))
    ]
