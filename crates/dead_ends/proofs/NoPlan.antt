-- Walks that go on, and states from which no plan leads on.
use Rattle.std.proofs.Common.{◌≡◌, true, ℕ, List, [], ◌∷◌, ◌++◌, refl, sym, subst, inl, inr}
use Rattle.std.proofs.lemmas.Bool.{both_ways}
use Rattle.ground_task.specs.Meaning.{holds}
use Rattle.ground_task.specs.States.{StateValue}
use Rattle.ground_task.specs.Steps.{IsPlanFrom}
use Rattle.ground_task.specs.Tasks.{TaskValue}
use Rattle.box_model.specs.Boxes.{Contains}
use Rattle.box_model.specs.Least.{IsDead}
use Rattle.box_model.specs.declared.state_box.StateBox.{StateBox}
use Rattle.dead_ends.specs.Certificates.{IsCovered, IsGood}
use Rattle.search_runs.specs.Walks.{WalkThrough}

pub walk_on : {S : Type 0} (Passes : S → Type 0) (Moves : ℕ → S → S → Type 0) (actions : List ℕ) (s p x : S) (a : ℕ)
    → WalkThrough Passes Moves actions s p → Moves a p x → Passes x → WalkThrough Passes Moves (actions ++ a ∷ []) s x
walk_on Passes Moves [] s p x a w moves passes = (w.0, (x, subst (λ q. Moves a q x) (sym w.1) moves, (passes, refl)))
walk_on Passes Moves (b ∷ rest) s p x a w moves passes = (w.0, (w.1.0, w.1.1, walk_on Passes Moves rest w.1.0 p x a w.1.2 moves passes))

module _ (t : TaskValue) (boxes : List StateBox) (states : List StateValue) (good : IsGood t boxes states)
    (none_in_box : (b : StateBox) (s : StateValue) (numbers : List ℕ) → IsDead t b → Contains t.places b s → IsPlanFrom t s numbers → ⊥) where
  -- no plan leads on from a covered state
  pub none_from : (numbers : List ℕ) (s : StateValue) → IsCovered t boxes states s → IsPlanFrom t s numbers → ⊥
  none_from numbers s (inr (b, box, at, contains)) plan = none_in_box box s numbers (good.dead b box at) contains plan
  none_from [] s (inl listed) (last, same, holds_there) =
      both_ways (holds t.places s t.raw.goal) (good.misses s listed) (subst (λ u. holds t.places u t.raw.goal ≡ true) (sym same) holds_there)
  none_from (a ∷ rest) s (inl listed) (last, (next, step, leads), holds_there) =
      none_from rest next (good.steps s next a listed step) (last, leads, holds_there)
