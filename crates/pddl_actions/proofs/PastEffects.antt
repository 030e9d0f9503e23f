-- The first effect past the limit.
use Rattle.std.proofs.Common.{◌≡◌, ℕ, List, [], ◌∷◌, Option, map, take, drop, refl}
use Rattle.std.specs.Option.{option_map_or}
use Rattle.pddl_terms.specs.declared.actions.Effect.{Effect}
use Rattle.pddl_terms.specs.declared.limits.What.TheVariants.{Effects}
use Rattle.pddl_trees.specs.declared.faults.Reason.TheVariants.{TooMany}
use Rattle.pddl_trees.specs.Faults.{fault_at}
use Rattle.pddl_actions.specs.Kept.{first_place, past_of}
use Rattle.pddl_trees.specs.Actions.{past_effects}

first_past : (fs : List (ℕ × Option Effect)) → option_map_or (λ at. fault_at at (TooMany Effects) ∷ []) (first_place fs) [] ≡ map (λ (e : ℕ × Option Effect). fault_at e.0 (TooMany Effects)) (take 1 fs)
first_past [] = refl
first_past (f ∷ fs) = refl

pub past_is : (found : List (ℕ × Option Effect)) → option_map_or (λ at. fault_at at (TooMany Effects) ∷ []) (past_of found) [] ≡ past_effects found
past_is found = first_past (drop 256 found)
