-- The single effects of an action that are kept, and where the first past the limit stands.
use Rattle.std.specs.Prelude.{ℕ, Bool, true, not, List, [], ◌∷◌, Option, Some, None, drop, filter_map, nat_lt, if◌then◌else◌}
use Rattle.pddl_terms.specs.declared.actions.Effect.{Effect}
use Rattle.pddl_terms.specs.declared.actions.Effect.TheVariants as effect
use Rattle.pddl_terms.specs.Heights.{expression_height}
use Rattle.pddl_terms.specs.declared.limits.TheConstants.{MAX_EFFECTS, MAX_HEIGHT}

-- nothing in the effect is too high
abbrev pub is_low : Effect → Bool
is_low (effect.Add a) = true
is_low (effect.Del a) = true
is_low (effect.Num how a e) = not (nat_lt MAX_HEIGHT (expression_height e))

-- an effect that is there and isn't too high
abbrev pub fitting : Option Effect → Option Effect
fitting None = None
fitting (Some x) = if is_low x then Some x else None

abbrev pub kept_of : List (ℕ × Option Effect) → List Effect
kept_of found = filter_map (λ f. fitting f.1) found

abbrev pub first_place : List (ℕ × Option Effect) → Option ℕ
first_place [] = None
first_place (f ∷ fs) = Some f.0

-- the position of the first single effect past the limit
abbrev pub past_of : List (ℕ × Option Effect) → Option ℕ
past_of found = first_place (drop MAX_EFFECTS found)
