-- The limit that a reason against a pair's ground task names is that of its kind of things.
use Rattle.std.proofs.Common.{◌≡◌, ℕ, suc, Bool, true, false, not, List, [], ◌∷◌, ◌++◌, Option, Some, None, Result, Ok, Err, map, flat_map, nat_le, refl, subst, if◌then◌else◌}
use Rattle.std.specs.Bool.{⊤}
use Rattle.std.specs.Option.{option_map_or}
use Rattle.pddl_terms.specs.declared.actions.Schema.{Schema}
use Rattle.pddl_terms.specs.declared.limits.What.{What}
use Rattle.pddl_terms.specs.declared.limits.What.TheVariants as what
use Rattle.pddl_terms.specs.declared.limits.TheConstants.{MAX_ACTIONS, MAX_PREFIXES}
use Rattle.pddl_terms.specs.Limits.{limit_of}
use Rattle.pddl_types.specs.declared.faults.Side.{Side}
use Rattle.pddl_types.specs.declared.pairs.Pair.{Pair}
use Rattle.pddl_meaning.specs.Steps.{is_ready}
use Rattle.pddl_meaning.specs.Worlds.{initial_world}
use Rattle.static_facts.specs.Atoms.{names}
use Rattle.static_facts.specs.Bindings.{bindings, prefix_count}
use Rattle.ground_task.specs.declared.raw.Ground.{Ground}
use Rattle.ground_task.specs.declared.raw.RawTask.{RawTask}
use Rattle.places.specs.declared.faults.PlacesFault.{PlacesFault}
use Rattle.places.specs.declared.faults.PlacesFault.TheVariants as places_fault
use Rattle.ground_meaning.specs.declared.faults.GroundFault.{GroundFault}
use Rattle.ground_meaning.specs.declared.faults.GroundFault.TheVariants as fault
use Rattle.ground_meaning.specs.Expressions.{FoldFault}
use Rattle.ground_meaning.specs.Expressions.FoldFault.{Divide, OutOfRange}
use Rattle.ground_meaning.specs.Conditions.{is_decided}
use Rattle.ground_meaning.specs.Actions.{FoldedAction, action_text, coded_action, folded_action}
use Rattle.ground_meaning.specs.Outcomes.{Outcome, first_refused, first_unset, fold_refusal, folded_outcome, outcome, outcome_of, outcomes, schema_outcomes}
use Rattle.ground_meaning.specs.Outcomes.Outcome.{Dropped, Kept, Refused}
use Rattle.ground_meaning.specs.Refusals.{IsRefused, places_refusal}
use Rattle.ground_meaning.specs.Refusals.IsRefused.{by_objects, by_binding, by_goal, by_folding, by_facts, by_fluents, by_places, by_memory}

abbrev TellsLimit : GroundFault → Type 0
TellsLimit (fault.Unset text) = ⊤
TellsLimit (fault.Divide file at) = ⊤
TellsLimit (fault.Places text) = ⊤
TellsLimit (fault.Range text) = ⊤
TellsLimit (fault.TooMany kind limit) = limit ≡ limit_of kind
TellsLimit fault.NoMemory = ⊤

-- ---- outcomes

abbrev Tells : Outcome → Type 0
Tells Dropped = ⊤
Tells (Kept a) = ⊤
Tells (Refused f) = TellsLimit f

abbrev AllTell : List Outcome → Type 0
AllTell [] = ⊤
AllTell (o ∷ os) = Tells o × AllTell os

all_append : (xs ys : List Outcome) → AllTell xs → AllTell ys → AllTell (xs ++ ys)
all_append [] ys all more = more
all_append (x ∷ xs) ys all more = (all.0, all_append xs ys all.1 more)

all_flat : {X : Type 0} (f : X → List Outcome) → ((x : X) → AllTell (f x)) → (xs : List X) → AllTell (flat_map f xs)
all_flat f each [] = tt
all_flat f each (x ∷ xs) = all_append (f x) (flat_map f xs) (each x) (all_flat f each xs)

all_mapped : {X : Type 0} (f : X → Outcome) → ((x : X) → Tells (f x)) → (xs : List X) → AllTell (map f xs)
all_mapped f each [] = tt
all_mapped f each (x ∷ xs) = (each x, all_mapped f each xs)

one_too_many : (full : Bool) (rest : Option GroundFault) (f : GroundFault) → (rest ≡ Some f → TellsLimit f) → (if full then Some (fault.TooMany what.Actions MAX_ACTIONS) else rest) ≡ Some f → TellsLimit f
one_too_many true rest f tells is = let same : fault.TooMany what.Actions MAX_ACTIONS ≡ f = cc is in subst TellsLimit same refl
one_too_many false rest f tells is = tells is

first_tells : (count : ℕ) (os : List Outcome) (f : GroundFault) → AllTell os → first_refused count os ≡ Some f → TellsLimit f
first_tells count [] f all is = absurd (cc is)
first_tells count (Dropped ∷ os) f all is = first_tells count os f all.1 is
first_tells count (Refused g ∷ os) f all is = let same : g ≡ f = cc is in subst TellsLimit same all.0
first_tells count (Kept a ∷ os) f all is =
    one_too_many (nat_le MAX_ACTIONS count) (first_refused (suc count) os) f (first_tells (suc count) os f all.1) is

fold_tells : (file : Side) (text : List ℕ) (f : FoldFault) → TellsLimit (fold_refusal file text f)
fold_tells file text (Divide place) = tt
fold_tells file text OutOfRange = tt

unset_tells : (unset : Option (List ℕ)) (a : Ground) → Tells (option_map_or (λ text. Refused (fault.Unset text)) unset (Kept a))
unset_tells None a = tt
unset_tells (Some text) a = tt

folded_tells : (p : Pair) (s : Schema) (args : List (List ℕ)) (action : FoldedAction) → Tells (folded_outcome p s args action)
folded_tells p s args action = at (is_decided false action.condition)
  where
    at : (dropped : Bool) → Tells (if dropped then Dropped else option_map_or (λ text. Refused (fault.Unset text)) (first_unset p s.params args s.effects) (Kept (coded_action p s args action)))
    at true = tt
    at false = unset_tells (first_unset p s.params args s.effects) (coded_action p s args action)

outcome_of_tells : (p : Pair) (s : Schema) (args : List (List ℕ)) (folded : Result FoldedAction FoldFault) → Tells (outcome_of p s args folded)
outcome_of_tells p s args (Err f) = fold_tells _ (action_text s args) f
outcome_of_tells p s args (Ok action) = folded_tells p s args action

outcome_tells : (p : Pair) (s : Schema) (os : List ℕ) → Tells (outcome p s os)
unfolding outcome
outcome_tells p s os = at (not (is_ready s (names p os) (initial_world p)))
  where
    at : (dropped : Bool) → Tells (if dropped then Dropped else outcome_of p s (names p os) (folded_action p s (names p os)))
    at true = tt
    at false = outcome_of_tells p s (names p os) (folded_action p s (names p os))

schema_tells : (p : Pair) (s : Schema) → AllTell (schema_outcomes p s)
unfolding schema_outcomes
schema_tells p s = at (nat_le (prefix_count p s) MAX_PREFIXES)
  where
    at : (few : Bool) → AllTell (if few then map (outcome p s) (bindings p s) else Refused (fault.TooMany what.Prefixes MAX_PREFIXES) ∷ [])
    at true = all_mapped (outcome p s) (outcome_tells p s) (bindings p s)
    at false = (refl, tt)

all_tell : (p : Pair) → AllTell (outcomes p)
unfolding outcomes
all_tell p = all_flat (schema_outcomes p) (schema_tells p) p.domain.schemas

-- ---- reasons

places_tell : (raw : RawTask) (f : PlacesFault) → TellsLimit (places_refusal raw f)
places_tell raw (places_fault.Fluent x) = tt
places_tell raw (places_fault.Action number) = tt
places_tell raw places_fault.Goal = tt
places_tell raw (places_fault.Range x) = tt
places_tell raw places_fault.NoMemory = tt

tells_limit : (p : Pair) (f : GroundFault) → IsRefused p f → TellsLimit f
tells_limit p _ (by_objects many) = refl
tells_limit p _ (by_binding f few first) = first_tells 0 (outcomes p) f (all_tell p) first
tells_limit p _ (by_goal text bound unset) = tt
tells_limit p _ (by_folding f bound set folds) = fold_tells _ _ f
tells_limit p _ (by_facts goal facts folds all many) = refl
tells_limit p _ (by_fluents goal facts fluents folds all_facts all_fluents few many) = refl
tells_limit p _ (by_places raw f task is) = places_tell raw f
tells_limit p _ by_memory = tt

pub limits_are_told : (p : Pair) (kind : What) (limit : ℕ) → IsRefused p (fault.TooMany kind limit) → limit ≡ limit_of kind
limits_are_told p kind limit refused = tells_limit p (fault.TooMany kind limit) refused
