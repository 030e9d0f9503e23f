-- What becomes of each binding of an action's parameters, and the first refusal among them.
use Rattle.std.specs.Prelude.{ℕ, suc, false, not, List, [], ◌∷◌, Option, Some, None, map, flat_map, filter_map, is_some, nat_le, slice_get, Result, Ok, Err, if◌then◌else◌}
use Rattle.std.specs.Option.{option_map_or}
use Rattle.pddl_terms.specs.declared.names.Typed.{Typed}
use Rattle.pddl_terms.specs.declared.actions.Assign.TheVariants as how
use Rattle.pddl_terms.specs.declared.actions.Effect.{Effect}
use Rattle.pddl_terms.specs.declared.actions.Effect.TheVariants as effect
use Rattle.pddl_terms.specs.declared.actions.Schema.{Schema}
use Rattle.pddl_terms.specs.declared.limits.What.TheVariants as what
use Rattle.pddl_terms.specs.declared.limits.TheConstants.{MAX_ACTIONS, MAX_PREFIXES}
use Rattle.pddl_types.specs.declared.faults.Side.{Side}
use Rattle.pddl_types.specs.declared.faults.Side.TheVariants as side
use Rattle.pddl_types.specs.declared.pairs.Pair.{Pair}
use Rattle.static_facts.specs.Atoms.{atom_of, names, text_of_atom, value_at_first}
use Rattle.static_facts.specs.Bindings.{bindings, prefix_count}
use Rattle.pddl_meaning.specs.Worlds.{initial_world}
use Rattle.pddl_meaning.specs.Steps.{is_ready}
use Rattle.ground_task.specs.declared.raw.Ground.{Ground}
use Rattle.ground_meaning.specs.declared.faults.GroundFault.{GroundFault}
use Rattle.ground_meaning.specs.declared.faults.GroundFault.TheVariants as fault
use Rattle.ground_meaning.specs.Expressions.{FoldFault}
use Rattle.ground_meaning.specs.Expressions.FoldFault.{Divide, OutOfRange}
use Rattle.ground_meaning.specs.Conditions.{is_decided}
use Rattle.ground_meaning.specs.Actions.{FoldedAction, action_text, coded_action, folded_action}

-- a binding is left out, gives an action of the task, or refuses the pair
pub data Outcome : Type 0 where
  Dropped : Outcome
  Kept : Ground → Outcome
  Refused : GroundFault → Outcome

-- ---- one binding

-- the refusal of a fold in a file, of the action or the goal with this text
abbrev pub fold_refusal : Side → List ℕ → FoldFault → GroundFault
fold_refusal at text (Divide place) = fault.Divide at place
fold_refusal at text OutOfRange = fault.Range text

-- the text of a fluent that is assigned, where it has no first value
abbrev pub unset_by : Pair → List Typed → List (List ℕ) → Effect → List (List ℕ)
unset_by p params args (effect.Add a) = []
unset_by p params args (effect.Del a) = []
unset_by p params args (effect.Num how.Set a x) = if is_some (value_at_first p (atom_of params args a)) then [] else text_of_atom (atom_of params args a) ∷ []
unset_by p params args (effect.Num how.Up a x) = []
unset_by p params args (effect.Num how.Down a x) = []
unset_by p params args (effect.Num how.Scale a x) = []

-- the first such fluent, in the order of the text
unfoldable pub first_unset : Pair → List Typed → List (List ℕ) → List Effect → Option (List ℕ)
first_unset p params args effects = slice_get (flat_map (unset_by p params args) effects) 0

-- of an action that is folded: it is left out where its precondition is false, refuses the pair where it assigns a fluent without first value, and is kept else
abbrev pub folded_outcome : Pair → Schema → List (List ℕ) → FoldedAction → Outcome
folded_outcome p s args action =
    if is_decided false action.condition then Dropped
    else option_map_or (λ text. Refused (fault.Unset text)) (first_unset p s.params args s.effects) (Kept (coded_action p s args action))

abbrev pub outcome_of : Pair → Schema → List (List ℕ) → Result FoldedAction FoldFault → Outcome
outcome_of p s args (Err f) = Refused (fold_refusal side.Domain (action_text s args) f)
outcome_of p s args (Ok action) = folded_outcome p s args action

-- a binding to objects: it is left out, before anything is folded, where something is read that has no first value or effects are in conflict
unfoldable pub outcome : Pair → Schema → List ℕ → Outcome
outcome p s os =
    if not (is_ready s (names p os) (initial_world p)) then Dropped
    else outcome_of p s (names p os) (folded_action p s (names p os))

-- ---- all bindings

-- those of an action, which is bound whole before its bindings are looked at
unfoldable pub schema_outcomes : Pair → Schema → List Outcome
schema_outcomes p s =
    if nat_le (prefix_count p s) MAX_PREFIXES then map (outcome p s) (bindings p s) else Refused (fault.TooMany what.Prefixes MAX_PREFIXES) ∷ []

-- in the order of the file, and then of the objects
unfoldable pub outcomes : Pair → List Outcome
outcomes p = flat_map (schema_outcomes p) p.domain.schemas

abbrev pub kept_in : Outcome → Option Ground
kept_in Dropped = None
kept_in (Kept a) = Some a
kept_in (Refused f) = None

-- the actions of the task, with facts and fluents by their codes
unfoldable pub kept : Pair → List Ground
kept p = filter_map kept_in (outcomes p)

-- the first refusal of a list of outcomes that follows some kept actions; one kept action too many is a refusal too
abbrev pub first_refused : ℕ → List Outcome → Option GroundFault
first_refused count [] = None
first_refused count (Dropped ∷ os) = first_refused count os
first_refused count (Refused f ∷ os) = Some f
first_refused count (Kept a ∷ os) = if nat_le MAX_ACTIONS count then Some (fault.TooMany what.Actions MAX_ACTIONS) else first_refused (suc count) os
