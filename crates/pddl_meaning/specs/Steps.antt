-- Steps of actions on worlds, without bounds and within the range, and plans (PDDL 2.1, Fox and Long 2003).
use Rattle.std.specs.Prelude.{ℕ, ◌≡◌, ◌&&◌, ◌||◌, ◌==◌, Bool, false, true, not, List, [], ◌∷◌, Option, Some, IsTrue, length, find, flat_map, bytes_eq, if◌then◌else◌}
use Rattle.std.specs.Option.{option_map_or}
use Rattle.std.specs.FinSet as set
use Rattle.std.specs.FinMap as finite
use Rattle.std.specs.List.{list_any}
use Rattle.pddl_terms.specs.declared.names.Typed.{Typed}
use Rattle.pddl_terms.specs.declared.actions.Schema.{Schema}
use Rattle.pddl_types.specs.declared.pairs.Pair.{Pair}
use Rattle.name_table.specs.TypedLists.{first_typed}
use Rattle.type_order.specs.Types.{is_within}
use Rattle.name_table.specs.Tables.{is_text_among as is_among}
use Rattle.pddl_types.specs.Pairs.{objects_of}
use Rattle.pddl_meaning.specs.declared.answers.Stepped.{Stepped}
use Rattle.pddl_meaning.specs.declared.answers.Stepped.TheVariants as answer
use Rattle.pddl_meaning.specs.declared.answers.Advanced.{Advanced}
use Rattle.pddl_meaning.specs.declared.answers.Advanced.TheVariants as advance
use Rattle.pddl_meaning.specs.Worlds.{WorldValue, initial_world}
use Rattle.pddl_meaning.specs.Values.{exactly, in_bounds}
use Rattle.pddl_meaning.specs.Truth.{holds, is_defined, is_in_bounds, is_true, literals_true, goal_holds}
use Rattle.pddl_meaning.specs.Effects.{added_by, deleted_by, numeric_effects, are_compatible, are_effects_defined, are_effects_valued, next_value, next_world}

-- ---- legal steps

-- the action with a name
abbrev pub schema_named : Pair → List ℕ → Option Schema
schema_named p name = find (λ s. bytes_eq name s.name.text) p.domain.schemas

-- an argument is an object whose type is the parameter's or descends from it
abbrev pub fits : Pair → Typed → List ℕ → Bool
fits p param arg = option_map_or (λ own. is_within p.domain.types own.kind.text param.kind.text) (first_typed arg (objects_of p)) false

-- there are as many arguments as parameters, and each fits
abbrev pub all_fit : Pair → List Typed → List (List ℕ) → Bool
all_fit p [] [] = true
all_fit p [] (a ∷ args) = false
all_fit p (t ∷ params) [] = false
all_fit p (t ∷ params) (a ∷ args) = fits p t a && all_fit p params args

-- no fluent that the action reads is undefined, and no two of its effects are in conflict
unfoldable pub is_ready : Schema → List (List ℕ) → WorldValue → Bool
is_ready s args w =
    is_defined s.params args w s.pre
    && are_effects_defined s.params args w (numeric_effects s.params args s.effects)
    && are_compatible (numeric_effects s.params args s.effects)

-- ---- the step without bounds

-- a fact after an action: what it adds is true, and else what it deletes is false
abbrev pub next_fact : Schema → List (List ℕ) → WorldValue → List ℕ → Bool
next_fact s args w f =
    is_among f (flat_map (added_by s.params args) s.effects)
    || (set.contains w.facts f && not (is_among f (flat_map (deleted_by s.params args) s.effects)))

-- the action with this name and these arguments leads from the one world to the other
pub record IsStep (p : Pair) (w : WorldValue) (name : List ℕ) (args : List (List ℕ)) (next : WorldValue) : Type 0 where
  pub action : Schema
  pub named : schema_named p name ≡ Some action
  pub legal : IsTrue (all_fit p action.params args)
  pub ready : IsTrue (is_ready action args w)
  pub applies : IsTrue (holds action.params args w action.pre)
  pub valued : IsTrue (are_effects_valued exactly action.params args w (numeric_effects action.params args action.effects))
  pub facts : (f : List ℕ) → set.contains next.facts f ≡ next_fact action args w f
  pub values : (x : List ℕ) → finite.get next.values x ≡ next_value exactly action.params args w (numeric_effects action.params args action.effects) x

-- the steps, each a name with its arguments, lead one after another from the one world to the other
abbrev pub StepsLead : Pair → WorldValue → List (List ℕ × List (List ℕ)) → WorldValue → Type 0
StepsLead p w [] last = w ≡ last
StepsLead p w (s ∷ steps) last = (next : WorldValue) × IsStep p w s.0 s.1 next × StepsLead p next steps last

-- the steps lead from the world to one in which the goal holds
abbrev pub IsPlanFrom : Pair → WorldValue → List (List ℕ × List (List ℕ)) → Type 0
IsPlanFrom p w steps = (last : WorldValue) × StepsLead p w steps last × IsTrue (goal_holds p last)

-- a plan of the problem
abbrev pub IsPlan : Pair → List (List ℕ × List (List ℕ)) → Type 0
IsPlan p steps = IsPlanFrom p (initial_world p) steps

-- ---- the step within the range

-- the effects, within the range
abbrev pub ranged_effects : Schema → List (List ℕ) → WorldValue → Stepped
ranged_effects s args w =
    if are_effects_valued in_bounds s.params args w (numeric_effects s.params args s.effects) then answer.Next (next_world s.params args w s.effects)
    else answer.Over

-- an action whose arguments fit: the first that applies of
--   a fluent that is read is undefined, or effects are in conflict; a top conjunct that is a literal is false;
--   a subvalue of the precondition leaves the range; the precondition is false; a subvalue of the effects leaves the range
unfoldable pub ranged_action : Schema → List (List ℕ) → WorldValue → Stepped
ranged_action s args w =
    if not (is_ready s args w) then answer.Blocked
    else (if not (literals_true s.params args w s.pre true) then answer.Blocked
    else (if not (is_in_bounds s.params args w s.pre) then answer.Over
    else (if not (is_true s.params args w s.pre) then answer.Blocked
    else ranged_effects s args w)))

abbrev pub ranged_schema : Pair → List (List ℕ) → WorldValue → Schema → Stepped
ranged_schema p args w s = if all_fit p s.params args then ranged_action s args w else answer.Illegal

-- what a name with arguments does in a world
unfoldable pub ranged_step : Pair → WorldValue → List ℕ → List (List ℕ) → Stepped
ranged_step p w name args = option_map_or (ranged_schema p args w) (schema_named p name) answer.Illegal

-- the same answer without the next world
abbrev pub without_world : Stepped → Advanced
without_world (answer.Next next) = advance.Next
without_world answer.Blocked = advance.Blocked
without_world answer.Illegal = advance.Illegal
without_world answer.Over = advance.Over

-- the world that is there after an answer: the next one, or else the old one
abbrev pub world_after : WorldValue → Stepped → WorldValue
world_after w (answer.Next next) = next
world_after w answer.Blocked = w
world_after w answer.Illegal = w
world_after w answer.Over = w
