-- What is computed of an action's effects while the old world is read, and how it is then written.
use Rattle.std.specs.Prelude.{ℕ, ◌&&◌, ◌||◌, Bool, List, [], ◌∷◌, Option, Some, None, true, is_some, map, length, filter, fold, option_map, nat_le, bytes_eq, if◌then◌else◌}
use Rattle.std.specs.Option.{option_and_then}
use Rattle.std.specs.List.{list_all, zip}
use Rattle.std.specs.FinSet as set
use Rattle.std.specs.FinMap as finite
use Rattle.num_ends.specs.Decimal.{Decimal}
use Rattle.pddl_terms.specs.declared.names.Typed.{Typed}
use Rattle.pddl_terms.specs.declared.actions.Effect.{Effect}
use Rattle.pddl_terms.specs.declared.conditions.Cond.{Cond}
use Rattle.pddl_meaning.specs.declared.answers.Stepped.{Stepped}
use Rattle.pddl_meaning.specs.declared.answers.Stepped.TheVariants as answer
use Rattle.pddl_meaning.specs.declared.effects.Evaluation.{Evaluation}
use Rattle.pddl_meaning.specs.declared.writes.Writes.{Writes}
use Rattle.pddl_meaning.specs.declared.writes.Prepared.{Prepared}
use Rattle.pddl_meaning.specs.declared.writes.Prepared.TheVariants as prepared
use Rattle.pddl_meaning.specs.Worlds.{Values, WorldValue}
use Rattle.pddl_meaning.specs.Values.{in_bounds, value_by}
use Rattle.pddl_meaning.specs.Effects.{NumericEffect, are_compatible, are_effects_defined, are_effects_valued, numeric_effects, first_part, further_part, is_effect_defined, is_joined, next_world, value_after}
use Rattle.pddl_meaning.specs.Truth.{is_defined, literals_true}

-- ---- evaluations

-- a change with the values, within the range, of its fluent and its expression
abbrev pub evaluation_of : List Typed → List (List ℕ) → WorldValue → NumericEffect → Evaluation
evaluation_of params args w c = record { how = c.how; fluent = c.fluent; old = finite.get w.values c.fluent; by = value_by in_bounds params args w c.by }

-- the evaluation of a change that reads no undefined fluent
abbrev pub defined_evaluation : List Typed → List (List ℕ) → WorldValue → NumericEffect → Option Evaluation
defined_evaluation params args w c = if is_effect_defined params args w c then Some (evaluation_of params args w c) else None

-- the evaluations of changes that read no undefined fluent
abbrev pub evaluations_of : List Typed → List (List ℕ) → WorldValue → List NumericEffect → Option (List Evaluation)
evaluations_of params args w [] = Some []
evaluations_of params args w (c ∷ changes) =
    if is_effect_defined params args w c then option_map (λ evaluations. evaluation_of params args w c ∷ evaluations) (evaluations_of params args w changes) else None

abbrev pub evaluations_on : List ℕ → List Evaluation → List Evaluation
evaluations_on fluent evaluations = filter (λ a. bytes_eq fluent a.fluent) evaluations

abbrev pub are_compatible_evaluations : List Evaluation → Bool
are_compatible_evaluations evaluations = list_all (λ a. is_joined a.how || nat_le (length (evaluations_on a.fluent evaluations)) 1) evaluations

-- the evaluations of changes that read no undefined fluent and aren't in conflict
abbrev pub ready_evaluations : List Typed → List (List ℕ) → WorldValue → List NumericEffect → Option (List Evaluation)
ready_evaluations params args w changes =
    if are_effects_defined params args w changes && are_compatible changes then Some (map (evaluation_of params args w) changes) else None

-- ---- new values

-- a joined sum with further evaluations
abbrev pub with_parts : Option Decimal → List Evaluation → Option Decimal
with_parts sum evaluations = fold (λ s a. further_part in_bounds a.how s a.by) sum evaluations

-- the value of a fluent after the evaluations on it
abbrev pub value_from : Option Decimal → List Evaluation → Option Decimal
value_from old [] = old
value_from old (a ∷ evaluations) = value_after in_bounds a.how old a.by (with_parts (first_part in_bounds a.how a.by) evaluations)

-- the values after all evaluations of the fluents of some of them
abbrev pub new_values : List Evaluation → List Evaluation → Option (List Decimal)
new_values all [] = Some []
new_values all (a ∷ evaluations) =
    option_and_then (λ d. option_map (λ ds. d ∷ ds) (new_values all evaluations)) (value_from a.old (evaluations_on a.fluent all))

-- what effects do that read no undefined fluent and aren't in conflict
abbrev pub effects_answer : List Typed → List (List ℕ) → WorldValue → List Effect → Stepped
effects_answer params args w effects =
    if are_effects_valued in_bounds params args w (numeric_effects params args effects) then answer.Next (next_world params args w effects) else answer.Over

-- what effects do where the precondition is true
abbrev pub ready_answer : List Typed → List (List ℕ) → WorldValue → List Effect → Stepped
ready_answer params args w effects =
    if is_some (ready_evaluations params args w (numeric_effects params args effects)) then effects_answer params args w effects else answer.Blocked

-- an action whose precondition leaves the range is blocked nevertheless where something blocks it that is looked at before
abbrev pub over_answer : List Typed → List (List ℕ) → WorldValue → Cond → List Effect → Stepped
over_answer params args w pre effects =
    if is_defined params args w pre && is_some (ready_evaluations params args w (numeric_effects params args effects)) && literals_true params args w pre true then answer.Over
    else answer.Blocked

-- ---- writing

abbrev pub with_values : Values → List (Evaluation × Decimal) → Values
with_values values news = fold (λ vs e. finite.insert vs e.0.fluent e.1) values news

-- a world after facts are deleted, facts are added and values are set
abbrev pub written : WorldValue → Writes → WorldValue
written w x = record {
  facts = set.union (set.difference w.facts (set.from_list x.deleted)) (set.from_list x.added);
  values = with_values w.values (zip x.evaluations x.news);
}

-- the answer to which a preparation leads
abbrev pub stepped_by : WorldValue → Prepared → Stepped
stepped_by w (prepared.Ready x) = answer.Next (written w x)
stepped_by w prepared.Blocked = answer.Blocked
stepped_by w prepared.Illegal = answer.Illegal
stepped_by w prepared.Over = answer.Over
