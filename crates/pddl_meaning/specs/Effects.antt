-- What the effects of an action do to a world, all at once.
use Rattle.std.specs.Prelude.{ℕ, ◌&&◌, ◌||◌, Bool, true, false, not, List, [], ◌∷◌, Option, Some, None, map, length, filter, fold, flat_map, is_some, nat_le, bytes_eq}
use Rattle.std.specs.List.{list_all}
use Rattle.std.specs.FinSet as set
use Rattle.std.specs.FinMap as finite
use Rattle.num_ends.specs.Decimal.{Decimal, origin}
use Rattle.pddl_terms.specs.declared.names.Typed.{Typed}
use Rattle.pddl_terms.specs.declared.expressions.Op.{Op}
use Rattle.pddl_terms.specs.declared.expressions.Op.TheVariants as op
use Rattle.pddl_terms.specs.declared.expressions.Expr.{Expr}
use Rattle.pddl_terms.specs.declared.actions.Assign.{Assign}
use Rattle.pddl_terms.specs.declared.actions.Assign.TheVariants as how
use Rattle.pddl_terms.specs.declared.actions.Effect.{Effect}
use Rattle.pddl_terms.specs.declared.actions.Effect.TheVariants as effect
use Rattle.pddl_terms.specs.Texts.{ground_text}
use Rattle.pddl_meaning.specs.Worlds.{Facts, Values, WorldValue}
use Rattle.pddl_meaning.specs.Values.{combined, exactly, value_by, reads_defined}

-- ---- facts

abbrev pub added_by : List Typed → List (List ℕ) → Effect → List (List ℕ)
added_by params args (effect.Add a) = ground_text params args a ∷ []
added_by params args (effect.Del a) = []
added_by params args (effect.Num how a e) = []

abbrev pub deleted_by : List Typed → List (List ℕ) → Effect → List (List ℕ)
deleted_by params args (effect.Add a) = []
deleted_by params args (effect.Del a) = ground_text params args a ∷ []
deleted_by params args (effect.Num how a e) = []

-- the old facts without the deleted ones, and with the added ones
unfoldable pub next_facts : List Typed → List (List ℕ) → Facts → List Effect → Facts
next_facts params args facts effects =
    set.union (set.difference facts (set.from_list (flat_map (deleted_by params args) effects))) (set.from_list (flat_map (added_by params args) effects))

-- ---- numeric effects

-- how a ground fluent is changed, and by which expression
pub record NumericEffect : Type 0 where
  pub how : Assign
  pub fluent : List ℕ
  pub by : Expr

abbrev pub numeric_effect_by : List Typed → List (List ℕ) → Effect → List NumericEffect
numeric_effect_by params args (effect.Add a) = []
numeric_effect_by params args (effect.Del a) = []
numeric_effect_by params args (effect.Num how a e) = record { how = how; fluent = ground_text params args a; by = e } ∷ []

-- the numeric effects, in the order of the text
unfoldable pub numeric_effects : List Typed → List (List ℕ) → List Effect → List NumericEffect
numeric_effects params args effects = flat_map (numeric_effect_by params args) effects

-- those on one ground fluent
abbrev pub effects_on : List ℕ → List NumericEffect → List NumericEffect
effects_on fluent changes = filter (λ c. bytes_eq fluent c.fluent) changes

-- increases and decreases of one fluent are joined; `assign` and `scale-up` stand alone
abbrev pub is_joined : Assign → Bool
is_joined how.Set = false
is_joined how.Up = true
is_joined how.Down = true
is_joined how.Scale = false

-- no `assign` or `scale-up` stands beside another numeric effect on the same ground fluent
unfoldable pub are_compatible : List NumericEffect → Bool
are_compatible changes = list_all (λ c. is_joined c.how || nat_le (length (effects_on c.fluent changes)) 1) changes

abbrev pub reads_old : Assign → Bool
reads_old how.Set = false
reads_old how.Up = true
reads_old how.Down = true
reads_old how.Scale = true

-- each fluent that a numeric effect reads is defined: those of its expression, and the changed one itself but for `assign`
abbrev pub is_effect_defined : List Typed → List (List ℕ) → WorldValue → NumericEffect → Bool
is_effect_defined params args w c = reads_defined params args w c.by && (not (reads_old c.how) || finite.contains_key w.values c.fluent)

unfoldable pub are_effects_defined : List Typed → List (List ℕ) → WorldValue → List NumericEffect → Bool
are_effects_defined params args w changes = list_all (is_effect_defined params args w) changes

-- ---- new values

-- the first part of a joined sum: the value, or 0 less the value
abbrev pub first_part : (Op → Decimal → Decimal → Option Decimal) → Assign → Option Decimal → Option Decimal
first_part operate how.Set x = x
first_part operate how.Up x = x
first_part operate how.Down x = combined operate op.Sub (Some origin) x
first_part operate how.Scale x = x

-- a further part: the value is added or subtracted
abbrev pub further_part : (Op → Decimal → Decimal → Option Decimal) → Assign → Option Decimal → Option Decimal → Option Decimal
further_part operate how.Set sum x = combined operate op.Add sum x
further_part operate how.Up sum x = combined operate op.Add sum x
further_part operate how.Down sum x = combined operate op.Sub sum x
further_part operate how.Scale sum x = combined operate op.Add sum x

-- the joined sum of increases and decreases, in the order of the text
abbrev pub joined_sum : (Op → Decimal → Decimal → Option Decimal) → List Typed → List (List ℕ) → WorldValue → NumericEffect → List NumericEffect → Option Decimal
joined_sum operate params args w c changes =
    fold (λ sum d. further_part operate d.how sum (value_by operate params args w d.by)) (first_part operate c.how (value_by operate params args w c.by)) changes

-- a fluent's value after an effect: the expression's, its own times that, or its own and a joined sum
abbrev pub value_after : (Op → Decimal → Decimal → Option Decimal) → Assign → Option Decimal → Option Decimal → Option Decimal → Option Decimal
value_after operate how.Set old x sum = x
value_after operate how.Up old x sum = combined operate op.Add old sum
value_after operate how.Down old x sum = combined operate op.Add old sum
value_after operate how.Scale old x sum = combined operate op.Mul old x

-- the value of a fluent after the changes on it, each expression taken in the old world; without any it stays
abbrev pub changed_value : (Op → Decimal → Decimal → Option Decimal) → List Typed → List (List ℕ) → WorldValue → List ℕ → List NumericEffect → Option Decimal
changed_value operate params args w fluent [] = finite.get w.values fluent
changed_value operate params args w fluent (c ∷ changes) =
    value_after operate c.how (finite.get w.values fluent) (value_by operate params args w c.by) (joined_sum operate params args w c changes)

-- the value of a fluent after all changes
abbrev pub next_value : (Op → Decimal → Decimal → Option Decimal) → List Typed → List (List ℕ) → WorldValue → List NumericEffect → List ℕ → Option Decimal
next_value operate params args w changes fluent = changed_value operate params args w fluent (effects_on fluent changes)

-- each changed fluent has a value afterwards
unfoldable pub are_effects_valued : (Op → Decimal → Decimal → Option Decimal) → List Typed → List (List ℕ) → WorldValue → List NumericEffect → Bool
are_effects_valued operate params args w changes = list_all (λ c. is_some (next_value operate params args w changes c.fluent)) changes

abbrev pub with_value : Values → List ℕ → Option Decimal → Values
with_value values fluent None = values
with_value values fluent (Some d) = finite.insert values fluent d

-- the old values, with the new one of each changed fluent
unfoldable pub next_values : List Typed → List (List ℕ) → WorldValue → List NumericEffect → Values
next_values params args w changes = fold (λ values c. with_value values c.fluent (next_value exactly params args w changes c.fluent)) w.values changes

-- the world after all effects
abbrev pub next_world : List Typed → List (List ℕ) → WorldValue → List Effect → WorldValue
next_world params args w effects = record {
  facts = next_facts params args w.facts effects;
  values = next_values params args w (numeric_effects params args effects);
}
