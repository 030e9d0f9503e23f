-- Numeric effects that are folded one after another.
use Rattle.std.specs.Prelude.{ℕ, ◌≡◌, ◌+◌, ◌<◌, Bool, true, false, List, [], ◌∷◌, Option, Some, None, map, flat_map, length, option_map, Result, Ok, if◌then◌else◌}
use Rattle.num_ends.specs.Decimal.{origin}
use Rattle.pddl_terms.specs.declared.names.Typed.{Typed}
use Rattle.pddl_terms.specs.declared.expressions.Expr.{Expr}
use Rattle.pddl_terms.specs.declared.actions.Effect.{Effect}
use Rattle.pddl_terms.specs.declared.actions.Effect.TheVariants as effect
use Rattle.pddl_terms.specs.declared.actions.Schema.{Schema}
use Rattle.pddl_types.specs.declared.pairs.Pair.{Pair}
use Rattle.pddl_types.specs.Pairs.{objects_of}
use Rattle.pddl_types.specs.WellFormed.{Each}
use Rattle.static_facts.specs.Atoms.{names}
use Rattle.ground_meaning.specs.Results.{after}
use Rattle.ground_meaning.specs.Expressions.{FoldFault, Operand, difference, folded, sum}
use Rattle.ground_meaning.specs.Expressions.Operand.{constant}
use Rattle.ground_meaning.specs.Actions.{FoldedChange, is_growth_of, with_change}
use Rattle.folded_terms.specs.Operands.{operand_of}
use Rattle.folding.specs.declared.changes.ChangePattern.{ChangePattern}
use Rattle.folding.specs.declared.changes.PendingChange.{PendingChange}
use Rattle.bound_actions.specs.Patterns.{IsBoundBy, fluent_code_by, pattern}

-- ---- changes so far

abbrev pub pending : PendingChange → FoldedChange
pending c = record { fluent = c.fluent; replaces = c.replaces; value = operand_of c.value }

abbrev pub all_pending : List PendingChange → List FoldedChange
all_pending changes = map pending changes

-- where the growth of a fluent stands
abbrev pub growth_place : ℕ → List FoldedChange → Option ℕ
growth_place x [] = None
growth_place x (c ∷ changes) = if is_growth_of x c then Some 0 else option_map (λ i. i + 1) (growth_place x changes)

-- an increase is added to what stands there, a decrease subtracted
abbrev pub grown : Bool → Operand → Operand → Result Operand FoldFault
grown false old v = sum old v
grown true old v = difference old v

-- the first one stands alone, a decrease as 0 less its value
abbrev pub first_growth : Bool → Operand → Result Operand FoldFault
first_growth false v = Ok v
first_growth true v = difference (constant origin) v

-- ---- patterns

abbrev pub change_patterns : Pair → List Typed → Effect → List ChangePattern
change_patterns p params (effect.Add a) = []
change_patterns p params (effect.Del a) = []
change_patterns p params (effect.Num how a x) = record { how = how; fluent = pattern p params a; value = (p, params, x) } ∷ []

abbrev pub IsValueBoundBy : List ℕ → Pair × List Typed × Expr → Type 0
IsValueBoundBy os q = (length os ≡ length q.1) × Each (λ o. o < length (objects_of q.0)) os

abbrev pub IsChangeBoundBy : List ℕ → ChangePattern → Type 0
IsChangeBoundBy os q = IsBoundBy os q.fluent × IsValueBoundBy os q.value

abbrev pub folded_by : List ℕ → Pair × List Typed × Expr → Result Operand FoldFault
folded_by os q = folded q.0 q.1 (names q.0 os) q.2

-- the changes so far with one more
abbrev pub with_pattern : List ℕ → List FoldedChange → ChangePattern → Result (List FoldedChange) FoldFault
with_pattern os changes q = after (λ v. with_change q.how (fluent_code_by os q.fluent) v changes) (folded_by os q.value)

abbrev pub with_patterns : List ℕ → List FoldedChange → List ChangePattern → Result (List FoldedChange) FoldFault
with_patterns os changes [] = Ok changes
with_patterns os changes (q ∷ qs) = after (λ further. with_patterns os further qs) (with_pattern os changes q)

-- patterns of the numeric effects of an action
pub record AreChangePatterns (p : Pair) (s : Schema) (changes : List ChangePattern) : Type 0 where
  pub of_effects : changes ≡ flat_map (change_patterns p s.params) s.effects
