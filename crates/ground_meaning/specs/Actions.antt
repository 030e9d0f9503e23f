-- An action under a binding, with its constants folded. Facts and fluents are named by their codes.
use Rattle.std.specs.Prelude.{ℕ, ◌==◌, ◌++◌, ◌&&◌, Bool, true, false, not, List, [], ◌∷◌, map, filter, flat_map, Result, Ok, if◌then◌else◌}
use Rattle.std.specs.List.{list_any}
use Rattle.num_ends.specs.Decimal.{origin}
use Rattle.pddl_terms.specs.declared.names.Typed.{Typed}
use Rattle.pddl_terms.specs.declared.actions.Assign.{Assign}
use Rattle.pddl_terms.specs.declared.actions.Assign.TheVariants as how
use Rattle.pddl_terms.specs.declared.actions.Effect.{Effect}
use Rattle.pddl_terms.specs.declared.actions.Effect.TheVariants as effect
use Rattle.pddl_terms.specs.declared.actions.Schema.{Schema}
use Rattle.pddl_types.specs.declared.pairs.Pair.{Pair}
use Rattle.static_facts.specs.Atoms.{atom_of, text_of_atom}
use Rattle.static_facts.specs.Codes.{fact_code, fluent_code}
use Rattle.ground_task.specs.declared.raw.GExpr.TheVariants as e
use Rattle.ground_task.specs.declared.raw.Change.{Change}
use Rattle.ground_task.specs.declared.raw.Change.TheVariants.{Add, Set}
use Rattle.ground_task.specs.declared.raw.Ground.{Ground}
use Rattle.ground_meaning.specs.Results.{after, mapped}
use Rattle.ground_meaning.specs.Expressions.{FoldFault, Operand, as_expression, difference, folded, product, sum}
use Rattle.ground_meaning.specs.Expressions.Operand.{constant, computed}
use Rattle.ground_meaning.specs.Conditions.{Settled, as_condition, folded_condition}

-- ---- facts

-- a number is one of some numbers
abbrev pub is_listed : ℕ → List ℕ → Bool
is_listed n ns = list_any (λ m. m == n) ns

abbrev pub with_new : List ℕ → ℕ → List ℕ
with_new ns n = if is_listed n ns then ns else ns ++ n ∷ []

-- each number once, at its first place
abbrev pub each_once : List ℕ → List ℕ → List ℕ
each_once seen [] = seen
each_once seen (n ∷ ns) = each_once (with_new seen n) ns

abbrev pub added_fact : Pair → List Typed → List (List ℕ) → Effect → List ℕ
added_fact p params args (effect.Add a) = fact_code p (atom_of params args a) ∷ []
added_fact p params args (effect.Del a) = []
added_fact p params args (effect.Num how a x) = []

abbrev pub deleted_fact : Pair → List Typed → List (List ℕ) → Effect → List ℕ
deleted_fact p params args (effect.Add a) = []
deleted_fact p params args (effect.Del a) = fact_code p (atom_of params args a) ∷ []
deleted_fact p params args (effect.Num how a x) = []

-- the facts that effects add, in the order of the text
unfoldable pub added_facts : Pair → List Typed → List (List ℕ) → List Effect → List ℕ
added_facts p params args effects = each_once [] (flat_map (added_fact p params args) effects)

-- the facts that effects delete and don't add
unfoldable pub deleted_facts : Pair → List Typed → List (List ℕ) → List Effect → List ℕ
deleted_facts p params args effects =
    filter (λ f. not (is_listed f (added_facts p params args effects))) (each_once [] (flat_map (deleted_fact p params args) effects))

-- ---- fluents

-- a folded numeric effect on a fluent: its new value, or what is added to it
pub record FoldedChange : Type 0 where
  pub fluent : ℕ
  pub replaces : Bool
  pub value : Operand

abbrev pub replacement : ℕ → Operand → FoldedChange
replacement x v = record { fluent = x; replaces = true; value = v }

abbrev pub growth : ℕ → Operand → FoldedChange
growth x v = record { fluent = x; replaces = false; value = v }

abbrev pub is_growth_of : ℕ → FoldedChange → Bool
is_growth_of x change = change.fluent == x && not change.replaces

-- what is added to a fluent is joined to what is added so far, and else it stands at the end
abbrev pub with_growth : (Operand → Result Operand FoldFault) → Result Operand FoldFault → ℕ → List FoldedChange → Result (List FoldedChange) FoldFault
with_growth join first x [] = mapped (λ v. growth x v ∷ []) first
with_growth join first x (change ∷ changes) =
    if is_growth_of x change then mapped (λ v. growth x v ∷ changes) (join change.value)
    else mapped (λ others. change ∷ others) (with_growth join first x changes)

-- a further numeric effect; `scale-up` is the assignment of a product, and a first `decrease` adds 0 less its value
abbrev pub with_change : Assign → ℕ → Operand → List FoldedChange → Result (List FoldedChange) FoldFault
with_change how.Set x v changes = Ok (changes ++ replacement x v ∷ [])
with_change how.Up x v changes = with_growth (λ old. sum old v) (Ok v) x changes
with_change how.Down x v changes = with_growth (λ old. difference old v) (difference (constant origin) v) x changes
with_change how.Scale x v changes = mapped (λ scaled. changes ++ replacement x scaled ∷ []) (product (computed (e.Read x)) v)

abbrev pub with_effect : Pair → List Typed → List (List ℕ) → List FoldedChange → Effect → Result (List FoldedChange) FoldFault
with_effect p params args changes (effect.Add a) = Ok changes
with_effect p params args changes (effect.Del a) = Ok changes
with_effect p params args changes (effect.Num how a x) =
    after (λ v. with_change how (fluent_code p (atom_of params args a)) v changes) (folded p params args x)

-- the changes so far, with those of further effects in the order of the text: each right-hand side is folded, and then joined
abbrev pub changes_from : Pair → List Typed → List (List ℕ) → List FoldedChange → List Effect → Result (List FoldedChange) FoldFault
changes_from p params args changes [] = Ok changes
changes_from p params args changes (effect ∷ effects) =
    after (λ further. changes_from p params args further effects) (with_effect p params args changes effect)

unfoldable pub folded_changes : Pair → List Typed → List (List ℕ) → List Effect → Result (List FoldedChange) FoldFault
folded_changes p params args effects = changes_from p params args [] effects

-- ---- actions

pub record FoldedAction : Type 0 where
  pub condition : Settled
  pub changes : List FoldedChange

-- the precondition is folded, and then the effects
unfoldable pub folded_action : Pair → Schema → List (List ℕ) → Result FoldedAction FoldFault
folded_action p s args =
    after (λ condition. mapped (λ changes. record { condition = condition; changes = changes }) (folded_changes p s.params args s.effects))
    (folded_condition p s.params args s.pre true)

-- an action's text, such as `(move a b)`
abbrev pub action_text : Schema → List (List ℕ) → List ℕ
action_text s args = text_of_atom (s.name.text ∷ args)

abbrev pub as_numeric_effect : FoldedChange → ℕ × Change
as_numeric_effect change = (change.fluent, if change.replaces then Set (as_expression change.value) else Add (as_expression change.value))

-- the folded action as data
unfoldable pub coded_action : Pair → Schema → List (List ℕ) → FoldedAction → Ground
coded_action p s args action = record {
  name = action_text s args;
  pre = as_condition action.condition;
  adds = added_facts p s.params args s.effects;
  dels = deleted_facts p s.params args s.effects;
  nums = map as_numeric_effect action.changes;
}
