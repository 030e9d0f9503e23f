-- The parts of a folder, and an action that is folded.
use Rattle.std.specs.Prelude.{ℕ, ◌≡◌, List, Result, map}
use Rattle.pddl_terms.specs.declared.names.Typed.{Typed}
use Rattle.pddl_terms.specs.declared.conditions.Cond.{Cond}
use Rattle.pddl_terms.specs.declared.actions.Schema.{Schema}
use Rattle.pddl_types.specs.declared.pairs.Pair.{Pair}
use Rattle.coded_actions.specs.declared.coded.CodedAction.{CodedAction}
use Rattle.coded_actions.specs.Coded.{condition_of, effects_of}
use Rattle.ground_meaning.specs.Results.{mapped}
use Rattle.ground_meaning.specs.Expressions.{FoldFault}
use Rattle.ground_meaning.specs.Conditions.{Settled, as_condition}
use Rattle.ground_meaning.specs.Actions.{FoldedAction, action_text, added_facts, as_numeric_effect, deleted_facts, folded_changes}
use Rattle.folded_terms.specs.Settled.{settled_of}
use Rattle.folding.specs.declared.changes.FoldedParts.{FoldedParts}
use Rattle.folding.specs.declared.changes.NamedFacts.{NamedFacts}
use Rattle.folding.specs.internal.Changes.{all_pending}

-- each part is of the pair and the action
pub record AreParts (p : Pair) (s : Schema) (reads changed facts unset : Pair × Schema) (condition : Pair × List Typed × Cond) : Type 0 where
  pub is_ready : reads ≡ (p, s)
  pub is_condition : condition ≡ (p, s.params, s.pre)
  pub is_changed : changed ≡ (p, s)
  pub is_facts : facts ≡ (p, s)
  pub is_unset : unset ≡ (p, s)

-- what folded parts mean
abbrev pub action_parts : FoldedParts → FoldedAction
action_parts f = record { condition = settled_of f.condition; changes = all_pending f.changes.items }

-- the numeric effects folded, after the precondition
abbrev pub effects_after : Pair → Schema → List (List ℕ) → Settled → Result FoldedAction FoldFault
effects_after p s args condition = mapped (λ changes. record { condition = condition; changes = changes }) (folded_changes p s.params args s.effects)

-- the text and the facts of the action under a binding
pub record AreFactsOf (p : Pair) (s : Schema) (args : List (List ℕ)) (f : NamedFacts) : Type 0 where
  pub is_named : f.name ≡ action_text s args
  pub are_added : f.adds ≡ added_facts p s.params args s.effects
  pub are_deleted : f.dels ≡ deleted_facts p s.params args s.effects

-- an action is made of these
pub record IsMadeOf (f : NamedFacts) (parts : FoldedParts) (a : CodedAction) : Type 0 where
  pub is_named : a.name ≡ f.name
  pub is_condition : condition_of a.pre ≡ as_condition (settled_of parts.condition)
  pub are_added : a.adds ≡ f.adds
  pub are_deleted : a.dels ≡ f.dels
  pub are_changed : effects_of a.nums ≡ map as_numeric_effect (all_pending parts.changes.items)
