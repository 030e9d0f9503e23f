-- What becomes of a binding, case by case.
use Rattle.std.proofs.Common.{◌≡◌, ℕ, Bool, true, false, List, map, Option, Some, None, refl, sym, ap, ◌∙◌}
use Rattle.std.specs.Prelude.{Result, Ok, Err, IfOk, not, if◌then◌else◌}
use Rattle.std.specs.Option.{option_map_or}
use Rattle.pddl_terms.specs.declared.actions.Schema.{Schema}
use Rattle.pddl_types.specs.declared.faults.Side.TheVariants as side
use Rattle.pddl_types.specs.declared.pairs.Pair.{Pair}
use Rattle.static_facts.specs.Atoms.{names}
use Rattle.pddl_meaning.specs.Worlds.{initial_world}
use Rattle.pddl_meaning.specs.Steps.{is_ready}
use Rattle.coded_actions.specs.declared.coded.CodedAction.{CodedAction}
use Rattle.coded_actions.specs.Coded.{action_of, condition_of, effects_of}
use Rattle.ground_meaning.specs.declared.faults.GroundFault.TheVariants as fault
use Rattle.ground_meaning.specs.Results.{after, mapped}
use Rattle.ground_meaning.specs.Expressions.{FoldFault}
use Rattle.ground_meaning.specs.Conditions.{Settled, as_condition, folded_condition, is_decided}
use Rattle.ground_meaning.specs.Conditions.Settled.{decided, remaining}
use Rattle.ground_meaning.specs.Actions.{FoldedAction, FoldedChange, action_text, added_facts, as_numeric_effect, coded_action, deleted_facts, folded_action, folded_changes}
use Rattle.ground_meaning.specs.Outcomes.{Outcome, first_unset, folded_outcome, outcome, outcome_of}
use Rattle.ground_meaning.specs.Outcomes.Outcome.{Dropped, Kept, Refused}
use Rattle.folded_terms.specs.declared.faults.FoldError.{FoldError}
use Rattle.folded_terms.specs.declared.faults.FoldError.TheVariants as error
use Rattle.folded_terms.specs.Faults.{IsFoldFault}
use Rattle.folding.specs.declared.changes.FoldedParts.{FoldedParts}
use Rattle.folding.specs.declared.changes.NamedFacts.{NamedFacts}
use Rattle.folding.specs.internal.Parts.{AreFactsOf, IsMadeOf, action_parts, effects_after}
use Rattle.term_verdicts.specs.Verdicts.{truth_of}
use Rattle.folding.specs.internal.Sound.{is_answered}
use Rattle.folding.proofs.Folded.{fault_after}

-- ---- a fold

-- a precondition of which it is known that it is false
pub false_condition : (r : Result Settled FoldFault) (truth : Bool) → mapped truth_of r ≡ Ok (Some truth) → not truth ≡ true → r ≡ Ok (decided false)
false_condition (Ok (decided true)) true h k = cc
false_condition (Ok (decided true)) false h k = cc
false_condition (Ok (decided false)) truth h k = refl
false_condition (Ok (remaining g)) truth h k = cc
false_condition (Err f) truth h k = cc

module _ (p : Pair) (s : Schema) (args : List (List ℕ)) where
  pub condition_then : (condition : Settled) → folded_condition p s.params args s.pre true ≡ Ok condition → folded_action p s args ≡ effects_after p s args condition
  unfolding folded_action
  condition_then condition h = ap (after (effects_after p s args)) h

  pub condition_refused : (e : FoldError) → IsFoldFault (folded_condition p s.params args s.pre true) e → IsFoldFault (folded_action p s args) e
  unfolding folded_action
  condition_refused e h = fault_after (effects_after p s args) (folded_condition p s.params args s.pre true) e h

  -- ---- what a fold gives

  pub divide_refused : (place : ℕ) → IsFoldFault (folded_action p s args) (error.Divide place) → outcome_of p s args (folded_action p s args) ≡ Refused (fault.Divide side.Domain place)
  divide_refused place h = ap (outcome_of p s args) h

  pub range_refused : (text : List ℕ) → text ≡ action_text s args → IsFoldFault (folded_action p s args) error.OutOfRange → outcome_of p s args (folded_action p s args) ≡ Refused (fault.Range text)
  range_refused text is h = ap (outcome_of p s args) h ∙ ap (λ (t : List ℕ). Refused (fault.Range t)) (sym is)

  module _ (action : FoldedAction) where
    pub dropped : is_decided false action.condition ≡ true → folded_outcome p s args action ≡ Dropped
    dropped h = ap (λ (t : Bool). if t then Dropped else option_map_or (λ text. Refused (fault.Unset text)) (first_unset p s.params args s.effects) (Kept (coded_action p s args action))) h

    undecided : is_decided false action.condition ≡ false
        → folded_outcome p s args action ≡ option_map_or (λ text. Refused (fault.Unset text)) (first_unset p s.params args s.effects) (Kept (coded_action p s args action))
    undecided h = ap (λ (t : Bool). if t then Dropped else option_map_or (λ text. Refused (fault.Unset text)) (first_unset p s.params args s.effects) (Kept (coded_action p s args action))) h

    pub kept_one : is_decided false action.condition ≡ false → None ≡ first_unset p s.params args s.effects → (a : CodedAction) → action_of a ≡ coded_action p s args action
        → folded_outcome p s args action ≡ Kept (action_of a)
    kept_one h none a is =
        undecided h ∙ ap (λ (t : Option (List ℕ)). option_map_or (λ text. Refused (fault.Unset text)) t (Kept (coded_action p s args action))) (sym none) ∙ ap Kept (sym is)

    pub unset_one : is_decided false action.condition ≡ false → (text : List ℕ) → Some text ≡ first_unset p s.params args s.effects → folded_outcome p s args action ≡ Refused (fault.Unset text)
    unset_one h text some = undecided h ∙ ap (λ (t : Option (List ℕ)). option_map_or (λ u. Refused (fault.Unset u)) t (Kept (coded_action p s args action))) (sym some)

    pub action_made : (a : CodedAction) → a.name ≡ action_text s args → condition_of a.pre ≡ as_condition action.condition → a.adds ≡ added_facts p s.params args s.effects
        → a.dels ≡ deleted_facts p s.params args s.effects → effects_of a.nums ≡ map as_numeric_effect action.changes → action_of a ≡ coded_action p s args action
    unfolding coded_action
    action_made a name pre adds dels nums = λ i. record { name = name i; pre = pre i; adds = adds i; dels = dels i; nums = nums i }

-- ---- a binding

module _ (p : Pair) (s : Schema) (os : List ℕ) where
  pub not_ready : is_ready s (names p os) (initial_world p) ≡ false → outcome p s os ≡ Dropped
  unfolding outcome
  not_ready h = ap (λ (t : Bool). if not t then Dropped else outcome_of p s (names p os) (folded_action p s (names p os))) h

  pub ready : is_ready s (names p os) (initial_world p) ≡ true → outcome p s os ≡ outcome_of p s (names p os) (folded_action p s (names p os))
  unfolding outcome
  ready h = ap (λ (t : Bool). if not t then Dropped else outcome_of p s (names p os) (folded_action p s (names p os))) h

  left_out_of : (r : Result (List FoldedChange) FoldFault) → is_answered r ≡ true
      → outcome_of p s (names p os) (mapped (λ changes. record { condition = decided false; changes = changes }) r) ≡ Dropped
  left_out_of (Ok changes) h = refl
  left_out_of (Err f) h = cc

  whether_ready : (test : Bool) (o : Outcome) → o ≡ Dropped → (if not test then Dropped else o) ≡ Dropped
  whether_ready true o h = h
  whether_ready false o h = refl

  -- a precondition that is false, and effects without a fault
  pub left_out : folded_condition p s.params (names p os) s.pre true ≡ Ok (decided false) → is_answered (folded_changes p s.params (names p os) s.effects) ≡ true → outcome p s os ≡ Dropped
  unfolding outcome
  left_out h k =
      whether_ready (is_ready s (names p os) (initial_world p)) (outcome_of p s (names p os) (folded_action p s (names p os)))
      (ap (outcome_of p s (names p os)) (condition_then p s (names p os) (decided false) h) ∙ left_out_of (folded_changes p s.params (names p os) s.effects) k)

-- ---- the action of the task

all_made : (p : Pair) (s : Schema) (args : List (List ℕ)) (f : NamedFacts) (parts : FoldedParts) (a : CodedAction) → AreFactsOf p s args f → IsMadeOf f parts a
    → action_of a ≡ coded_action p s args (action_parts parts)
all_made p s args f parts a facts made =
    action_made p s args (action_parts parts) a (made.is_named ∙ facts.is_named) made.is_condition (made.are_added ∙ facts.are_added) (made.are_deleted ∙ facts.are_deleted) made.are_changed

pub made_of : {E : Type 0} (p : Pair) (s : Schema) (args : List (List ℕ)) (f : NamedFacts) (parts : FoldedParts) (r : Result CodedAction E) → AreFactsOf p s args f
    → IfOk r (IsMadeOf f parts) → IfOk r (λ a. action_of a ≡ coded_action p s args (action_parts parts))
made_of p s args f parts (Ok a) facts made = all_made p s args f parts a facts made
made_of p s args f parts (Err e) facts made = made
