-- What an action does, by the truth of its precondition within the range.
use Rattle.std.proofs.Common.{◌≡◌, ◌&&◌, ℕ, Bool, true, false, not, List, Some, None, map, refl, ap, ◌∙◌, is_some, if◌then◌else◌}
use Rattle.pddl_terms.specs.declared.actions.Schema.{Schema}
use Rattle.pddl_meaning.specs.declared.answers.Holds.{Holds}
use Rattle.pddl_meaning.specs.declared.answers.Holds.TheVariants.{Yes, No, Over}
use Rattle.pddl_meaning.specs.declared.answers.Stepped.{Stepped}
use Rattle.pddl_meaning.specs.declared.answers.Stepped.TheVariants as answer
use Rattle.pddl_meaning.specs.declared.effects.Evaluation.{Evaluation}
use Rattle.pddl_meaning.specs.Worlds.{WorldValue}
use Rattle.pddl_meaning.specs.Truth.{is_defined, is_in_bounds, is_true, literals_true, ranged_truth}
use Rattle.pddl_meaning.specs.Effects.{are_effects_defined, are_compatible, numeric_effects}
use Rattle.pddl_meaning.specs.Steps.{is_ready, ranged_action, ranged_effects}
use Rattle.pddl_meaning.specs.internal.Computed.{evaluation_of, effects_answer, over_answer, ready_evaluations, ready_answer}
use Rattle.pddl_meaning.proofs.Comparisons.{bounds_defined, literals_of_truth}

-- the answer by the seven rules, in their order
abbrev by_rules : (ready literals bounded holds : Bool) → Stepped → Stepped
by_rules ready literals bounded holds effects =
    if not ready then answer.Blocked else (if not literals then answer.Blocked else (if not bounded then answer.Over else (if not holds then answer.Blocked else effects)))

abbrev truth_by : (bounded holds : Bool) → Holds
truth_by bounded holds = if not bounded then Over else (if holds then Yes else No)

blocked_by : (ready literals bounded holds : Bool) (effects : Stepped) → truth_by bounded holds ≡ No → answer.Blocked ≡ by_rules ready literals bounded holds effects
blocked_by false literals bounded holds effects h = refl
blocked_by true false bounded holds effects h = refl
blocked_by true true false holds effects h = cc
blocked_by true true true true effects h = cc
blocked_by true true true false effects h = refl

yes_by : (bounded holds : Bool) → truth_by bounded holds ≡ Yes → (bounded ≡ true) × (holds ≡ true)
yes_by false holds h = cc
yes_by true false h = cc
yes_by true true h = (refl, refl)

over_by : (bounded holds : Bool) → truth_by bounded holds ≡ Over → bounded ≡ false
over_by false holds h = refl
over_by true false h = cc
over_by true true h = cc

some_ready : (b : Bool) (evaluations : List Evaluation) → is_some (if b then Some evaluations else None) ≡ b
some_ready true evaluations = refl
some_ready false evaluations = refl

module _ (s : Schema) (args : List (List ℕ)) (w : WorldValue) where
  abbrev ready_changes : Bool
  ready_changes = are_effects_defined s.params args w (numeric_effects s.params args s.effects) && are_compatible (numeric_effects s.params args s.effects)

  ready_effects : is_some (ready_evaluations s.params args w (numeric_effects s.params args s.effects)) ≡ ready_changes
  ready_effects = some_ready ready_changes (map (evaluation_of s.params args w) (numeric_effects s.params args s.effects))

  pub false_blocks : ranged_truth s.params args w s.pre ≡ No → answer.Blocked ≡ ranged_action s args w
  unfolding ranged_action
  false_blocks h = blocked_by (is_ready s args w) (literals_true s.params args w s.pre true) (is_in_bounds s.params args w s.pre) (is_true s.params args w s.pre) (ranged_effects s args w) h

  pub true_is_ready : ranged_truth s.params args w s.pre ≡ Yes → ready_answer s.params args w s.effects ≡ ranged_action s args w
  unfolding ranged_action is_ready
  true_is_ready h =
      let parts = yes_by (is_in_bounds s.params args w s.pre) (is_true s.params args w s.pre) h in
      ap (λ (b : Bool). if b then effects_answer s.params args w s.effects else answer.Blocked) ready_effects
      ∙ settled (is_defined s.params args w s.pre) (are_effects_defined s.params args w (numeric_effects s.params args s.effects)) (are_compatible (numeric_effects s.params args s.effects)) (literals_true s.params args w s.pre true) (is_in_bounds s.params args w s.pre) (is_true s.params args w s.pre) (effects_answer s.params args w s.effects)
      (bounds_defined s.params args w s.pre parts.0) ((literals_of_truth s.params args w s.pre).0 parts.1) parts.0 parts.1
    where
      settled : (defined fluents compatible literals bounded holds : Bool) (effects : Stepped) → defined ≡ true → literals ≡ true → bounded ≡ true → holds ≡ true
          → (if fluents && compatible then effects else answer.Blocked) ≡ by_rules ((defined && fluents) && compatible) literals bounded holds effects
      settled true true true true true true effects d l b h = refl
      settled true false compatible literals bounded holds effects d l b h = refl
      settled true true false literals bounded holds effects d l b h = refl
      settled true true true false bounded holds effects d l b h = cc
      settled true true true true false holds effects d l b h = cc
      settled true true true true true false effects d l b h = cc
      settled false fluents compatible literals bounded holds effects d l b h = cc

  pub over_is_settled : ranged_truth s.params args w s.pre ≡ Over → over_answer s.params args w s.pre s.effects ≡ ranged_action s args w
  unfolding ranged_action is_ready
  over_is_settled h =
      ap (λ (b : Bool). if is_defined s.params args w s.pre && b && literals_true s.params args w s.pre true then answer.Over else answer.Blocked) ready_effects
      ∙ settled (is_defined s.params args w s.pre) (are_effects_defined s.params args w (numeric_effects s.params args s.effects)) (are_compatible (numeric_effects s.params args s.effects)) (literals_true s.params args w s.pre true) (is_in_bounds s.params args w s.pre) (is_true s.params args w s.pre) (effects_answer s.params args w s.effects)
      (over_by (is_in_bounds s.params args w s.pre) (is_true s.params args w s.pre) h)
    where
      settled : (defined fluents compatible literals bounded holds : Bool) (effects : Stepped) → bounded ≡ false
          → (if (defined && (fluents && compatible)) && literals then answer.Over else answer.Blocked) ≡ by_rules ((defined && fluents) && compatible) literals bounded holds effects
      settled false fluents compatible literals bounded holds effects b = refl
      settled true false compatible literals bounded holds effects b = refl
      settled true true false literals bounded holds effects b = refl
      settled true true true false bounded holds effects b = refl
      settled true true true true false holds effects b = refl
      settled true true true true true holds effects b = cc
