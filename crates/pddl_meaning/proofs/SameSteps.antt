-- A step within the range that isn't over is the step without bounds.
use Rattle.std.proofs.Common.{◌≡◌, ℕ, Bool, true, false, not, List, Option, Some, None, refl, sym, ap, ◌∙◌, if◌then◌else◌}
use Rattle.std.specs.Option.{option_map_or}
use Rattle.std.proofs.lemmas.Option.{same_Some}
use Rattle.pddl_terms.specs.declared.actions.Schema.{Schema}
use Rattle.pddl_types.specs.declared.pairs.Pair.{Pair}
use Rattle.pddl_meaning.specs.declared.answers.Stepped.TheVariants as answer
use Rattle.pddl_meaning.specs.Worlds.{WorldValue}
use Rattle.pddl_meaning.specs.Values.{exactly, in_bounds}
use Rattle.pddl_meaning.specs.Truth.{is_in_bounds, is_true, is_valued, literals_true}
use Rattle.pddl_meaning.specs.Effects.{are_effects_valued, numeric_effects, next_value, next_world}
use Rattle.pddl_meaning.specs.Steps.{IsStep, all_fit, is_ready, next_fact, ranged_action, ranged_effects, ranged_schema, ranged_step, schema_named}
use Rattle.pddl_meaning.specs.Laws.{Agrees}
use Rattle.pddl_meaning.proofs.Bounds.{both_true, true_both, effects_valued}
use Rattle.pddl_meaning.proofs.Members.{next_fact_after, next_value_after, same_facts, same_values}
use Rattle.pddl_meaning.proofs.Comparisons.{bounds_valued, literals_of_truth}

module _ (p : Pair) (w : WorldValue) (name : List ℕ) (args : List (List ℕ)) where
  abbrev LeadsNowhere : Type 0
  LeadsNowhere = (next : WorldValue) → IsStep p w name args next → ⊥

  module _ (s : Schema) (named : schema_named p name ≡ Some s) where
    -- the action of a step is the one with the name
    this : (next : WorldValue) (step : IsStep p w name args next) → step.action ≡ s
    this next step = same_Some step.action s (sym step.named ∙ named)

    refused : (test : Schema → Bool) → test s ≡ false → ((next : WorldValue) (step : IsStep p w name args next) → test step.action ≡ true) → LeadsNowhere
    refused test fails passes next step = let bad = sym (passes next step) ∙ ap test (this next step) ∙ fails in cc

    step_true : (next : WorldValue) (step : IsStep p w name args next) → is_true step.action.params args w step.action.pre ≡ true
    step_true next step = (both_true (is_valued step.action.params args w step.action.pre) (is_true step.action.params args w step.action.pre) step.applies).1

    -- all of an action's worlds are the one that its effects give
    only : are_effects_valued exactly s.params args w (numeric_effects s.params args s.effects) ≡ true → (other : WorldValue) → IsStep p w name args other → other ≡ next_world s.params args w s.effects
    only valued other step =
        let changes = numeric_effects s.params args s.effects in
        let facts = same_facts other.facts (next_world s.params args w s.effects).facts
        (λ f. step.facts f ∙ ap (λ (t : Schema). next_fact t args w f) (this other step) ∙ sym (next_fact_after s.params args w.facts s.effects f)) in
        let values = same_values other.values (next_world s.params args w s.effects).values
        (λ x. step.values x ∙ ap (λ (t : Schema). next_value exactly t.params args w (numeric_effects t.params args t.effects) x) (this other step)
        ∙ sym (next_value_after s.params args w (numeric_effects s.params args s.effects) valued x)) in
        λ i. record { facts = facts i; values = values i }

    module _ (legal : all_fit p s.params args ≡ true) where
      effects_agree : (test : Bool) → are_effects_valued in_bounds s.params args w (numeric_effects s.params args s.effects) ≡ test → is_ready s args w ≡ true
          → is_in_bounds s.params args w s.pre ≡ true → is_true s.params args w s.pre ≡ true
          → Agrees p w name args (if test then answer.Next (next_world s.params args w s.effects) else answer.Over)
      effects_agree false over ready bounded holds = tt
      effects_agree true valued ready bounded holds =
          let values = effects_valued s.params args w (numeric_effects s.params args s.effects) valued in (
            record {
              action = s;
              named = named;
              legal = legal;
              ready = ready;
              applies = true_both (is_valued s.params args w s.pre) (is_true s.params args w s.pre) (bounds_valued s.params args w s.pre bounded) holds;
              valued = values;
              facts = next_fact_after s.params args w.facts s.effects;
              values = next_value_after s.params args w (numeric_effects s.params args s.effects) values;
            },
            only values,
          )

      truth_agrees : (test : Bool) → is_true s.params args w s.pre ≡ test → is_ready s args w ≡ true → is_in_bounds s.params args w s.pre ≡ true
          → Agrees p w name args (if not test then answer.Blocked else ranged_effects s args w)
      truth_agrees false fails ready bounded = refused (λ t. is_true t.params args w t.pre) fails step_true
      truth_agrees true holds ready bounded = effects_agree (are_effects_valued in_bounds s.params args w (numeric_effects s.params args s.effects)) refl ready bounded holds

      range_agrees : (test : Bool) → is_in_bounds s.params args w s.pre ≡ test → is_ready s args w ≡ true
          → Agrees p w name args (if not test then answer.Over else (if not (is_true s.params args w s.pre) then answer.Blocked else ranged_effects s args w))
      range_agrees false over ready = tt
      range_agrees true bounded ready = truth_agrees (is_true s.params args w s.pre) refl ready bounded

      literals_agree : (test : Bool) → literals_true s.params args w s.pre true ≡ test → is_ready s args w ≡ true
          → Agrees p w name args (if not test then answer.Blocked
          else (if not (is_in_bounds s.params args w s.pre) then answer.Over else (if not (is_true s.params args w s.pre) then answer.Blocked else ranged_effects s args w)))
      literals_agree false fails ready =
          refused (λ t. literals_true t.params args w t.pre true) fails (λ next step. (literals_of_truth step.action.params args w step.action.pre).0 (step_true next step))
      literals_agree true holds ready = range_agrees (is_in_bounds s.params args w s.pre) refl ready

      ready_agrees : (test : Bool) → is_ready s args w ≡ test
          → Agrees p w name args (if not test then answer.Blocked
          else (if not (literals_true s.params args w s.pre true) then answer.Blocked
          else (if not (is_in_bounds s.params args w s.pre) then answer.Over else (if not (is_true s.params args w s.pre) then answer.Blocked else ranged_effects s args w))))
      ready_agrees false fails = refused (λ t. is_ready t args w) fails (λ next step. step.ready)
      ready_agrees true ready = literals_agree (literals_true s.params args w s.pre true) refl ready

      action_agrees : Agrees p w name args (ranged_action s args w)
      unfolding ranged_action
      action_agrees = ready_agrees (is_ready s args w) refl

    schema_agrees : (test : Bool) → all_fit p s.params args ≡ test → Agrees p w name args (if test then ranged_action s args w else answer.Illegal)
    schema_agrees false fails = refused (λ t. all_fit p t.params args) fails (λ next step. step.legal)
    schema_agrees true legal = action_agrees legal

  named_agrees : (found : Option Schema) → schema_named p name ≡ found → Agrees p w name args (option_map_or (ranged_schema p args w) found answer.Illegal)
  named_agrees None none = λ next step. (let bad = sym step.named ∙ none in cc)
  named_agrees (Some s) named = schema_agrees s named (all_fit p s.params args) refl

  pub step_agrees : Agrees p w name args (ranged_step p w name args)
  unfolding ranged_step
  step_agrees = named_agrees (schema_named p name) refl
