-- The goal of a task holds in a state where the pair's goal holds in a world at it.
use Rattle.std.proofs.Common.{◌≡◌, ◌≤◌, ◌&&◌, Bool, true, [], length, None, Result, Ok, refl, sym, ap, subst, ◌∙◌, is_some, inl, IfOk}
use Rattle.pddl_terms.specs.declared.names.Sig.{Sig}
use Rattle.pddl_terms.specs.declared.expressions.Expr.{Expr}
use Rattle.pddl_terms.specs.Texts.{ground_text}
use Rattle.pddl_terms.specs.Readable.{IsReadable, IsReadableSignature}
use Rattle.pddl_types.specs.declared.faults.Side.TheVariants as side
use Rattle.pddl_types.specs.declared.pairs.Pair.{Pair}
use Rattle.pddl_types.specs.Contents.{all_read, condition_parts, expression_reads}
use Rattle.pddl_types.specs.WellFormed.{Stands, WellFormed}
use Rattle.static_facts.specs.Atoms.{atom_of, value_at_first}
use Rattle.pddl_meaning.specs.Worlds.{WorldValue, initial_world}
use Rattle.pddl_meaning.specs.Truth.{goal_holds, is_defined, is_true}
use Rattle.ground_task.specs.Meaning.{fact_value, fluent_value, holds}
use Rattle.ground_task.specs.States.{StateValue}
use Rattle.ground_task.specs.Tasks.{TaskValue}
use Rattle.ground_meaning.specs.Conditions.{as_condition, folded_condition}
use Rattle.ground_meaning.specs.Goals.{folded_goal, unset_in_goal}
use Rattle.ground_meaning.specs.Tasks.{IsGroundTask, IsRelevant}
use Rattle.ground_meaning.specs.Worlds.{StandsAt}
use Rattle.ground_meaning.proofs.BoundAtoms.{IsBound, all_at, bound_names, fixed_fact, fixed_value, goal_facts, goal_reads}
use Rattle.ground_meaning.proofs.CodedAtoms.{atom_there}
use Rattle.ground_meaning.proofs.ConditionFolds.{condition_fold_is_sound}
use Rattle.ground_meaning.proofs.DefinedReads.{condition_defined, none_found, none_mapped}
use Rattle.ground_meaning.proofs.InitialWorld.{initial_value}
use Rattle.ground_meaning.proofs.Lists.{each_both, each_flat, each_more}
use Rattle.ground_meaning.proofs.Names.{names_are_words}
use Rattle.ground_meaning.proofs.Numbering.{holds_numbered}
use Rattle.ground_meaning.proofs.Readiness.{same_defined}
use Rattle.ground_meaning.proofs.Standing.{fact_codes, fact_stands, fluent_codes, fluent_stands, state_facts, state_values}

pub if_is : {A E : Type 0} (P : A → Type 0) (r : Result A E) (a : A) → r ≡ Ok a → IfOk r P → P a
if_is P r a is h = subst (λ z. IfOk z P) is h

module _ (p : Pair) (readable : IsReadable p.domain p.problem) (formed : WellFormed p) where
  pub few_predicate_parameters : (s : Sig) → Stands s p.domain.predicates → length s.params ≤ 8
  few_predicate_parameters s there = (all_at IsReadableSignature p.domain.predicates s readable.domain.predicates there).few_params

  pub few_function_parameters : (s : Sig) → Stands s p.domain.functions → length s.params ≤ 8
  few_function_parameters s there = (all_at IsReadableSignature p.domain.functions s readable.domain.functions there).few_params

  -- all that the goal reads has a first value
  goal_set : unset_in_goal p ≡ None → is_defined [] [] (initial_world p) p.problem.goal ≡ true
  unfolding unset_in_goal ground_text
  goal_set none =
      condition_defined [] [] (initial_world p) p.problem.goal
      (each_more _ _ (condition_parts p.problem.goal).numbers
      (λ x h. each_more _ _ (expression_reads x).all
      (λ a k.
      let names = bound_names p readable formed [] refl side.Problem [] p.domain.functions a refl k.0 in
      ap is_some (initial_value a.head.text _ (names_are_words (atom_of [] [] a) names) p readable.problem.values) ∙ k.1)
      (each_both _ _ (expression_reads x).all h.0 h.1))
      (each_both _ _ (condition_parts p.problem.goal).numbers (goal_reads p readable formed)
      (each_flat (λ a. is_some (value_at_first p (atom_of [] [] a)) ≡ true) (λ (x : Expr). (expression_reads x).all) (condition_parts p.problem.goal).numbers
      (none_found (λ a. is_some (value_at_first p (atom_of [] [] a))) (all_read (condition_parts p.problem.goal).numbers) (none_mapped _ _ none)))))

  module _ (t : TaskValue) (task : IsGroundTask p t.raw) (w : WorldValue) (st : StateValue) (at : StandsAt p t w st) where
    pub same_goal : goal_holds p w ≡ holds t.places st t.raw.goal
    unfolding folded_goal ground_text
    same_goal =
        let facts = state_facts p readable t task w st at in
        let v = state_values p readable t task w st at in
        let defined = same_defined [] [] w (initial_world p) at.like.defined p.problem.goal ∙ goal_set task.folds.all_set in
        let sound =
        condition_fold_is_sound p [] [] w (IsBound p readable formed side.Problem [] p.domain.functions) (IsBound p readable formed side.Problem [] p.domain.predicates)
        (fixed_value p readable formed [] refl w at.like side.Problem [] refl) (fixed_fact p readable formed [] refl w at.like side.Problem [] refl)
        p.problem.goal true (goal_facts p readable formed, goal_reads p readable formed) defined in
        let here = if_is _ (folded_condition p [] [] p.problem.goal true) task.goal task.folds.folds sound in
        let truth = here.1 facts v (
          λ a good changed s.
              fact_stands p readable t task w st at (atom_of [] [] a) (atom_there p readable formed side.Problem [] [] refl tt p.domain.predicates few_predicate_parameters a good)
              ((task.all_facts.exactly _).1 (inl s)),
          λ a good changed s.
              fluent_stands p readable t task w st at (atom_of [] [] a) (atom_there p readable formed side.Problem [] [] refl tt p.domain.functions few_function_parameters a good)
              ((task.all_fluents.exactly _).1 (IsRelevant.in_goal _ s)),
        ) in
        ap (λ (b : Bool). b && is_true [] [] w p.problem.goal) here.0
        ∙ sym (ap (holds t.places st) task.is_goal
        ∙ holds_numbered (fact_codes p readable t task) (fluent_codes p readable t task) (fact_value st) (fluent_value t.places st) (as_condition task.goal) ∙ truth)
