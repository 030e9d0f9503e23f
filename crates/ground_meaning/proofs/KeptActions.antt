-- Where no binding refuses a pair, a surviving binding that is ready and whose precondition isn't decided to be false gives an action of the task.
use Rattle.std.proofs.Common.{◌≡◌, ℕ, suc, Bool, true, false, not, List, [], ◌∷◌, map, Option, Some, None, Result, Ok, Err, refl, sym, ap, subst, ◌∙◌, inl, inr}
use Rattle.std.specs.Prelude.{filter_map, flat_map, nat_le, if◌then◌else◌}
use Rattle.std.specs.Option.{option_map_or}
use Rattle.std.specs.Result.{result_unwrap_or}
use Rattle.std.specs.List.{cons_option}
use Rattle.pddl_terms.specs.declared.actions.Schema.{Schema}
use Rattle.pddl_terms.specs.declared.limits.What.TheVariants as what
use Rattle.pddl_terms.specs.declared.limits.TheConstants.{MAX_ACTIONS, MAX_PREFIXES}
use Rattle.pddl_types.specs.declared.pairs.Pair.{Pair}
use Rattle.pddl_types.specs.WellFormed.{Each, Stands}
use Rattle.static_facts.specs.Atoms.{names}
use Rattle.static_facts.specs.Bindings.{bindings, prefix_count}
use Rattle.pddl_meaning.specs.Worlds.{initial_world}
use Rattle.pddl_meaning.specs.Steps.{is_ready}
use Rattle.ground_task.specs.declared.raw.Ground.{Ground}
use Rattle.ground_meaning.specs.declared.faults.GroundFault.TheVariants as fault
use Rattle.ground_meaning.specs.Results.{after, mapped}
use Rattle.ground_meaning.specs.Expressions.{FoldFault}
use Rattle.ground_meaning.specs.Conditions.{Settled, is_decided}
use Rattle.ground_meaning.specs.Actions.{FoldedAction, FoldedChange, coded_action, folded_action}
use Rattle.ground_meaning.specs.Outcomes.{Outcome, first_refused, first_unset, kept, kept_in, outcome, outcome_of, outcomes, schema_outcomes}
use Rattle.ground_meaning.specs.Outcomes.Outcome.{Dropped, Kept, Refused}
use Rattle.ground_meaning.proofs.Lists.{each_flat, each_map, each_stands, stands_left, stands_right}

-- ---- lists

pub stands_flat : {A B : Type 0} (f : A → List B) (xs : List A) (x : A) (y : B) → Stands x xs → Stands y (f x) → Stands y (flat_map f xs)
stands_flat f [] x y s t = elim s [ ]
stands_flat f (z ∷ zs) x y (inl e) t = stands_left y (f z) (flat_map f zs) (subst (λ u. Stands y (f u)) e t)
stands_flat f (z ∷ zs) x y (inr s) t = stands_right y (f z) (flat_map f zs) (stands_flat f zs x y s t)

pub stands_map : {A B : Type 0} (f : A → B) (xs : List A) (x : A) → Stands x xs → Stands (f x) (map f xs)
stands_map f [] x s = elim s [ ]
stands_map f (z ∷ zs) x (inl e) = inl (ap f e)
stands_map f (z ∷ zs) x (inr s) = inr (stands_map f zs x s)

stands_kept : (os : List Outcome) (a : Ground) → Stands (Kept a) os → Stands a (filter_map kept_in os)
stands_kept [] a s = elim s [ ]
stands_kept (o ∷ os) a (inl e) = subst (λ (z : Outcome). Stands a (cons_option (kept_in z) (filter_map kept_in os))) e (inl refl)
stands_kept (Dropped ∷ os) a (inr s) = stands_kept os a s
stands_kept (Kept b ∷ os) a (inr s) = inr (stands_kept os a s)
stands_kept (Refused f ∷ os) a (inr s) = stands_kept os a s

-- ---- no refusal

abbrev Passes : Outcome → Type 0
Passes Dropped = Unit {0}
Passes (Kept a) = Unit {0}
Passes (Refused f) = ⊥

none_refused : (count : ℕ) (os : List Outcome) → first_refused count os ≡ None → Each Passes os
none_refused count [] h = tt
none_refused count (Dropped ∷ os) h = (tt, none_refused count os h)
none_refused count (Refused f ∷ os) h = cc
none_refused count (Kept a ∷ os) h = by_test (nat_le MAX_ACTIONS count) h (λ k. none_refused (suc count) os k)
  where
    by_test : (test : Bool) → (if test then Some (fault.TooMany what.Actions MAX_ACTIONS) else first_refused (suc count) os) ≡ None
        → (first_refused (suc count) os ≡ None → Each Passes os) → Unit {0} × Each Passes os
    by_test true k more = cc
    by_test false k more = (tt, more k)

-- ---- parts of a folded action

pub action_parts : (condition : Result Settled FoldFault) (changes : Result (List FoldedChange) FoldFault) (action : FoldedAction)
    → after (λ c. mapped (λ cs. record { condition = c; changes = cs }) changes) condition ≡ Ok action → (condition ≡ Ok action.condition) × (changes ≡ Ok action.changes)
action_parts (Err f) changes action h = cc
action_parts (Ok c) (Err f) action h = cc
action_parts (Ok c) (Ok cs) action h =
    let is = ap (λ (r : Result FoldedAction FoldFault). result_unwrap_or r action) h in
    (ap (λ (a : FoldedAction). Ok a.condition) is, ap (λ (a : FoldedAction). Ok a.changes) is)

module _ (p : Pair) (none : first_refused 0 (outcomes p) ≡ None) (s : Schema) (stands : Stands s p.domain.schemas) where
  few_prefixes : (nat_le (prefix_count p s) MAX_PREFIXES ≡ true) × Each (λ os. Passes (outcome p s os)) (bindings p s)
  unfolding outcomes schema_outcomes
  few_prefixes = by_test (nat_le (prefix_count p s) MAX_PREFIXES) refl (each_stands (λ (z : Schema). Each Passes (schema_outcomes p z)) p.domain.schemas s (each_flat Passes (schema_outcomes p) p.domain.schemas (none_refused 0 (outcomes p) none)) stands)
    where
      by_test : (test : Bool) → nat_le (prefix_count p s) MAX_PREFIXES ≡ test
          → Each Passes (if test then map (outcome p s) (bindings p s) else Refused (fault.TooMany what.Prefixes MAX_PREFIXES) ∷ [])
          → (nat_le (prefix_count p s) MAX_PREFIXES ≡ true) × Each (λ os. Passes (outcome p s os)) (bindings p s)
      by_test true is h = (is, each_map Passes (outcome p s) (bindings p s) h)
      by_test false is h = elim h.0 [ ]

  -- a binding that gives an action
  pub record IsKept (os : List ℕ) (action : FoldedAction) : Type 0 where
    pub folds : folded_action p s (names p os) ≡ Ok action
    pub undecided : is_decided false action.condition ≡ false
    pub all_set : first_unset p s.params (names p os) s.effects ≡ None
    pub kept : Stands (coded_action p s (names p os) action) (kept p)

  in_outcomes : (os : List ℕ) → Stands os (bindings p s) → Stands (outcome p s os) (outcomes p)
  unfolding outcomes schema_outcomes
  in_outcomes os there =
      stands_flat (schema_outcomes p) p.domain.schemas s (outcome p s os) stands
      (subst (λ (test : Bool). Stands (outcome p s os) (if test then map (outcome p s) (bindings p s) else Refused (fault.TooMany what.Prefixes MAX_PREFIXES) ∷ []))
      (sym few_prefixes.0) (stands_map (outcome p s) (bindings p s) os there))

  module _ (os : List ℕ) (there : Stands os (bindings p s)) (ready : is_ready s (names p os) (initial_world p) ≡ true)
      (possible : (action : FoldedAction) → folded_action p s (names p os) ≡ Ok action → is_decided false action.condition ≡ false) where
    passes : Passes (outcome p s os)
    passes = each_stands (λ (qs : List ℕ). Passes (outcome p s qs)) (bindings p s) os few_prefixes.1 there

    is_outcome : outcome p s os ≡ outcome_of p s (names p os) (folded_action p s (names p os))
    unfolding outcome
    is_outcome = ap (λ (t : Bool). if not t then Dropped else outcome_of p s (names p os) (folded_action p s (names p os))) ready

    pub gives_action : (action : FoldedAction) × IsKept os action
    unfolding kept
    gives_action = by_fold (folded_action p s (names p os)) refl
      where
        by_unset : (action : FoldedAction) → folded_action p s (names p os) ≡ Ok action → is_decided false action.condition ≡ false
            → (unset : Option (List ℕ)) → first_unset p s.params (names p os) s.effects ≡ unset → (action : FoldedAction) × IsKept os action
        by_unset action folds undecided unset is = of_unset unset is
            (is_outcome ∙ ap (outcome_of p s (names p os)) folds
            ∙ ap (λ (t : Bool). if t then Dropped else option_map_or (λ text. Refused (fault.Unset text)) (first_unset p s.params (names p os) s.effects) (Kept (coded_action p s (names p os) action))) undecided
            ∙ ap (λ (u : Option (List ℕ)). option_map_or (λ text. Refused (fault.Unset text)) u (Kept (coded_action p s (names p os) action))) is)
          where
            of_unset : (unset : Option (List ℕ)) → first_unset p s.params (names p os) s.effects ≡ unset
                → outcome p s os ≡ option_map_or (λ text. Refused (fault.Unset text)) unset (Kept (coded_action p s (names p os) action)) → (action : FoldedAction) × IsKept os action
            of_unset (Some text) set result = elim (subst Passes result passes) [ ]
            of_unset None set result = (
              action,
              record {
                folds = folds;
                undecided = undecided;
                all_set = set;
                kept = stands_kept (outcomes p) (coded_action p s (names p os) action) (subst (λ (o : Outcome). Stands o (outcomes p)) result (in_outcomes os there));
              },
            )

        by_fold : (r : Result FoldedAction FoldFault) → folded_action p s (names p os) ≡ r → (action : FoldedAction) × IsKept os action
        by_fold (Err f) is = elim (subst Passes (is_outcome ∙ ap (outcome_of p s (names p os)) is) passes) [ ]
        by_fold (Ok action) is = by_unset action is (possible action is) (first_unset p s.params (names p os) s.effects) refl
