-- Where a kept action comes from: an action of the domain under one of its bindings.
use Rattle.std.proofs.Common.{◌≡◌, ◌<◌, ◌+◌, ℕ, zero, suc, Bool, true, false, not, List, [], ◌∷◌, map, length, take, Option, Some, None, Result, Ok, Err, refl, sym, ap, subst, inl, inr, arith}
use Rattle.std.specs.Prelude.{filter_map, nat_le, if◌then◌else◌}
use Rattle.std.specs.Option.{option_map_or}
use Rattle.std.specs.List.{range_with_len}
use Rattle.std.proofs.lemmas.Option.{same_Some}
use Rattle.pddl_terms.specs.declared.names.Typed.{Typed}
use Rattle.pddl_terms.specs.declared.actions.Schema.{Schema}
use Rattle.pddl_terms.specs.declared.limits.What.TheVariants as what
use Rattle.pddl_terms.specs.declared.limits.TheConstants.{MAX_PREFIXES}
use Rattle.type_order.specs.Types.{is_within}
use Rattle.pddl_types.specs.declared.pairs.Pair.{Pair}
use Rattle.pddl_types.specs.Pairs.{objects_of}
use Rattle.pddl_types.specs.WellFormed.{Each, Stands}
use Rattle.static_facts.specs.Atoms.{names}
use Rattle.static_facts.specs.Bindings.{bindings, fitting, kind_of, prefix_count, prefixes_of, survives, tuples}
use Rattle.pddl_meaning.specs.Worlds.{initial_world}
use Rattle.pddl_meaning.specs.Steps.{is_ready}
use Rattle.ground_task.specs.declared.raw.Ground.{Ground}
use Rattle.ground_meaning.specs.declared.faults.GroundFault.TheVariants as fault
use Rattle.ground_meaning.specs.Expressions.{FoldFault}
use Rattle.ground_meaning.specs.Conditions.{is_decided}
use Rattle.ground_meaning.specs.Actions.{FoldedAction, coded_action, folded_action}
use Rattle.ground_meaning.specs.Outcomes.{Outcome, first_unset, kept, kept_in, outcome, outcome_of, outcomes, schema_outcomes}
use Rattle.ground_meaning.specs.Outcomes.Outcome.{Dropped, Kept, Refused}
use Rattle.ground_meaning.proofs.LegalArguments.{whole}
use Rattle.ground_meaning.proofs.Lists.{stands_filtered, stands_in_flat, stands_mapped}

-- ---- outcomes

kept_outcome : (os : List Outcome) (a : Ground) → Stands a (filter_map kept_in os) → Stands (Kept a) os
kept_outcome [] a s = elim s [ ]
kept_outcome (Dropped ∷ os) a s = inr (kept_outcome os a s)
kept_outcome (Kept b ∷ os) a (inl e) = inl (ap Kept e)
kept_outcome (Kept b ∷ os) a (inr s) = inr (kept_outcome os a s)
kept_outcome (Refused f ∷ os) a s = inr (kept_outcome os a s)

-- a binding of an action that gives a ground action
pub record IsSourceOf (p : Pair) (a : Ground) (s : Schema) (os : List ℕ) : Type 0 where
  pub action : FoldedAction
  pub ready : is_ready s (names p os) (initial_world p) ≡ true
  pub folds : folded_action p s (names p os) ≡ Ok action
  pub undecided : is_decided false action.condition ≡ false
  pub all_set : first_unset p s.params (names p os) s.effects ≡ None
  pub is : a ≡ coded_action p s (names p os) action

-- an action of the domain and a binding that give a ground action
pub record IsSource (p : Pair) (a : Ground) : Type 0 where
  pub schema : Schema
  pub objects : List ℕ
  pub declared : Stands schema p.domain.schemas
  pub bound : Stands objects (bindings p schema)
  pub reason : IsSourceOf p a schema objects

module _ (p : Pair) (a : Ground) where
  module _ (s : Schema) (os : List ℕ) where
    of_ready : is_ready s (names p os) (initial_world p) ≡ true → (r : Result FoldedAction FoldFault) → folded_action p s (names p os) ≡ r
        → Kept a ≡ outcome_of p s (names p os) r → IsSourceOf p a s os
    of_ready ready (Err f) folds e = cc
    of_ready ready (Ok action) folds e = by_condition (is_decided false action.condition) refl e
      where
        by_unset : is_decided false action.condition ≡ false → (unset : Option (List ℕ)) → first_unset p s.params (names p os) s.effects ≡ unset
            → Kept a ≡ option_map_or (λ text. Refused (fault.Unset text)) unset (Kept (coded_action p s (names p os) action)) → IsSourceOf p a s os
        by_unset undecided (Some text) set k = cc
        by_unset undecided None set k = record {
          action = action;
          ready = ready;
          folds = folds;
          undecided = undecided;
          all_set = set;
          is = same_Some a (coded_action p s (names p os) action) (ap kept_in k);
        }

        by_condition : (t : Bool) → is_decided false action.condition ≡ t
            → Kept a ≡ (if t then Dropped else option_map_or (λ text. Refused (fault.Unset text)) (first_unset p s.params (names p os) s.effects) (Kept (coded_action p s (names p os) action)))
            → IsSourceOf p a s os
        by_condition true is k = cc
        by_condition false is k = by_unset is (first_unset p s.params (names p os) s.effects) refl k

    pub outcome_source : Kept a ≡ outcome p s os → IsSourceOf p a s os
    unfolding outcome
    outcome_source e = by_ready (is_ready s (names p os) (initial_world p)) refl e
      where
        by_ready : (t : Bool) → is_ready s (names p os) (initial_world p) ≡ t
            → Kept a ≡ (if not t then Dropped else outcome_of p s (names p os) (folded_action p s (names p os))) → IsSourceOf p a s os
        by_ready false is k = cc
        by_ready true is k = of_ready is (folded_action p s (names p os)) refl k

  pub schema_source : (s : Schema) → Stands (Kept a) (schema_outcomes p s) → (os : List ℕ) × Stands os (bindings p s) × IsSourceOf p a s os
  unfolding schema_outcomes
  schema_source s there = by_count (nat_le (prefix_count p s) MAX_PREFIXES) there
    where
      by_count : (t : Bool) → Stands (Kept a) (if t then map (outcome p s) (bindings p s) else Refused (fault.TooMany what.Prefixes MAX_PREFIXES) ∷ [])
          → (os : List ℕ) × Stands os (bindings p s) × IsSourceOf p a s os
      by_count true k = let found = stands_mapped (outcome p s) (bindings p s) (Kept a) k in (found.0, found.1, outcome_source s found.0 found.2)
      by_count false (inl e) = cc
      by_count false (inr k) = elim k [ ]

  -- each kept action comes from a binding
  pub kept_source : Stands a (kept p) → IsSource p a
  unfolding kept outcomes
  kept_source there =
      let found = stands_in_flat (schema_outcomes p) p.domain.schemas (Kept a) (kept_outcome (outcomes p) a there) in
      let source = schema_source found.0 found.2 in
      record {
        schema = found.0;
        objects = source.0;
        declared = found.1;
        bound = source.1;
        reason = source.2;
      }

-- ---- bindings

pub range_known : (from count n : ℕ) → Stands n (range_with_len from count) → n < from + count
range_known from zero n s = elim s [ ]
range_known from (suc count) n (inl e) = omega (arith, e)
range_known from (suc count) n (inr s) = let rest = range_known (from + 1) count n s in omega (arith, rest)

module _ (p : Pair) where
  -- a tuple of objects that fit parameters has an object of the pair for each
  pub tuple_known : (params : List Typed) (os : List ℕ) → Stands os (tuples p params) → Each (λ o. o < length (objects_of p)) os × (length os ≡ length params)
  tuple_known [] os (inl e) = subst (λ (qs : List ℕ). Each (λ o. o < length (objects_of p)) qs × (length qs ≡ 0)) (sym e) (tt, refl)
  tuple_known [] os (inr s) = elim s [ ]
  tuple_known (t ∷ params) os s =
      let first = stands_in_flat (λ o. map (λ qs. o ∷ qs) (tuples p params)) (fitting p t) os s in
      let rest = stands_mapped (λ (qs : List ℕ). first.0 ∷ qs) (tuples p params) os first.2 in
      let known = tuple_known params rest.0 rest.1 in
      let fits = stands_filtered (λ o. is_within p.domain.types (kind_of p o) t.kind.text) (range_with_len 0 (length (objects_of p))) first.0 first.1 in
      let within : first.0 < length (objects_of p) = omega (arith, range_known 0 (length (objects_of p)) first.0 fits.0) in
      subst (λ (qs : List ℕ). Each (λ o. o < length (objects_of p)) qs × (length qs ≡ suc (length params))) (sym rest.2) ((within, known.0), ap suc known.1)

  module _ (s : Schema) (os : List ℕ) where
    -- a binding is a tuple that survives
    pub binding_tuple : Stands os (bindings p s) → Stands os (tuples p s.params) × (survives p s os ≡ true)
    unfolding prefixes_of
    binding_tuple there =
        let found = stands_filtered (survives p s) (tuples p (take (length s.params) s.params)) os there in
        (subst (λ (ts : List Typed). Stands os (tuples p ts)) (whole p s.params) found.0, found.1)

    pub binding_known : Stands os (bindings p s) → Each (λ o. o < length (objects_of p)) os × (length os ≡ length s.params)
    binding_known there = tuple_known s.params os (binding_tuple there).0
