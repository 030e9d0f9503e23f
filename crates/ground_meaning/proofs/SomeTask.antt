-- A readable, well-formed pair has an answer: task data with least places, or a first reason against it.
use Rattle.std.proofs.Common.{◌≡◌, ◌≤◌, ◌++◌, ◌↔◌, ℕ, suc, Bool, true, false, not, List, [], ◌∷◌, map, length, Option, Some, None, Result, Ok, Err, refl, sym, ap, subst, inl, inr}
use Rattle.std.specs.Prelude.{codes, flat_map, nat_le, if◌then◌else◌}
use Rattle.std.specs.Option.{option_map_or}
use Rattle.std.proofs.lemmas.Bool.{cases_lt}
use Rattle.std.proofs.lemmas.Option.{same_Some}
use Rattle.pddl_terms.specs.declared.actions.Schema.{Schema}
use Rattle.pddl_terms.specs.declared.limits.What.TheVariants as what
use Rattle.pddl_terms.specs.declared.limits.TheConstants.{MAX_ACTIONS, MAX_FACTS, MAX_FLUENTS, MAX_OBJECTS, MAX_PREFIXES}
use Rattle.pddl_terms.specs.Readable.{IsReadable}
use Rattle.pddl_types.specs.declared.faults.Side.{Side}
use Rattle.pddl_types.specs.declared.faults.Side.TheVariants as side
use Rattle.pddl_types.specs.declared.pairs.Pair.{Pair}
use Rattle.pddl_types.specs.Pairs.{objects_of}
use Rattle.pddl_types.specs.WellFormed.{Each, Stands, WellFormed}
use Rattle.static_facts.specs.Atoms.{names}
use Rattle.static_facts.specs.Bindings.{bindings, prefix_count}
use Rattle.static_facts.specs.Codes.{fact_code, fluent_code}
use Rattle.pddl_meaning.specs.Worlds.{initial_world}
use Rattle.pddl_meaning.specs.Steps.{is_ready}
use Rattle.ground_task.specs.declared.raw.Change.{Change}
use Rattle.ground_task.specs.declared.raw.Ground.{Ground}
use Rattle.ground_task.specs.declared.raw.RawTask.{RawTask}
use Rattle.ground_task.specs.Tasks.{TaskValue}
use Rattle.ground_task.specs.Valid.{right_side}
use Rattle.places.specs.declared.faults.PlacesFault.{PlacesFault}
use Rattle.places.specs.declared.faults.PlacesFault.TheVariants as places_fault
use Rattle.ground_meaning.specs.declared.faults.GroundFault.{GroundFault}
use Rattle.ground_meaning.specs.declared.faults.GroundFault.TheVariants as fault
use Rattle.ground_meaning.specs.Answers.{IsAnswer}
use Rattle.ground_meaning.specs.Expressions.{FoldFault}
use Rattle.ground_meaning.specs.Expressions.FoldFault.{Divide, OutOfRange}
use Rattle.ground_meaning.specs.Conditions.{Settled, as_condition, is_decided}
use Rattle.ground_meaning.specs.Actions.{FoldedAction, action_text, coded_action, folded_action}
use Rattle.ground_meaning.specs.Outcomes.{Outcome, first_refused, first_unset, fold_refusal, kept, outcome, outcome_of, outcomes, schema_outcomes}
use Rattle.ground_meaning.specs.Outcomes.Outcome.{Dropped, Kept, Refused}
use Rattle.ground_meaning.specs.Goals.{AreBound, IsFolded, folded_goal, unset_in_goal}
use Rattle.ground_meaning.specs.Refusals.{places_refusal}
use Rattle.ground_meaning.specs.Refusals.IsRefused.{by_binding, by_facts, by_fluents, by_folding, by_goal, by_objects, by_places}
use Rattle.ground_meaning.specs.Tasks.{AreAllOf, IsFact, IsFluent, IsGroundTask, IsRelevant, IsTaskFact, action_facts, condition_facts, condition_fluents, fluents_in}
use Rattle.ground_meaning.specs.Tasks.IsRelevant.{in_change, in_goal, in_precondition}
use Rattle.ground_meaning.proofs.Closures.{IsClosure, closure}
use Rattle.ground_meaning.proofs.KeptActions.{stands_flat, stands_map}
use Rattle.ground_meaning.proofs.KeptAtoms.{relevant_code, task_fact_code}
use Rattle.ground_meaning.proofs.Lists.{each_joined, each_mapped, each_stands, each_where, stands_in_flat, stands_left, stands_mapped, stands_right, stands_split}
use Rattle.ground_meaning.proofs.OneTask.{made}
use Rattle.ground_meaning.proofs.OrderedAtoms.{all_atoms}
use Rattle.ground_meaning.proofs.SomePlaces.{least_exist, suffice_or_fault}
use Rattle.ground_meaning.proofs.ValidTask.{task_is_valid}

-- ---- no binding is refused for want of memory

abbrev IsReal : GroundFault → Type 0
IsReal f = f ≡ fault.NoMemory → ⊥

abbrev IsRealOutcome : Outcome → Type 0
IsRealOutcome Dropped = Unit {0}
IsRealOutcome (Kept a) = Unit {0}
IsRealOutcome (Refused f) = IsReal f

real_fold : (at : Side) (text : List ℕ) (why : FoldFault) → IsReal (fold_refusal at text why)
real_fold at text (Divide place) = λ e. cc
real_fold at text OutOfRange = λ e. cc

each_in_flat : {A B : Type 0} (P : B → Type 0) (f : A → List B) (xs : List A) → ((x : A) → Each P (f x)) → Each P (flat_map f xs)
each_in_flat P f [] h = tt
each_in_flat P f (x ∷ xs) h = each_joined P (f x) (flat_map f xs) (h x) (each_in_flat P f xs h)

each_of : {A : Type 0} (P : A → Type 0) (xs : List A) → ((x : A) → P x) → Each P xs
each_of P [] h = tt
each_of P (x ∷ xs) h = (h x, each_of P xs h)

module _ (p : Pair) where
  real_kept : (s : Schema) (os : List ℕ) (action : FoldedAction) (unset : Option (List ℕ)) → IsRealOutcome (option_map_or (λ text. Refused (fault.Unset text)) unset (Kept (coded_action p s (names p os) action)))
  real_kept s os action None = tt
  real_kept s os action (Some text) = λ e. cc

  real_folded : (s : Schema) (os : List ℕ) (action : FoldedAction) (t : Bool)
      → IsRealOutcome (if t then Dropped else option_map_or (λ text. Refused (fault.Unset text)) (first_unset p s.params (names p os) s.effects) (Kept (coded_action p s (names p os) action)))
  real_folded s os action true = tt
  real_folded s os action false = real_kept s os action (first_unset p s.params (names p os) s.effects)

  real_of : (s : Schema) (os : List ℕ) (r : Result FoldedAction FoldFault) → IsRealOutcome (outcome_of p s (names p os) r)
  real_of s os (Err why) = real_fold side.Domain (action_text s (names p os)) why
  real_of s os (Ok action) = real_folded s os action (is_decided false action.condition)

  real_ready : (s : Schema) (os : List ℕ) (t : Bool) → IsRealOutcome (if not t then Dropped else outcome_of p s (names p os) (folded_action p s (names p os)))
  real_ready s os true = real_of s os (folded_action p s (names p os))
  real_ready s os false = tt

  real_outcome : (s : Schema) (os : List ℕ) → IsRealOutcome (outcome p s os)
  unfolding outcome
  real_outcome s os = real_ready s os (is_ready s (names p os) (initial_world p))

  real_schema : (s : Schema) → Each IsRealOutcome (schema_outcomes p s)
  unfolding schema_outcomes
  real_schema s = by_count (nat_le (prefix_count p s) MAX_PREFIXES)
    where
      by_count : (t : Bool) → Each IsRealOutcome (if t then map (outcome p s) (bindings p s) else Refused (fault.TooMany what.Prefixes MAX_PREFIXES) ∷ [])
      by_count true = each_mapped IsRealOutcome (outcome p s) (bindings p s) (each_of (λ os. IsRealOutcome (outcome p s os)) (bindings p s) (real_outcome s))
      by_count false = (λ e. cc, tt)

  real_outcomes : Each IsRealOutcome (outcomes p)
  unfolding outcomes
  real_outcomes = each_in_flat IsRealOutcome (schema_outcomes p) p.domain.schemas real_schema

real_first : (count : ℕ) (os : List Outcome) (f : GroundFault) → Each IsRealOutcome os → first_refused count os ≡ Some f → IsReal f
real_first count [] f real h = cc
real_first count (Dropped ∷ os) f real h = real_first count os f real.1 h
real_first count (Refused g ∷ os) f real h = subst IsReal (same_Some g f h) real.0
real_first count (Kept a ∷ os) f real h = by_test (nat_le MAX_ACTIONS count) h (λ k. real_first (suc count) os f real.1 k)
  where
    by_test : (t : Bool) → (if t then Some (fault.TooMany what.Actions MAX_ACTIONS) else first_refused (suc count) os) ≡ Some f → (first_refused (suc count) os ≡ Some f → IsReal f) → IsReal f
    by_test true k more = subst IsReal (same_Some (fault.TooMany what.Actions MAX_ACTIONS) f k) (λ e. cc)
    by_test false k more = more k

module _ (p : Pair) (readable : IsReadable p.domain p.problem) (formed : WellFormed p) where
  module _ (goal : Settled) (folds : IsFolded p goal) where
    -- ---- the facts

    abbrev fact_list : List ℕ
    fact_list = condition_facts (as_condition goal) ++ flat_map action_facts (kept p)

    facts_alike : (n : ℕ) → Stands n fact_list ↔ IsTaskFact p goal n
    facts_alike n = (into, back)
      where
        in_action : (a : Ground) × Stands a (kept p) × Stands n (action_facts a) → IsTaskFact p goal n
        in_action found = inr found

        into : Stands n fact_list → IsTaskFact p goal n
        into s =
            elim (stands_split n (condition_facts (as_condition goal)) (flat_map action_facts (kept p)) s) [
              | inl here ↦ inl here
              | inr there ↦ in_action (stands_in_flat action_facts (kept p) n there)
            ]

        back : IsTaskFact p goal n → Stands n fact_list
        back (inl s) = stands_left n (condition_facts (as_condition goal)) (flat_map action_facts (kept p)) s
        back (inr (a, there, s)) = stands_right n (condition_facts (as_condition goal)) (flat_map action_facts (kept p)) (stands_flat action_facts (kept p) a n there s)

    some_facts : (facts : List (List (List ℕ))) × AreAllOf (IsFact p) (fact_code p) (IsTaskFact p goal) facts
    some_facts =
        all_atoms (IsFact p) (fact_code p) (IsTaskFact p goal) fact_list
        (each_where _ fact_list (λ n s. task_fact_code p readable formed goal folds.all_set folds.folds n ((facts_alike n).0 s))) facts_alike

    -- ---- the fluents

    abbrev read_list : List ℕ
    read_list = condition_fluents (as_condition goal) ++ flat_map (λ (a : Ground). condition_fluents a.pre) (kept p)

    abbrev change_reads : ℕ × Change → List (ℕ × ℕ)
    change_reads change = map (λ (x : ℕ). (change.0, x)) (fluents_in (right_side change.1))

    abbrev action_reads : Ground → List (ℕ × ℕ)
    action_reads a = flat_map change_reads a.nums

    abbrev all_reads : List (ℕ × ℕ)
    all_reads = flat_map action_reads (kept p)

    read_relevant : (n : ℕ) → Stands n read_list → IsRelevant p goal n
    read_relevant n s =
        elim (stands_split n (condition_fluents (as_condition goal)) (flat_map (λ (a : Ground). condition_fluents a.pre) (kept p)) s) [
          | inl here ↦ in_goal n here
          | inr there ↦ let found = stands_in_flat (λ (a : Ground). condition_fluents a.pre) (kept p) n there in in_precondition found.0 n found.1 found.2
        ]

    handed : (e : ℕ × ℕ) → Stands e all_reads → IsRelevant p goal e.0 → IsRelevant p goal e.1
    handed e s relevant =
        let action = stands_in_flat action_reads (kept p) e s in
        let change = stands_in_flat change_reads action.0.nums e action.2 in
        let read = stands_mapped (λ (x : ℕ). (change.0.0, x)) (fluents_in (right_side change.0.1)) e change.2 in
        let first = ap (λ (u : ℕ × ℕ). u.0) read.2 in
        let second = ap (λ (u : ℕ × ℕ). u.1) read.2 in
        subst (IsRelevant p goal) (sym second)
        (in_change action.0 change.0.0 change.0.1 read.0 action.1 change.1 (subst (IsRelevant p goal) first relevant) read.1)

    relevant : IsClosure (IsRelevant p goal) read_list all_reads
    relevant = closure (IsRelevant p goal) read_list all_reads (each_where (IsRelevant p goal) read_list read_relevant) handed

    covered : (n : ℕ) → IsRelevant p goal n → Stands n relevant.numbers
    covered n (in_goal x s) = relevant.with_base n (stands_left n (condition_fluents (as_condition goal)) (flat_map (λ (a : Ground). condition_fluents a.pre) (kept p)) s)
    covered n (in_precondition a x there s) =
        relevant.with_base n (stands_right n (condition_fluents (as_condition goal)) (flat_map (λ (a : Ground). condition_fluents a.pre) (kept p))
        (stands_flat (λ (a : Ground). condition_fluents a.pre) (kept p) a n there s))
    covered n (in_change a y change x there s r reads) =
        relevant.closed (y, n)
        (stands_flat action_reads (kept p) a (y, n) there (stands_flat change_reads a.nums (y, change) (y, n) s (stands_map (λ (x : ℕ). (y, x)) (fluents_in (right_side change)) n reads)))
        (covered y r)

    some_fluents : (fluents : List (List (List ℕ))) × AreAllOf (IsFluent p) (fluent_code p) (IsRelevant p goal) fluents
    some_fluents =
        all_atoms (IsFluent p) (fluent_code p) (IsRelevant p goal) relevant.numbers
        (each_where _ relevant.numbers (λ n s. relevant_code p readable formed goal folds.all_set folds.folds n (each_stands (IsRelevant p goal) relevant.numbers n relevant.have s)))
        (λ n. (λ s. each_stands (IsRelevant p goal) relevant.numbers n relevant.have s, covered n))

  -- ---- the answer

  abbrev Answered : Type 0
  Answered = (answer : Result TaskValue GroundFault) × IsAnswer p answer

  real_places : (raw : RawTask) (g : PlacesFault) → (g ≡ places_fault.NoMemory → ⊥) → IsReal (places_refusal raw g)
  real_places raw (places_fault.Fluent x) real = λ e. cc
  real_places raw (places_fault.Action number) real = λ e. cc
  real_places raw places_fault.Goal real = λ e. cc
  real_places raw (places_fault.Range x) real = λ e. cc
  real_places raw places_fault.NoMemory real = λ e. real refl

  of_task : (raw : RawTask) → IsGroundTask p raw → Answered
  of_task raw task =
      let valid = task_is_valid p readable formed raw task in
      let places = least_exist raw valid in
      elim (suffice_or_fault raw valid places.0 places.1) [
        | inl enough ↦ (Ok (record { raw = raw; places = places.0 }), record { grounded = record { task = task; places = places.1 }; placed = enough.0; in_range = enough.1 })
        | inr why ↦ (Err (places_refusal raw why.0), (by_places raw why.0 task why.1, real_places raw why.0 why.2))
      ]

  of_folded : (goal : Settled) → IsFolded p goal → Answered
  of_folded goal folds =
      let facts = some_facts goal folds in
      let fluents = some_fluents goal folds in
      elim (cases_lt MAX_FACTS (length facts.0)) [
        | inl many ↦ (Err (fault.TooMany what.Facts MAX_FACTS), (by_facts goal facts.0 folds facts.1 many, λ e. cc))
        | inr few ↦ elim (cases_lt MAX_FLUENTS (length fluents.0)) [
          | inl many ↦ (Err (fault.TooMany what.Fluents MAX_FLUENTS), (by_fluents goal facts.0 fluents.0 folds facts.1 fluents.1 few many, λ e. cc))
          | inr small ↦ of_task (made p readable goal facts.0 fluents.0) (record {
            goal = goal;
            facts = facts.0;
            fluents = fluents.0;
            folds = folds;
            all_facts = facts.1;
            all_fluents = fluents.1;
            few_facts = few;
            few_fluents = small;
            fact_texts = refl;
            fluent_texts = refl;
            true_facts = refl;
            values = refl;
            actions = refl;
            is_goal = refl;
          })
        ]
      ]

  of_goal : AreBound p → unset_in_goal p ≡ None → (r : Result Settled FoldFault) → folded_goal p ≡ r → Answered
  of_goal bound none (Err why) is = (Err (fold_refusal side.Problem (codes "goal") why), (by_folding why bound none is, real_fold side.Problem (codes "goal") why))
  of_goal bound none (Ok goal) is = of_folded goal (record { bound = bound; all_set = none; folds = is })

  of_unset : AreBound p → (unset : Option (List ℕ)) → unset_in_goal p ≡ unset → Answered
  of_unset bound (Some text) is = (Err (fault.Unset text), (by_goal text bound is, λ e. cc))
  of_unset bound None is = of_goal bound is (folded_goal p) refl

  of_bindings : length (objects_of p) ≤ MAX_OBJECTS → (r : Option GroundFault) → first_refused 0 (outcomes p) ≡ r → Answered
  of_bindings few (Some f) is = (Err f, (by_binding f few is, real_first 0 (outcomes p) f (real_outcomes p) is))
  of_bindings few None is = of_unset (record { few_objects = few; none_refused = is }) (unset_in_goal p) refl

  -- the answer is there
  pub some_answer : Answered
  some_answer =
      elim (cases_lt MAX_OBJECTS (length (objects_of p))) [
        | inl many ↦ (Err (fault.TooMany what.Objects MAX_OBJECTS), (by_objects many, λ e. cc))
        | inr few ↦ of_bindings few (first_refused 0 (outcomes p)) refl
      ]
