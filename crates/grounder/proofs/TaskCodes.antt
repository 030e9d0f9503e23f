-- The task that is made by codes is the task of the pair.
use Rattle.std.proofs.Common.{◌≡◌, ◌≤◌, ◌∙◌, ℕ, inl, inr, List, [], ◌∷◌, map, length, refl, sym, ap, ap₂, subst, arith}
use Rattle.std.specs.Prelude.{◌↔◌, Err, IfErr, IfOk, MatchResult, Ok, Result, flat_map}
use Rattle.std.specs.List.Sorted.{IsStrictlyIncreasing}
use Rattle.std.proofs.lemmas.List.{length-map}
use Rattle.pddl_terms.specs.declared.limits.TheConstants.{MAX_OBJECTS}
use Rattle.pddl_terms.specs.Readable.{IsReadable}
use Rattle.pddl_types.specs.declared.pairs.Pair.{Pair}
use Rattle.pddl_types.specs.Pairs.{objects_of}
use Rattle.pddl_types.specs.WellFormed.{Stands, WellFormed}
use Rattle.static_facts.specs.Atoms.{text_of_atom}
use Rattle.static_facts.specs.Codes.{fact_code, fluent_code}
use Rattle.ground_task.specs.declared.raw.GCond.{GCond}
use Rattle.ground_task.specs.declared.raw.Ground.{Ground}
use Rattle.ground_task.specs.declared.raw.RawTask.{RawTask}
use Rattle.ground_task.specs.Placed.{IsPlaced}
use Rattle.ground_task.specs.Tasks.{AreFirstInRange, TaskValue}
use Rattle.ground_task.specs.Valid.{IsValid}
use Rattle.places.specs.Least.{IsLeastPlaces}
use Rattle.coded_actions.specs.declared.coded.CodedAction.{CodedAction}
use Rattle.coded_actions.specs.declared.coded.CodedCond.{CodedCond}
use Rattle.coded_actions.specs.Coded.{action_of, condition_of}
use Rattle.ground_meaning.specs.declared.faults.GroundFault.{GroundFault}
use Rattle.ground_meaning.specs.Conditions.{Settled, as_condition}
use Rattle.ground_meaning.specs.Goals.{IsFolded}
use Rattle.ground_meaning.specs.Outcomes.{kept}
use Rattle.ground_meaning.specs.Refusals.{IsRefused}
use Rattle.ground_meaning.specs.Tasks.{AreAllOf, IsFact, IsFluent, IsGroundTask, IsRelevant, IsTaskFact, action_facts, condition_facts, first_value, numbered_action, numbered_condition}
use Rattle.ground_meaning.proofs.FirstStanding.{initial_stands}
use Rattle.ground_meaning.proofs.KeptAtoms.{relevant_code, task_fact_code}
use Rattle.ground_meaning.proofs.Lists.{all_of_each, each_mapped, each_where, stands_in_flat, stands_left, stands_right, stands_split}
use Rattle.ground_meaning.proofs.KeptActions.{stands_flat}
use Rattle.ground_meaning.proofs.StandsWhole.{stands_for}
use Rattle.ground_meaning.proofs.ValidTask.{task_is_valid}
use Rattle.folded_terms.specs.Goals.{IsGoal}
use Rattle.numbering.specs.Named.{IsRisingFrom, named_facts}
use Rattle.numbering.specs.Numbers.{AreTaskCodes}
use Rattle.numbering.specs.Reached.{AreRelevant, IsReached}
use Rattle.grounder.specs.internal.Decoded.{fact_of, fluent_of}
use Rattle.grounder.specs.internal.Made.{AreCodesOf, AreFactCodes, AreFluentCodes, AreNamedBy, IsCodesFault, IsMadeOf, IsPlacesRefusal, IsTaskOf}
use Rattle.grounder.specs.internal.Taken.{AreKept}
use Rattle.grounder.proofs.Decoding.{fact_again, fact_there, fluent_again, fluent_there}

-- ---- lists

merged : {A B C : Type 0} (f : B → C) (g : A → B) (xs : List A) → map (λ x. f (g x)) xs ≡ map f (map g xs)
merged f g [] = refl
merged f g (x ∷ xs) = ap (λ (ys : List _). f (g x) ∷ ys) (merged f g xs)

same_mapped : (f : ℕ → ℕ) (xs : List ℕ) → ((n : ℕ) → Stands n xs → f n ≡ n) → map f xs ≡ xs
same_mapped f [] same = refl
same_mapped f (x ∷ xs) same = ap₂ (λ (y : ℕ) (ys : List ℕ). y ∷ ys) (same x (inl refl)) (same_mapped f xs (λ n s. same n (inr s)))

-- ---- limits

pub task_numbers : (actions : List Ground) (goal : GCond) (facts fluents : List ℕ) → AreCodesOf actions goal facts fluents → AreTaskCodes facts fluents
task_numbers actions goal facts fluents codes = record {
  rising_facts = codes.are_facts.rising;
  rising_fluents = codes.are_fluents.rising;
  few_facts = codes.few_facts;
  few_fluents = codes.few_fluents;
}

-- ---- the facts and the fluents of the task

module _ (p : Pair) (readable : IsReadable p.domain p.problem) (formed : WellFormed p) (actions : List CodedAction) (goal : CodedCond) (few_objects : length (objects_of p) ≤ MAX_OBJECTS) (kept_ones : AreKept p actions) (folded : IsGoal p goal) where
  abbrev settled : Settled
  settled = folded.settled

  is_folded : IsFolded p settled
  is_folded = record {
    bound = record { few_objects = few_objects; none_refused = kept_ones.none_refused };
    all_set = folded.all_set;
    folds = folded.folds;
  }

  fact_of_task : (n : ℕ) → Stands n (named_facts (map action_of actions) (condition_of goal)) ↔ IsTaskFact p settled n
  fact_of_task n = (to, from)
    where
      to : Stands n (named_facts (map action_of actions) (condition_of goal)) → IsTaskFact p settled n
      to s =
          elim (stands_split n (condition_facts (condition_of goal)) (flat_map action_facts (map action_of actions)) s) [
            | inl here ↦ inl (subst (λ (g : GCond). Stands n (condition_facts g)) folded.is here)
            | inr there ↦
                let found = stands_in_flat action_facts (map action_of actions) n there in
                inr (found.0, subst (λ (l : List Ground). Stands found.0 l) kept_ones.kept_ones found.1, found.2)
          ]

      from : IsTaskFact p settled n → Stands n (named_facts (map action_of actions) (condition_of goal))
      from (inl s) =
          stands_left n (condition_facts (condition_of goal)) (flat_map action_facts (map action_of actions))
          (subst (λ (g : GCond). Stands n (condition_facts g)) (sym folded.is) s)
      from (inr found) =
          stands_right n (condition_facts (condition_of goal)) (flat_map action_facts (map action_of actions))
          (stands_flat action_facts (map action_of actions) found.0 n (subst (λ (l : List Ground). Stands found.0 l) (sym kept_ones.kept_ones) found.1) found.2)

  relevant_by_reach : (x : ℕ) → IsReached (kept p) (as_condition settled) x → IsRelevant p settled x
  relevant_by_reach x (IsReached.in_goal y s) = IsRelevant.in_goal x s
  relevant_by_reach x (IsReached.in_precondition a y there s) = IsRelevant.in_precondition a x there s
  relevant_by_reach x (IsReached.in_change a y change z there effect h s) = IsRelevant.in_change a y change x there effect (relevant_by_reach y h) s

  reached_by_relevance : (x : ℕ) → IsRelevant p settled x → IsReached (kept p) (as_condition settled) x
  reached_by_relevance x (IsRelevant.in_goal y s) = IsReached.in_goal x s
  reached_by_relevance x (IsRelevant.in_precondition a y there s) = IsReached.in_precondition a x there s
  reached_by_relevance x (IsRelevant.in_change a y change z there effect h s) = IsReached.in_change a y change x there effect (reached_by_relevance y h) s

  fluent_of_task : (x : ℕ) → IsReached (map action_of actions) (condition_of goal) x ↔ IsRelevant p settled x
  fluent_of_task x =
      subst (λ (l : List Ground). IsReached l (condition_of goal) x ↔ IsRelevant p settled x) (sym kept_ones.kept_ones)
      (subst (λ (g : GCond). IsReached (kept p) g x ↔ IsRelevant p settled x) (sym folded.is) (relevant_by_reach x, reached_by_relevance x))

  of_facts : (facts : List ℕ) → IsRisingFrom (named_facts (map action_of actions) (condition_of goal)) facts → AreFactCodes p facts
  of_facts facts rising n s =
      task_fact_code p readable formed settled folded.all_set folded.folds n ((fact_of_task n).0 ((rising.exactly n).0 s))

  of_fluents : (fluents : List ℕ) → AreRelevant (map action_of actions) (condition_of goal) fluents → AreFluentCodes p fluents
  of_fluents fluents relevant n s =
      relevant_code p readable formed settled folded.all_set folded.folds n ((fluent_of_task n).0 ((relevant.exactly n).0 s))

  -- facts read back have their codes
  fact_codes_again : (facts : List ℕ) → AreFactCodes p facts → map (fact_code p) (map (fact_of p) facts) ≡ facts
  fact_codes_again facts codes =
      sym (merged (fact_code p) (fact_of p) facts) ∙ same_mapped (λ n. fact_code p (fact_of p n)) facts (λ n s. fact_again p readable formed n (codes n s))

  fluent_codes_again : (fluents : List ℕ) → AreFluentCodes p fluents → map (fluent_code p) (map (fluent_of p) fluents) ≡ fluents
  fluent_codes_again fluents codes =
      sym (merged (fluent_code p) (fluent_of p) fluents)
      ∙ same_mapped (λ n. fluent_code p (fluent_of p n)) fluents (λ n s. fluent_again p readable formed n (codes n s))

  all_facts : (facts : List ℕ) → IsRisingFrom (named_facts (map action_of actions) (condition_of goal)) facts
      → AreAllOf (IsFact p) (fact_code p) (IsTaskFact p settled) (map (fact_of p) facts)
  all_facts facts rising =
      let codes = of_facts facts rising in
      let same = fact_codes_again facts codes in
      record {
        are_atoms = all_of_each (IsFact p) (map (fact_of p) facts)
            (each_mapped (IsFact p) (fact_of p) facts (each_where (λ n. IsFact p (fact_of p n)) facts (λ n s. fact_there p readable formed n (codes n s))));
        rising = subst IsStrictlyIncreasing (sym same) rising.rising;
        exactly = λ n. (
          λ s. (fact_of_task n).0 ((rising.exactly n).0 (subst (λ (l : List ℕ). Stands n l) same s)),
          λ h. subst (λ (l : List ℕ). Stands n l) (sym same) ((rising.exactly n).1 ((fact_of_task n).1 h)),
        );
      }

  all_fluents : (fluents : List ℕ) → AreRelevant (map action_of actions) (condition_of goal) fluents
      → AreAllOf (IsFluent p) (fluent_code p) (IsRelevant p settled) (map (fluent_of p) fluents)
  all_fluents fluents relevant =
      let codes = of_fluents fluents relevant in
      let same = fluent_codes_again fluents codes in
      record {
        are_atoms = all_of_each (IsFluent p) (map (fluent_of p) fluents)
            (each_mapped (IsFluent p) (fluent_of p) fluents (each_where (λ n. IsFluent p (fluent_of p n)) fluents (λ n s. fluent_there p readable formed n (codes n s))));
        rising = subst IsStrictlyIncreasing (sym same) relevant.rising;
        exactly = λ n. (
          λ s. (fluent_of_task n).0 ((relevant.exactly n).0 (subst (λ (l : List ℕ). Stands n l) same s)),
          λ h. subst (λ (l : List ℕ). Stands n l) (sym same) ((relevant.exactly n).1 ((fluent_of_task n).1 h)),
        );
      }

  -- too many facts or fluents refuse the pair
  pub codes_refused : (f : GroundFault) → IsCodesFault (map action_of actions) (condition_of goal) f → IsRefused p f
  codes_refused f (IsCodesFault.many_facts facts rising many) =
      IsRefused.by_facts settled (map (fact_of p) facts) is_folded (all_facts facts rising) (omega (arith, many, length-map facts (fact_of p)))
  codes_refused f (IsCodesFault.many_fluents facts fluents rising few relevant many) =
      IsRefused.by_fluents settled (map (fact_of p) facts) (map (fluent_of p) fluents) is_folded (all_facts facts rising) (all_fluents fluents relevant)
      (omega (arith, few, length-map facts (fact_of p))) (omega (arith, many, length-map fluents (fluent_of p)))
  codes_refused f IsCodesFault.by_memory = IsRefused.by_memory

  module _ (facts fluents : List ℕ) (coded : AreCodesOf (map action_of actions) (condition_of goal) facts fluents) where
    pub fact_codes : AreFactCodes p facts
    fact_codes = of_facts facts coded.are_facts

    pub fluent_codes : AreFluentCodes p fluents
    fluent_codes = of_fluents fluents coded.are_fluents

    module _ (raw : RawTask) (made : IsMadeOf p facts fluents (map action_of actions) (condition_of goal) raw) where
      task_made : IsGroundTask p raw
      task_made =
          let same_facts = fact_codes_again facts fact_codes in
          let same_fluents = fluent_codes_again fluents fluent_codes in
          record {
            goal = settled;
            facts = map (fact_of p) facts;
            fluents = map (fluent_of p) fluents;
            folds = is_folded;
            all_facts = all_facts facts coded.are_facts;
            all_fluents = all_fluents fluents coded.are_fluents;
            few_facts = omega (arith, coded.few_facts, length-map facts (fact_of p));
            few_fluents = omega (arith, coded.few_fluents, length-map fluents (fluent_of p));
            fact_texts = made.fact_texts ∙ merged text_of_atom (fact_of p) facts;
            fluent_texts = made.fluent_texts ∙ merged text_of_atom (fluent_of p) fluents;
            true_facts = made.true_facts;
            values = made.values ∙ merged (first_value p) (fluent_of p) fluents;
            actions = made.by_number ∙ ap (map (numbered_action facts fluents)) kept_ones.kept_ones
                ∙ ap₂ (λ (fs xs : List ℕ). map (numbered_action fs xs) (kept p)) (sym same_facts) (sym same_fluents);
            is_goal = made.is_goal ∙ ap (numbered_condition facts fluents) folded.is
                ∙ ap₂ (λ (fs xs : List ℕ). numbered_condition fs xs (as_condition settled)) (sym same_facts) (sym same_fluents);
          }

      pub data_valid : IsValid raw
      data_valid = task_is_valid p readable formed raw task_made

      pub data_named : AreNamedBy p fluents actions raw
      data_named = record {
        fluent_texts = made.fluent_texts;
        action_texts = ap (map (λ (a : Ground). a.name)) made.by_number ∙ sym (merged (λ (a : Ground). a.name) (numbered_action facts fluents) (map action_of actions))
            ∙ sym (merged (λ (a : Ground). (numbered_action facts fluents a).name) action_of actions);
      }

      pub task_found : (t : TaskValue) → t.raw ≡ raw → IsLeastPlaces raw t.places → IsPlaced raw t.places → AreFirstInRange t.places raw.values (length raw.fluents)
          → IsTaskOf p t
      task_found t is least placed in_range =
          let own : IsGroundTask p t.raw = subst (IsGroundTask p) (sym is) task_made in
          let own_placed : IsPlaced t.raw t.places = subst (λ (r : RawTask). IsPlaced r t.places) (sym is) placed in
          record {
            grounded = record { task = own; places = subst (λ (r : RawTask). IsLeastPlaces r t.places) (sym is) least };
            stands = stands_for p readable formed t own own_placed (λ st first. initial_stands p readable formed t own st first);
            placed = own_placed;
            in_range = subst (λ (r : RawTask). AreFirstInRange t.places r.values (length r.fluents)) (sym is) in_range;
          }

      pub places_refused : (f : GroundFault) → IsPlacesRefusal raw f → IsRefused p f
      places_refused f (IsPlacesRefusal.refused g h) = IsRefused.by_places raw g task_made h
      places_refused f IsPlacesRefusal.by_memory = IsRefused.by_memory

      -- what placing answers is what the pair gets
      pub placed_answer : (r : Result TaskValue GroundFault) → IfOk r (λ t. (t.raw ≡ raw) × IsLeastPlaces raw t.places)
          → IfOk r (λ t. IsPlaced raw t.places × AreFirstInRange t.places raw.values (length raw.fluents)) → IfErr r (IsPlacesRefusal raw) → MatchResult r (IsTaskOf p) (IsRefused p)
      placed_answer (Ok t) found suffices refused = task_found t found.0 found.1 suffices.0 suffices.1
      placed_answer (Err f) found suffices refused = places_refused f refused
