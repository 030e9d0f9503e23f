-- A step of the pair from a world at a state is a step of the task from that state.
use Rattle.std.proofs.Common.{◌≡◌, ◌<◌, ◌&&◌, ◌++◌, ℕ, suc, Bool, true, false, List, [], ◌∷◌, map, length, Some, slice_get, slice_index_or, refl, sym, ap, subst, ◌∙◌, inl, inr, arith, cond}
use Rattle.std.specs.Prelude.{bytes_eq, find}
use Rattle.std.specs.List.{list_all}
use Rattle.std.specs.FinSet as set
use Rattle.std.specs.FinMap as finite
use Rattle.std.proofs.lemmas.List.{length-map}
use Rattle.std.proofs.lemmas.Option.{same_Some}
use Rattle.std.proofs.lemmas.Slice.Eq.{bytes_eq-Decides}
use Rattle.num_ends.specs.Decimal.{Decimal, origin}
use Rattle.num_ends.proofs.Trimmed.{same_trimmed}
use Rattle.num_ends.specs.Names.{is_name}
use Rattle.pddl_terms.specs.declared.actions.Schema.{Schema}
use Rattle.pddl_terms.specs.Texts.{ground_text}
use Rattle.pddl_terms.specs.Readable.{IsReadable}
use Rattle.pddl_types.specs.declared.faults.Side.TheVariants as side
use Rattle.pddl_types.specs.declared.pairs.Pair.{Pair}
use Rattle.pddl_types.specs.Pairs.{objects_of}
use Rattle.pddl_types.specs.WellFormed.{Each, Stands, WellFormed}
use Rattle.static_facts.specs.Atoms.{atom_of, names, text_of_atom}
use Rattle.static_facts.specs.Bindings.{tuples}
use Rattle.pddl_meaning.specs.Worlds.{WorldValue}
use Rattle.pddl_meaning.specs.Values.{exactly}
use Rattle.pddl_meaning.specs.Truth.{is_defined, is_true, is_valued}
use Rattle.pddl_meaning.specs.Truth.{holds as holds_lifted}
use Rattle.pddl_meaning.specs.Effects.{are_compatible, are_effects_defined, are_effects_valued, next_value, numeric_effects}
use Rattle.pddl_meaning.specs.Steps.{IsStep, is_ready, next_fact}
use Rattle.pddl_meaning.proofs.Bounds.{both_true}
use Rattle.ground_task.specs.declared.raw.Ground.{Ground}
use Rattle.ground_task.specs.Meaning.{fact_value, fluent_value}
use Rattle.ground_task.specs.Placed.{IsPlaced, IsPlacedAction}
use Rattle.ground_task.specs.States.{StateValue}
use Rattle.ground_task.specs.Steps.{Leads, StepLeads, change_of, next_state}
use Rattle.ground_task.specs.Steps.{changed_value as changed_at}
use Rattle.ground_task.specs.Tasks.{TaskValue}
use Rattle.ground_task.proofs.StateNumbers.{next_is_led}
use Rattle.ground_task.proofs.StateNumbers.{found as at_number}
use Rattle.ground_meaning.specs.Conditions.{Settled, as_condition, folded_condition, is_decided}
use Rattle.ground_meaning.specs.Conditions.Settled.{decided, remaining}
use Rattle.ground_meaning.specs.Actions.{FoldedAction, coded_action, folded_action, folded_changes}
use Rattle.ground_meaning.specs.Outcomes.{kept}
use Rattle.ground_meaning.specs.Tasks.{IsGroundTask, IsRelevant, condition_facts, numbered_action}
use Rattle.ground_meaning.specs.Worlds.{IsNamed, StandsAt}
use Rattle.ground_meaning.proofs.BoundAtoms.{fixed_fact, fixed_value, pre_facts, pre_reads}
use Rattle.ground_meaning.proofs.ConditionFolds.{GivesTruth, condition_fold_is_sound, decided_holds, local}
use Rattle.ground_meaning.proofs.GoalTruth.{if_is}
use Rattle.ground_meaning.proofs.KeptActions.{IsKept, action_parts, gives_action}
use Rattle.ground_meaning.proofs.LegalArguments.{legal_arguments, objects_named, surviving_binding}
use Rattle.ground_meaning.proofs.LikeNext.{like_next}
use Rattle.ground_meaning.proofs.Lists.{stands_left}
use Rattle.ground_meaning.proofs.Numbering.{holds_numbered}
use Rattle.ground_meaning.proofs.ReadyEffects.{GoodFact, GoodFluent, all_objects, fact_there, fluent_there}
use Rattle.ground_meaning.proofs.Readiness.{same_readiness}
use Rattle.ground_meaning.proofs.Standing.{as_many_facts, as_many_fluents, fact_codes, fact_stands, fact_text, fluent_codes, fluent_stands, fluent_text, state_facts, state_values}
use Rattle.ground_meaning.proofs.Survival.{true_survives}
use Rattle.ground_meaning.proofs.Transition.{in_facts, next_fact_stands, next_value_stands, task_action}

-- ---- lists

stands_get : {A B : Type 0} (f : A → B) (xs : List A) (x : A) → Stands x xs → (n : ℕ) × (slice_get (map f xs) n ≡ Some (f x))
stands_get f [] x s = elim s [ ]
stands_get f (y ∷ ys) x (inl e) = (0, ap (λ z. Some (f z)) (sym e))
stands_get f (y ∷ ys) x (inr s) = let rest = stands_get f ys x s in (suc rest.0, rest.1)

schema_there : (name : List ℕ) (schemas : List Schema) (s : Schema) → find (λ z. bytes_eq name z.name.text) schemas ≡ Some s → Stands s schemas × (name ≡ s.name.text)
schema_there name [] s h = cc
schema_there name (z ∷ zs) s h = by_test (bytes_eq name z.name.text) refl h (λ k. schema_there name zs s k)
  where
    by_test : (t : Bool) → bytes_eq name z.name.text ≡ t → cond t (Some z) (find (λ z. bytes_eq name z.name.text) zs) ≡ Some s
        → (find (λ z. bytes_eq name z.name.text) zs ≡ Some s → Stands s zs × (name ≡ s.name.text)) → Stands s (z ∷ zs) × (name ≡ s.name.text)
    by_test true e k more = let same = same_Some z s k in (inl (sym same), (bytes_eq-Decides name z.name.text).0 e ∙ ap (λ (u : Schema). u.name.text) same)
    by_test false e k more = let rest = more k in (inr rest.0, rest.1)

pub ready_parts : (s : Schema) (args : List (List ℕ)) (w : WorldValue) → is_ready s args w ≡ true
    → (is_defined s.params args w s.pre ≡ true) × (are_effects_defined s.params args w (numeric_effects s.params args s.effects) ≡ true) × (are_compatible (numeric_effects s.params args s.effects) ≡ true)
unfolding is_ready
ready_parts s args w h =
    let outer = both_true (is_defined s.params args w s.pre && are_effects_defined s.params args w (numeric_effects s.params args s.effects)) (are_compatible (numeric_effects s.params args s.effects)) h in
    let inner = both_true (is_defined s.params args w s.pre) (are_effects_defined s.params args w (numeric_effects s.params args s.effects)) outer.0 in
    (inner.0, inner.1, outer.1)

module _ (p : Pair) (readable : IsReadable p.domain p.problem) (formed : WellFormed p) (t : TaskValue) (task : IsGroundTask p t.raw)
    (s : Schema) (stands : Stands s p.domain.schemas) (os : List ℕ) (known : Each (λ o. o < length (objects_of p)) os) (as_many : length os ≡ length s.params)
    (w : WorldValue) (st : StateValue) (at : StandsAt p t w st) where
  named : list_all is_name (names p os) ≡ true
  named = objects_named p (all_objects p readable) os known

  same : length (names p os) ≡ length s.params
  same = length-map os _ ∙ as_many

  module _ (action : FoldedAction) (is_kept : IsKept p task.folds.bound.none_refused s stands os action) where
    abbrev acting : Ground
    acting = task_action p readable formed t task s stands os known as_many action is_kept w st at

    -- where a world and a state change by the same action, the world stands at the state
    pub stands_next : (next : WorldValue) (later : StateValue) → is_ready s (names p os) w ≡ true
        → are_effects_valued exactly s.params (names p os) w (numeric_effects s.params (names p os) s.effects) ≡ true
        → ((f : List ℕ) → set.contains next.facts f ≡ next_fact s (names p os) w f)
        → ((x : List ℕ) → finite.get next.values x ≡ next_value exactly s.params (names p os) w (numeric_effects s.params (names p os) s.effects) x)
        → Leads t.places st acting later → StandsAt p t next later
    stands_next next later ready valued facts values leads =
        let parts = ready_parts s (names p os) w ready in
        record {
          like = like_next p readable formed s stands (names p os) named same w at.like next is_kept.all_set parts.1 valued facts values;
          sizes = record { a_truth_each = leads.as_many_facts ∙ at.sizes.a_truth_each; a_number_each = leads.as_many_values ∙ at.sizes.a_number_each };
          facts = λ f within.
              let inside : f < length task.facts = omega (arith, within, as_many_facts p readable t task) in
              ap (set.contains next.facts) (fact_text p readable t task f inside) ∙ facts (text_of_atom (slice_index_or task.facts f []))
              ∙ sym (next_fact_stands p readable formed t task s stands os known as_many action is_kept w st at f inside)
              ∙ sym (leads.facts f (omega (arith, within, at.sizes.a_truth_each)));
          fluents = λ x within.
              let inside : x < length task.fluents = omega (arith, within, as_many_fluents p readable t task) in
              ap (finite.get next.values) (fluent_text p readable t task x inside) ∙ values (text_of_atom (slice_index_or task.fluents x []))
              ∙ next_value_stands p readable formed t task s stands os known as_many action is_kept w st at x inside parts.1 parts.2
              ∙ ap Some (sym (same_trimmed (fluent_value t.places later x) (changed_at t.places st x (change_of x acting.nums)) (leads.values x (omega (arith, within, at.sizes.a_number_each)))));
        }

  abbrev Truth : Settled → Bool → Type 0
  Truth =
      GivesTruth p s.params (names p os) w (GoodFluent p readable formed s os known as_many) (GoodFact p readable formed s os known as_many)
      (fixed_value p readable formed (names p os) named w at.like side.Domain s.params same) (fixed_fact p readable formed (names p os) named w at.like side.Domain s.params same)

  -- a condition that is true isn't decided to be false
  not_false : (c : Settled) (truth : Bool) → Truth c truth → truth ≡ true → is_decided false c ≡ false
  not_false (decided true) truth h is = refl
  not_false (decided false) truth h is =
      let facts : ℕ → Bool = λ _. false in
      let v : ℕ → Decimal = λ _. origin in
      let never = (local p s.params (names p os) w (GoodFluent p readable formed s os known as_many) (GoodFact p readable formed s os known as_many)
      (fixed_value p readable formed (names p os) named w at.like side.Domain s.params same) (fixed_fact p readable formed (names p os) named w at.like side.Domain s.params same) facts v).never in
      let bad = sym (decided_holds facts v false) ∙ h facts v never ∙ is in cc
  not_false (remaining g) truth h is = refl

  pub forward_bound : IsPlaced t.raw t.places → Stands os (tuples p s.params) → (next : WorldValue) → is_ready s (names p os) w ≡ true → holds_lifted s.params (names p os) w s.pre ≡ true
      → are_effects_valued exactly s.params (names p os) w (numeric_effects s.params (names p os) s.effects) ≡ true
      → ((f : List ℕ) → set.contains next.facts f ≡ next_fact s (names p os) w f)
      → ((x : List ℕ) → finite.get next.values x ≡ next_value exactly s.params (names p os) w (numeric_effects s.params (names p os) s.effects) x)
      → (number : ℕ) × (later : StateValue) × IsNamed t number s.name.text (names p os) × StepLeads t number st later × StandsAt p t next later
  unfolding folded_action coded_action ground_text
  forward_bound placed fitting next ready applies valued facts values =
      let parts = ready_parts s (names p os) w ready in
      let truth = (both_true (is_valued s.params (names p os) w s.pre) (is_true s.params (names p os) w s.pre) applies).1 in
      let there = surviving_binding p s os fitting (true_survives p readable formed s stands w at.like os as_many named truth) in
      let ready_first = sym (same_readiness p s (names p os) w at.like) ∙ ready in
      let sound = condition_fold_is_sound p s.params (names p os) w (GoodFluent p readable formed s os known as_many) (GoodFact p readable formed s os known as_many)
      (fixed_value p readable formed (names p os) named w at.like side.Domain s.params same) (fixed_fact p readable formed (names p os) named w at.like side.Domain s.params same)
      s.pre true (pre_facts p readable formed s stands, pre_reads p readable formed s stands) parts.0 in
      let found = gives_action p task.folds.bound.none_refused s stands os there ready_first
      (λ action folds. not_false action.condition (is_true s.params (names p os) w s.pre)
      (if_is _ (folded_condition p s.params (names p os) s.pre true) action.condition (action_parts (folded_condition p s.params (names p os) s.pre true) (folded_changes p s.params (names p os) s.effects) action folds).0 sound).1 truth) in
      let action = found.0 in
      let is_kept = found.1 in
      let gives = (if_is _ (folded_condition p s.params (names p os) s.pre true) action.condition
      (action_parts (folded_condition p s.params (names p os) s.pre true) (folded_changes p s.params (names p os) s.effects) action is_kept.folds).0 sound).1 in
      let this = acting action is_kept in
      let fs = fact_codes p readable t task in
      let xs = fluent_codes p readable t task in
      let coded = coded_action p s (names p os) action in
      let number = stands_get (numbered_action fs xs) (kept p) coded is_kept.kept in
      let listed = ap (λ (actions : List Ground). slice_get actions number.0) task.actions ∙ number.1 in
      let holding = holds_numbered fs xs (fact_value st) (fluent_value t.places st) (as_condition action.condition)
      ∙ gives (state_facts p readable t task w st at) (state_values p readable t task w st at) (
        λ a good changed k.
            fact_stands p readable t task w st at (atom_of s.params (names p os) a) (fact_there p readable formed s os known as_many a good)
            (in_facts p readable formed t task s stands os known as_many action is_kept w st at _
            (stands_left _ (condition_facts coded.pre ++ coded.adds) coded.dels (stands_left _ (condition_facts coded.pre) coded.adds k))),
        λ a good changed k.
            fluent_stands p readable t task w st at (atom_of s.params (names p os) a) (fluent_there p readable formed s os known as_many a good)
            ((task.all_fluents.exactly _).1 (IsRelevant.in_precondition coded _ is_kept.kept k)),
      )
      ∙ truth in
      let leads = next_is_led t.places st this (at_number (IsPlacedAction t.places) t.raw.actions number.0 this placed.placed_actions listed) holding in
      (number.0, next_state t.places st this, (this, listed, refl), (this, listed, leads), stands_next action is_kept next (next_state t.places st this) ready valued facts values leads)

-- each step of the pair from a world at a state is a step of the task to the state at which the next world stands
pub step_stands : (p : Pair) → IsReadable p.domain p.problem → WellFormed p → (t : TaskValue) → IsGroundTask p t.raw → IsPlaced t.raw t.places
    → (w : WorldValue) (st : StateValue) (name : List ℕ) (objects : List (List ℕ)) (next : WorldValue) → StandsAt p t w st → IsStep p w name objects next
    → (number : ℕ) × (later : StateValue) × IsNamed t number name objects × StepLeads t number st later × StandsAt p t next later
step_stands p readable formed t task placed w st name objects next at step =
    let s = step.action in
    let there = schema_there name p.domain.schemas s step.named in
    let legal = legal_arguments p s.params objects step.legal in
    let e = sym legal.named in
    subst (λ (text : List ℕ). (number : ℕ) × (later : StateValue) × IsNamed t number text objects × StepLeads t number st later × StandsAt p t next later) (sym there.1)
    (subst (λ (args : List (List ℕ)). (number : ℕ) × (later : StateValue) × IsNamed t number s.name.text args × StepLeads t number st later × StandsAt p t next later) legal.named
    (forward_bound p readable formed t task s there.0 legal.objects legal.known legal.as_many w st at placed legal.fitting next
    (subst (λ (args : List (List ℕ)). is_ready s args w ≡ true) e step.ready)
    (subst (λ (args : List (List ℕ)). holds_lifted s.params args w s.pre ≡ true) e step.applies)
    (subst (λ (args : List (List ℕ)). are_effects_valued exactly s.params args w (numeric_effects s.params args s.effects) ≡ true) e step.valued)
    (λ f. subst (λ (args : List (List ℕ)). set.contains next.facts f ≡ next_fact s args w f) e (step.facts f))
    (λ x. subst (λ (args : List (List ℕ)). finite.get next.values x ≡ next_value exactly s.params args w (numeric_effects s.params args s.effects) x) e (step.values x))))
