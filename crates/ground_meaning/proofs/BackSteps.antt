-- A step of the task from a state at which a world stands is a step of the pair from that world.
use Rattle.std.proofs.Common.{◌≡◌, ◌<◌, ◌++◌, ℕ, true, List, length, slice_get, sym, ap, subst, ◌∙◌}
use Rattle.std.specs.List.{list_all}
use Rattle.std.proofs.lemmas.List.{length-map}
use Rattle.num_ends.specs.Names.{is_name}
use Rattle.pddl_terms.specs.declared.actions.Schema.{Schema}
use Rattle.pddl_terms.specs.Texts.{ground_text}
use Rattle.pddl_terms.specs.Readable.{IsReadable}
use Rattle.pddl_types.specs.declared.faults.Side.TheVariants as side
use Rattle.pddl_types.specs.declared.pairs.Pair.{Pair}
use Rattle.pddl_types.specs.Pairs.{objects_of}
use Rattle.pddl_types.specs.WellFormed.{Each, Stands, WellFormed}
use Rattle.static_facts.specs.Atoms.{atom_of, names}
use Rattle.static_facts.specs.Bindings.{tuples}
use Rattle.pddl_meaning.specs.Worlds.{WorldValue, initial_world}
use Rattle.pddl_meaning.specs.Truth.{is_true, is_valued}
use Rattle.pddl_meaning.specs.Truth.{holds as holds_lifted}
use Rattle.pddl_meaning.specs.Effects.{next_world, numeric_effects}
use Rattle.pddl_meaning.specs.Steps.{IsStep, is_ready}
use Rattle.pddl_meaning.proofs.Bounds.{true_both}
use Rattle.pddl_meaning.proofs.Members.{next_fact_after, next_value_after}
use Rattle.ground_task.specs.declared.raw.Ground.{Ground}
use Rattle.ground_task.specs.Meaning.{fact_value, fluent_value, holds}
use Rattle.ground_task.specs.States.{StateValue}
use Rattle.ground_task.specs.Steps.{Leads, StepLeads}
use Rattle.ground_task.specs.Tasks.{TaskValue}
use Rattle.ground_meaning.specs.Conditions.{as_condition, folded_condition}
use Rattle.ground_meaning.specs.Actions.{FoldedAction, coded_action, folded_action, folded_changes}
use Rattle.ground_meaning.specs.Outcomes.{kept}
use Rattle.ground_meaning.specs.Tasks.{IsGroundTask, IsRelevant, condition_facts, numbered_action}
use Rattle.ground_meaning.specs.Worlds.{IsNamed, StandsAt}
use Rattle.ground_meaning.proofs.BoundAtoms.{fixed_fact, fixed_value, pre_facts, pre_reads}
use Rattle.ground_meaning.proofs.ConditionFolds.{condition_fold_is_sound}
use Rattle.ground_meaning.proofs.GoalTruth.{if_is}
use Rattle.ground_meaning.proofs.KeptActions.{IsKept, action_parts}
use Rattle.ground_meaning.proofs.KeptSources.{binding_known, binding_tuple, kept_source}
use Rattle.ground_meaning.proofs.LegalArguments.{objects_named}
use Rattle.ground_meaning.proofs.LegalTuples.{get_map, legal_tuple, schema_found}
use Rattle.ground_meaning.proofs.Lists.{stands_left}
use Rattle.ground_meaning.proofs.Numbering.{holds_numbered}
use Rattle.ground_meaning.proofs.Readiness.{same_readiness}
use Rattle.ground_meaning.proofs.ReadyEffects.{GoodFact, GoodFluent, all_objects, fact_there, fluent_there}
use Rattle.ground_meaning.proofs.Standing.{fact_codes, fact_stands, fluent_codes, fluent_stands, state_facts, state_values}
use Rattle.ground_meaning.proofs.Stepping.{ready_parts, stands_next}
use Rattle.ground_meaning.proofs.Transition.{in_facts, task_action}
use Rattle.ground_meaning.proofs.ValuedChanges.{all_valued}

module _ (p : Pair) (readable : IsReadable p.domain p.problem) (formed : WellFormed p) (t : TaskValue) (task : IsGroundTask p t.raw)
    (s : Schema) (stands : Stands s p.domain.schemas) (os : List ℕ) (known : Each (λ o. o < length (objects_of p)) os) (as_many : length os ≡ length s.params)
    (action : FoldedAction) (is_kept : IsKept p task.folds.bound.none_refused s stands os action)
    (w : WorldValue) (st : StateValue) (at : StandsAt p t w st) where
  named : list_all is_name (names p os) ≡ true
  named = objects_named p (all_objects p readable) os known

  same : length (names p os) ≡ length s.params
  same = length-map os _ ∙ as_many

  -- where the task's precondition holds in the state, the action's holds in the world
  applies_back : is_ready s (names p os) w ≡ true → holds t.places st (task_action p readable formed t task s stands os known as_many action is_kept w st at).pre ≡ true
      → holds_lifted s.params (names p os) w s.pre ≡ true
  unfolding folded_action coded_action ground_text
  applies_back ready holding =
      let sound = condition_fold_is_sound p s.params (names p os) w (GoodFluent p readable formed s os known as_many) (GoodFact p readable formed s os known as_many)
      (fixed_value p readable formed (names p os) named w at.like side.Domain s.params same) (fixed_fact p readable formed (names p os) named w at.like side.Domain s.params same)
      s.pre true (pre_facts p readable formed s stands, pre_reads p readable formed s stands) (ready_parts s (names p os) w ready).0 in
      let here = if_is _ (folded_condition p s.params (names p os) s.pre true) action.condition
      (action_parts (folded_condition p s.params (names p os) s.pre true) (folded_changes p s.params (names p os) s.effects) action is_kept.folds).0 sound in
      let coded = coded_action p s (names p os) action in
      let truth = here.1 (state_facts p readable t task w st at) (state_values p readable t task w st at) (
        λ a good changed k.
            fact_stands p readable t task w st at (atom_of s.params (names p os) a) (fact_there p readable formed s os known as_many a good)
            (in_facts p readable formed t task s stands os known as_many action is_kept w st at _
            (stands_left _ (condition_facts coded.pre ++ coded.adds) coded.dels (stands_left _ (condition_facts coded.pre) coded.adds k))),
        λ a good changed k.
            fluent_stands p readable t task w st at (atom_of s.params (names p os) a) (fluent_there p readable formed s os known as_many a good)
            ((task.all_fluents.exactly _).1 (IsRelevant.in_precondition coded _ is_kept.kept k)),
      ) in
      true_both (is_valued s.params (names p os) w s.pre) (is_true s.params (names p os) w s.pre) here.0
      (sym truth ∙ sym (holds_numbered (fact_codes p readable t task) (fluent_codes p readable t task) (fact_value st) (fluent_value t.places st) (as_condition action.condition)) ∙ holding)

  abbrev pub next : WorldValue
  next = next_world s.params (names p os) w s.effects

  -- an action of the task that leads from the state is the pair's action of the binding
  pub back_bound : Stands os (tuples p s.params) → is_ready s (names p os) (initial_world p) ≡ true → (later : StateValue)
      → Leads t.places st (task_action p readable formed t task s stands os known as_many action is_kept w st at) later
      → IsStep p w s.name.text (names p os) (next_world s.params (names p os) w s.effects) × StandsAt p t (next_world s.params (names p os) w s.effects) later
  back_bound fitting ready_first later leads =
      let ready = same_readiness p s (names p os) w at.like ∙ ready_first in
      let parts = ready_parts s (names p os) w ready in
      let valued = all_valued p readable formed s stands os known as_many w at.like action is_kept.folds is_kept.all_set parts.1 parts.2 in
      let facts = λ (f : List ℕ). next_fact_after s.params (names p os) w.facts s.effects f in
      let values = λ (x : List ℕ). next_value_after s.params (names p os) w (numeric_effects s.params (names p os) s.effects) valued x in (
        record {
          action = s;
          named = schema_found p formed s stands;
          legal = legal_tuple p formed s.params os fitting;
          ready = ready;
          applies = applies_back ready leads.applies;
          valued = valued;
          facts = facts;
          values = values;
        },
        stands_next p readable formed t task s stands os known as_many w st at action is_kept next later ready valued facts values leads,
      )

-- a step of the task is a step of the pair by the action and the objects of its name, and to a world at the next state
pub step_comes_back : (p : Pair) → IsReadable p.domain p.problem → WellFormed p → (t : TaskValue) → IsGroundTask p t.raw
    → (w : WorldValue) (st : StateValue) (number : ℕ) (later : StateValue) → StandsAt p t w st → StepLeads t number st later
    → (name : List ℕ) × (objects : List (List ℕ)) × (next : WorldValue) × IsNamed t number name objects × IsStep p w name objects next × StandsAt p t next later
unfolding coded_action
step_comes_back p readable formed t task w st number later at (a, listed, leads) =
    let fs = fact_codes p readable t task in
    let xs = fluent_codes p readable t task in
    let found = get_map (numbered_action fs xs) (kept p) number a (sym (ap (λ (actions : List Ground). slice_get actions number) task.actions) ∙ listed) in
    let source = kept_source p found.0 found.1 in
    let s = source.schema in
    let os = source.objects in
    let reason = source.reason in
    let known = binding_known p s os source.bound in
    let is_kept : IsKept p task.folds.bound.none_refused s source.declared os reason.action = record {
      folds = reason.folds;
      undecided = reason.undecided;
      all_set = reason.all_set;
      kept = subst (λ (b : Ground). Stands b (kept p)) reason.is found.1;
    } in
    let same : a ≡ numbered_action fs xs (coded_action p s (names p os) reason.action) = found.2 ∙ ap (numbered_action fs xs) reason.is in
    let back = back_bound p readable formed t task s source.declared os known.0 known.1 reason.action is_kept w st at (binding_tuple p s os source.bound).0 reason.ready later
    (subst (λ (b : Ground). Leads t.places st b later) same leads) in
    (s.name.text, names p os, next_world s.params (names p os) w s.effects, (a, listed, ap (λ (b : Ground). b.name) same), back.0, back.1)
