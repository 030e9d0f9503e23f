-- The codes that kept actions and the goal name are those of facts and fluents of the pair, and what is read has a first value.
use Rattle.std.proofs.Common.{◌≡◌, ◌<◌, ◌++◌, ℕ, Bool, true, false, List, [], ◌∷◌, length, None, Ok, is_some, refl, sym, ap, subst, ◌∙◌, inl, inr}
use Rattle.std.specs.Prelude.{flat_map, not, if◌then◌else◌, ◌||◌}
use Rattle.std.specs.List.{list_all}
use Rattle.std.specs.FinMap as finite
use Rattle.std.proofs.lemmas.List.{length-map}
use Rattle.num_ends.specs.Names.{is_name}
use Rattle.pddl_terms.specs.declared.names.Atom.{Atom}
use Rattle.pddl_terms.specs.declared.actions.Effect.{Effect}
use Rattle.pddl_terms.specs.declared.actions.Effect.TheVariants as effect
use Rattle.pddl_terms.specs.declared.actions.Schema.{Schema}
use Rattle.pddl_terms.specs.declared.expressions.Expr.{Expr}
use Rattle.pddl_terms.specs.Readable.{IsReadable}
use Rattle.pddl_terms.specs.Texts.{ground_text}
use Rattle.pddl_types.specs.declared.faults.Side.TheVariants as side
use Rattle.pddl_types.specs.declared.pairs.Pair.{Pair}
use Rattle.pddl_types.specs.Contents.{all_read, condition_parts, expression_reads, fluent_changed, right_sides}
use Rattle.pddl_types.specs.Pairs.{objects_of}
use Rattle.pddl_types.specs.WellFormed.{Each, Stands, WellFormed}
use Rattle.static_facts.specs.Atoms.{atom_of, names, value_at_first}
use Rattle.static_facts.specs.Codes.{fact_code, fluent_code}
use Rattle.pddl_meaning.specs.Worlds.{initial_world}
use Rattle.pddl_meaning.specs.Values.{reads_defined}
use Rattle.pddl_meaning.specs.Effects.{are_effects_defined, is_effect_defined, numeric_effect_by, numeric_effects, reads_old}
use Rattle.pddl_meaning.proofs.Bounds.{both_true}
use Rattle.ground_task.specs.declared.raw.GExpr.{GExpr}
use Rattle.ground_task.specs.declared.raw.Change.{Change}
use Rattle.ground_task.specs.declared.raw.Change.TheVariants.{Add, Set}
use Rattle.ground_task.specs.declared.raw.Ground.{Ground}
use Rattle.ground_task.specs.Valid.{right_side}
use Rattle.ground_meaning.specs.Expressions.{as_expression}
use Rattle.ground_meaning.specs.Conditions.{Settled, as_condition, folded_condition}
use Rattle.ground_meaning.specs.Actions.{added_facts, as_numeric_effect, changes_from, coded_action, deleted_facts, folded_action, folded_changes}
use Rattle.ground_meaning.specs.Outcomes.{kept}
use Rattle.ground_meaning.specs.Goals.{folded_goal, unset_in_goal}
use Rattle.ground_meaning.specs.Tasks.{IsFact, IsFluent, IsRelevant, IsTaskFact, action_facts, condition_facts, condition_fluents, fluents_in}
use Rattle.ground_meaning.proofs.BoundAtoms.{IsBound, bound_names, changed_facts, changed_fluents, goal_facts, goal_reads, pre_facts, pre_reads, right_side_reads}
use Rattle.ground_meaning.proofs.CodedAtoms.{atom_there}
use Rattle.ground_meaning.proofs.DefinedReads.{HasValue, none_found, none_mapped}
use Rattle.ground_meaning.proofs.FoldedCodes.{IsChangeNaming, IsEffectThere, IsSettledNaming, added_naming, changes_naming, condition_naming, deleted_naming}
use Rattle.ground_meaning.proofs.GoalTruth.{few_function_parameters, few_predicate_parameters, if_is}
use Rattle.ground_meaning.proofs.InitialWorld.{initial_value}
use Rattle.ground_meaning.proofs.KeptActions.{action_parts}
use Rattle.ground_meaning.proofs.KeptSources.{IsSourceOf, binding_known, kept_source}
use Rattle.ground_meaning.proofs.LegalArguments.{objects_named}
use Rattle.ground_meaning.proofs.Lists.{each_both, each_flat, each_joined, each_mapped, each_more, each_stands}
use Rattle.ground_meaning.proofs.Names.{names_are_words}
use Rattle.ground_meaning.proofs.ReadValues.{HaveValues, condition_values, expression_values}
use Rattle.ground_meaning.proofs.ReadyEffects.{GoodFact, GoodFluent, all_objects, fact_there, fluent_there}
use Rattle.ground_meaning.proofs.Stepping.{ready_parts}

-- a number is the code of an atom
pub record IsCodeOf (IsAtom : List (List ℕ) → Type 0) (code : List (List ℕ) → ℕ) (n : ℕ) : Type 0 where
  pub atom : List (List ℕ)
  pub is_atom : IsAtom atom
  pub coded : code atom ≡ n

-- a fluent of the pair that has a first value
pub record IsSetFluent (p : Pair) (x : List (List ℕ)) : Type 0 where
  pub is_fluent : IsFluent p x
  pub set : is_some (value_at_first p x) ≡ true

abbrev pub IsFactCode : Pair → ℕ → Type 0
IsFactCode p = IsCodeOf (IsFact p) (fact_code p)

abbrev pub IsFluentCode : Pair → ℕ → Type 0
IsFluentCode p = IsCodeOf (IsFluent p) (fluent_code p)

-- the code of such a fluent
abbrev pub IsSetCode : Pair → ℕ → Type 0
IsSetCode p = IsCodeOf (IsSetFluent p) (fluent_code p)

pub set_is_fluent : (p : Pair) (n : ℕ) → IsSetCode p n → IsFluentCode p n
set_is_fluent p n is = record { atom = is.atom; is_atom = is.is_atom.is_fluent; coded = is.coded }

-- all that a ground action names are facts and fluents of the pair, and what it reads has first values
pub record AreNamed (p : Pair) (a : Ground) : Type 0 where
  pub facts : Each (IsFactCode p) (action_facts a)
  pub reads : Each (IsSetCode p) (condition_fluents a.pre)
  pub changes : Each (λ change. IsFluentCode p change.0 × Each (IsSetCode p) (fluents_in (right_side change.1))) a.nums

-- the right-hand side of a folded change is its value
side_of : (v : GExpr) (replaces : Bool) → right_side (if replaces then Set v else Add v) ≡ v
side_of v true = refl
side_of v false = refl

module _ (p : Pair) (readable : IsReadable p.domain p.problem) (formed : WellFormed p) where
  -- ---- kept actions

  module _ (s : Schema) (stands : Stands s p.domain.schemas) (os : List ℕ) (known : Each (λ o. o < length (objects_of p)) os) (as_many : length os ≡ length s.params) where
    named : list_all is_name (names p os) ≡ true
    named = objects_named p (all_objects p readable) os known

    same : length (names p os) ≡ length s.params
    same = length-map os _ ∙ as_many

    abbrev IsThere : Atom → Type 0
    IsThere a = IsFactCode p (fact_code p (atom_of s.params (names p os) a))

    abbrev IsReadThere : Atom → Type 0
    IsReadThere a = IsSetCode p (fluent_code p (atom_of s.params (names p os) a))

    abbrev IsDefined : Atom → Type 0
    IsDefined = HasValue s.params (names p os) (initial_world p)

    facts_code : (atoms : List Atom) → Each (GoodFact p readable formed s os known as_many) atoms → Each IsThere atoms
    facts_code atoms good = each_more _ IsThere atoms (λ a h. record { atom = atom_of s.params (names p os) a; is_atom = fact_there p readable formed s os known as_many a h; coded = refl }) good

    set_there : (a : Atom) → GoodFluent p readable formed s os known as_many a → IsDefined a → IsReadThere a
    unfolding ground_text
    set_there a good defined =
        let words = bound_names p readable formed (names p os) named side.Domain s.params p.domain.functions a same good in
        record {
          atom = atom_of s.params (names p os) a;
          is_atom = record {
            is_fluent = fluent_there p readable formed s os known as_many a good;
            set = ap is_some (sym (initial_value a.head.text _ (names_are_words (atom_of s.params (names p os) a) words) p readable.problem.values)) ∙ defined;
          };
          coded = refl;
        }

    reads_set : (x : Expr) → Each (GoodFluent p readable formed s os known as_many) (expression_reads x).all → HaveValues s.params (names p os) (initial_world p) x
        → Each IsReadThere (expression_reads x).all
    reads_set x good values = each_more _ IsReadThere (expression_reads x).all (λ a h. set_there a h.0 h.1) (each_both _ _ (expression_reads x).all good values)

    old_set : (a : Atom) → GoodFluent p readable formed s os known as_many a → (old there : Bool) → (not old || there) ≡ true → (there ≡ true → IsDefined a) → old ≡ true → IsReadThere a
    old_set a good true there h defined e = set_there a good (defined h)
    old_set a good false there h defined e = cc

    abbrev IsEffectNaming : Effect → Type 0
    IsEffectNaming = IsEffectThere p s.params (names p os) (IsFactCode p) (IsSetCode p) (IsFluentCode p)

    effects_there : (effects : List Effect) → Each (GoodFluent p readable formed s os known as_many) (flat_map fluent_changed effects)
        → Each (λ x. Each (GoodFluent p readable formed s os known as_many) (expression_reads x).all) (flat_map right_sides effects)
        → list_all (is_effect_defined s.params (names p os) (initial_world p)) (flat_map (numeric_effect_by s.params (names p os)) effects) ≡ true → Each IsEffectNaming effects
    effects_there [] good reads defined = tt
    effects_there (effect.Add a ∷ effects) good reads defined = (tt, effects_there effects good reads defined)
    effects_there (effect.Del a ∷ effects) good reads defined = (tt, effects_there effects good reads defined)
    effects_there (effect.Num how a x ∷ effects) good reads defined =
        let there = finite.contains_key (initial_world p).values (ground_text s.params (names p os) a) in
        let parts = both_true (is_effect_defined s.params (names p os) (initial_world p) (record { how = how; fluent = ground_text s.params (names p os) a; by = x }))
        (list_all (is_effect_defined s.params (names p os) (initial_world p)) (flat_map (numeric_effect_by s.params (names p os)) effects)) defined in
        let own = both_true (reads_defined s.params (names p os) (initial_world p) x) (not (reads_old how) || there) parts.0 in (
          (
            record { atom = atom_of s.params (names p os) a; is_atom = fluent_there p readable formed s os known as_many a good.0; coded = refl },
            old_set a good.0 (reads_old how) there own.1 (λ e. e),
            reads_set x reads.0 (expression_values s.params (names p os) (initial_world p) x own.0),
          ),
          effects_there effects good.1 reads.1 parts.1,
        )

    source_named : (a : Ground) → IsSourceOf p a s os → AreNamed p a
    unfolding folded_action folded_changes coded_action are_effects_defined numeric_effects
    source_named a source =
        let action = source.action in
        let defined = ready_parts s (names p os) (initial_world p) source.ready in
        let parts = action_parts (folded_condition p s.params (names p os) s.pre true) (changes_from p s.params (names p os) [] s.effects) action source.folds in
        let values = condition_values s.params (names p os) (initial_world p) s.pre defined.0 in
        let reads = each_more _ (λ x. Each IsReadThere (expression_reads x).all) (condition_parts s.pre).numbers (λ x h. reads_set x h.0 h.1)
        (each_both _ _ (condition_parts s.pre).numbers (pre_reads p readable formed s stands) values) in
        let condition = if_is (IsSettledNaming p s.params (names p os) (IsFactCode p) (IsSetCode p)) (folded_condition p s.params (names p os) s.pre true) action.condition parts.0
        (condition_naming p s.params (names p os) (IsFactCode p) (IsSetCode p) s.pre true (facts_code (condition_parts s.pre).facts (pre_facts p readable formed s stands), reads)) in
        let effects = effects_there s.effects (changed_fluents p readable formed s stands) (right_side_reads p readable formed s stands) defined.1 in
        let changes = if_is (Each (IsChangeNaming p s.params (names p os) (IsFactCode p) (IsSetCode p) (IsFluentCode p))) (changes_from p s.params (names p os) [] s.effects) action.changes parts.1
        (changes_naming p s.params (names p os) (IsFactCode p) (IsSetCode p) (IsFluentCode p) s.effects effects [] tt) in
        let changed = facts_code _ (changed_facts p readable formed s stands) in
        let before = condition_facts (as_condition action.condition) in
        let added = added_facts p s.params (names p os) s.effects in
        let deleted = deleted_facts p s.params (names p os) s.effects in
        subst (AreNamed p) (sym source.is) (record {
          facts = each_joined (IsFactCode p) (before ++ added) deleted
              (each_joined (IsFactCode p) before added condition.0 (added_naming p s.params (names p os) (IsFactCode p) (IsSetCode p) s.effects changed))
              (deleted_naming p s.params (names p os) (IsFactCode p) (IsSetCode p) s.effects changed);
          reads = condition.1;
          changes = each_mapped _ as_numeric_effect action.changes
              (each_more _ _ action.changes
              (λ change h. (h.0, subst (λ (g : GExpr). Each (IsSetCode p) (fluents_in g)) (sym (side_of (as_expression change.value) change.replaces)) h.1)) changes);
        })

  pub kept_named : (a : Ground) → Stands a (kept p) → AreNamed p a
  kept_named a there =
      let source = kept_source p a there in
      let bound = binding_known p source.schema source.objects source.bound in
      source_named source.schema source.declared source.objects bound.0 bound.1 a source.reason

  pub kept_fact_code : (a : Ground) → Stands a (kept p) → (f : ℕ) → Stands f (action_facts a) → IsCodeOf (IsFact p) (fact_code p) f
  kept_fact_code a there f s = each_stands (IsFactCode p) (action_facts a) f (kept_named a there).facts s

  kept_read : (a : Ground) → Stands a (kept p) → (x : ℕ) → Stands x (condition_fluents a.pre) → IsSetCode p x
  kept_read a there x s = each_stands (IsSetCode p) (condition_fluents a.pre) x (kept_named a there).reads s

  pub kept_fluent_code : (a : Ground) → Stands a (kept p) → (x : ℕ) → Stands x (condition_fluents a.pre) → IsCodeOf (IsFluent p) (fluent_code p) x
  kept_fluent_code a there x s = set_is_fluent p x (kept_read a there x s)

  pub kept_change_code : (a : Ground) → Stands a (kept p) → (y : ℕ) (change : Change) → Stands (y, change) a.nums → IsCodeOf (IsFluent p) (fluent_code p) y
  kept_change_code a there y change s = (each_stands _ a.nums (y, change) (kept_named a there).changes s).0

  kept_side : (a : Ground) → Stands a (kept p) → (y : ℕ) (change : Change) → Stands (y, change) a.nums → (x : ℕ) → Stands x (fluents_in (right_side change)) → IsSetCode p x
  kept_side a there y change s x r = each_stands (IsSetCode p) (fluents_in (right_side change)) x (each_stands _ a.nums (y, change) (kept_named a there).changes s).1 r

  pub kept_side_code : (a : Ground) → Stands a (kept p) → (y : ℕ) (change : Change) → Stands (y, change) a.nums → (x : ℕ) → Stands x (fluents_in (right_side change))
      → IsCodeOf (IsFluent p) (fluent_code p) x
  kept_side_code a there y change s x r = set_is_fluent p x (kept_side a there y change s x r)

  -- ---- the goal

  abbrev InGoal : Atom → Type 0
  InGoal = IsBound p readable formed side.Problem [] p.domain.functions

  abbrev IsSetInGoal : Atom → Type 0
  IsSetInGoal a = IsSetCode p (fluent_code p (atom_of [] [] a))

  goal_read : (a : Atom) → InGoal a → is_some (value_at_first p (atom_of [] [] a)) ≡ true → IsSetInGoal a
  goal_read a good set = record {
    atom = atom_of [] [] a;
    is_atom = record { is_fluent = atom_there p readable formed side.Problem [] [] refl tt p.domain.functions (few_function_parameters p readable formed) a good; set = set };
    coded = refl;
  }

  goal_values : unset_in_goal p ≡ None → Each (λ x. Each (λ a. is_some (value_at_first p (atom_of [] [] a)) ≡ true) (expression_reads x).all) (condition_parts p.problem.goal).numbers
  unfolding unset_in_goal
  goal_values none =
      each_flat (λ a. is_some (value_at_first p (atom_of [] [] a)) ≡ true) (λ (x : Expr). (expression_reads x).all) (condition_parts p.problem.goal).numbers
      (none_found (λ a. is_some (value_at_first p (atom_of [] [] a))) (all_read (condition_parts p.problem.goal).numbers) (none_mapped _ _ none))

  module _ (goal : Settled) (all_set : unset_in_goal p ≡ None) (folds : folded_goal p ≡ Ok goal) where
    -- all that the goal names are facts of the pair, and fluents that have first values
    pub goal_named : Each (IsFactCode p) (condition_facts (as_condition goal)) × Each (IsSetCode p) (condition_fluents (as_condition goal))
    unfolding folded_goal
    goal_named =
        if_is (IsSettledNaming p [] [] (IsFactCode p) (IsSetCode p)) (folded_condition p [] [] p.problem.goal true) goal folds
        (condition_naming p [] [] (IsFactCode p) (IsSetCode p) p.problem.goal true (
          each_more _ _ (condition_parts p.problem.goal).facts
              (λ a h. record { atom = atom_of [] [] a; is_atom = atom_there p readable formed side.Problem [] [] refl tt p.domain.predicates (few_predicate_parameters p readable formed) a h; coded = refl })
              (goal_facts p readable formed),
          each_more _ (λ x. Each IsSetInGoal (expression_reads x).all) (condition_parts p.problem.goal).numbers
              (λ x h. each_more _ IsSetInGoal (expression_reads x).all (λ a k. goal_read a k.0 k.1) (each_both _ _ (expression_reads x).all h.0 h.1))
              (each_both _ _ (condition_parts p.problem.goal).numbers (goal_reads p readable formed) (goal_values all_set)),
        ))

    pub goal_fact_code : (f : ℕ) → Stands f (condition_facts (as_condition goal)) → IsCodeOf (IsFact p) (fact_code p) f
    goal_fact_code f s = each_stands (IsFactCode p) (condition_facts (as_condition goal)) f goal_named.0 s

    pub goal_fluent_code : (x : ℕ) → Stands x (condition_fluents (as_condition goal)) → IsCodeOf (IsFluent p) (fluent_code p) x
    goal_fluent_code x s = set_is_fluent p x (each_stands (IsSetCode p) (condition_fluents (as_condition goal)) x goal_named.1 s)

    -- each fact of the task is a fact of the pair
    pub task_fact_code : (f : ℕ) → IsTaskFact p goal f → IsCodeOf (IsFact p) (fact_code p) f
    task_fact_code f (inl s) = goal_fact_code f s
    task_fact_code f (inr found) = kept_fact_code found.0 found.1 f found.2

    -- each relevant fluent has a first value
    pub relevant_set : (x : ℕ) → IsRelevant p goal x → IsSetCode p x
    relevant_set x (IsRelevant.in_goal y s) = each_stands (IsSetCode p) (condition_fluents (as_condition goal)) x goal_named.1 s
    relevant_set x (IsRelevant.in_precondition a y there s) = kept_read a there x s
    relevant_set x (IsRelevant.in_change a y change z there s relevant r) = kept_side a there y change s x r

    pub relevant_code : (x : ℕ) → IsRelevant p goal x → IsCodeOf (IsFluent p) (fluent_code p) x
    relevant_code x is = set_is_fluent p x (relevant_set x is)
