-- What a kept action does to the facts and fluents of the task is what its effects do.
use Rattle.std.proofs.Common.{◌≡◌, ◌<◌, ◌&&◌, ◌||◌, ◌==◌, ◌++◌, ℕ, zero, suc, Bool, true, false, not, List, [], ◌∷◌, map, length, Option, Some, None, slice_index_or, refl, sym, ap, ap₂, subst, ◌∙◌, inl, inr, arith, cond, eqb-true, eq-eqb}
use Rattle.std.specs.Prelude.{filter, flat_map, option_map, if◌then◌else◌}
use Rattle.std.specs.List.{list_all}
use Rattle.std.specs.FinSet as set
use Rattle.std.specs.FinMap as finite
use Rattle.std.proofs.lemmas.List.{length-map}
use Rattle.std.proofs.lemmas.Option.{same_Some}
use Rattle.num_ends.specs.Decimal.{Decimal, trimmed}
use Rattle.num_ends.specs.Names.{is_name}
use Rattle.num_ends.proofs.Trimmed.{sum_of_trimmed}
use Rattle.pddl_terms.specs.declared.actions.Assign.{Assign}
use Rattle.pddl_terms.specs.declared.actions.Assign.TheVariants as how
use Rattle.pddl_terms.specs.declared.actions.Schema.{Schema}
use Rattle.pddl_terms.specs.declared.expressions.Op.TheVariants as op
use Rattle.pddl_terms.specs.Texts.{ground_text}
use Rattle.pddl_terms.specs.Readable.{IsReadable}
use Rattle.name_table.specs.Tables.{is_text_among}
use Rattle.pddl_types.specs.declared.faults.Side.TheVariants as side
use Rattle.pddl_types.specs.declared.pairs.Pair.{Pair}
use Rattle.pddl_types.specs.Pairs.{objects_of}
use Rattle.pddl_types.specs.WellFormed.{Each, Stands, WellFormed}
use Rattle.static_facts.specs.Atoms.{atom_of, names, text_of_atom}
use Rattle.static_facts.specs.Codes.{fact_code, fluent_code}
use Rattle.pddl_meaning.specs.Worlds.{WorldValue}
use Rattle.pddl_meaning.specs.Values.{combined, exactly, value_of}
use Rattle.pddl_meaning.specs.Effects.{NumericEffect, added_by, deleted_by, are_compatible, are_effects_defined, changed_value, effects_on, is_joined, joined_sum, next_value, numeric_effects, value_after}
use Rattle.pddl_meaning.specs.Steps.{next_fact}
use Rattle.pddl_meaning.proofs.Bounds.{both_true}
use Rattle.ground_task.specs.declared.raw.GExpr.{GExpr}
use Rattle.ground_task.specs.declared.raw.Change.{Change}
use Rattle.ground_task.specs.declared.raw.Change.TheVariants.{Add, Set}
use Rattle.ground_task.specs.declared.raw.Ground.{Ground}
use Rattle.ground_task.specs.Meaning.{fact_value, fluent_value}
use Rattle.ground_task.specs.Meaning.{value_of as value_at}
use Rattle.ground_task.specs.States.{StateValue}
use Rattle.ground_task.specs.Steps.{change_of, changed_fact}
use Rattle.ground_task.specs.Steps.{changed_value as changed_at}
use Rattle.ground_task.specs.Tasks.{TaskValue}
use Rattle.ground_task.specs.Valid.{right_side}
use Rattle.ground_meaning.specs.Expressions.{Operand, as_expression}
use Rattle.ground_meaning.specs.Actions.{FoldedAction, FoldedChange, added_facts, as_numeric_effect, changes_from, coded_action, deleted_facts, folded_action, folded_changes, is_listed}
use Rattle.ground_meaning.specs.Conditions.{folded_condition}
use Rattle.ground_meaning.specs.Tasks.{IsGroundTask, IsRelevant, action_facts, condition_facts, fluents_in, number_in, numbered_action, numbered_change, numbered_effects, numbered_expression}
use Rattle.ground_meaning.specs.Worlds.{StandsAt}
use Rattle.ground_meaning.proofs.BoundAtoms.{changed_facts, changed_fluents, fixed_value, right_side_reads}
use Rattle.ground_meaning.proofs.EffectAtoms.{compatible_plain, functions_change}
use Rattle.ground_meaning.proofs.ExpressionFolds as expressions
use Rattle.ground_meaning.proofs.GoalTruth.{if_is}
use Rattle.ground_meaning.proofs.KeptActions.{IsKept, action_parts, stands_map}
use Rattle.ground_meaning.proofs.LegalArguments.{objects_named}
use Rattle.ground_meaning.proofs.Lists.{each_where, stands_left, stands_right}
use Rattle.ground_meaning.proofs.NextFacts.{fact_by_number, number_told}
use Rattle.ground_meaning.proofs.NextValues.{Made, change_at, changes_made}
use Rattle.ground_meaning.proofs.Numbering.{value_numbered}
use Rattle.ground_meaning.proofs.ReadyEffects.{GoodFluent, all_objects, effects_ready, facts_told, fluent_there}
use Rattle.ground_meaning.proofs.Standing.{as_many_facts, fact_codes, fact_text, fluent_codes, fluent_stands, fluent_text, as_many_fluents, state_values}

-- ---- lists

pub stands_index : {A : Type 0} (xs : List A) (n : ℕ) (d : A) → n < length xs → Stands (slice_index_or xs n d) xs
stands_index [] n d h = absurd (omega (arith, h))
stands_index (x ∷ xs) zero d h = inl refl
stands_index (x ∷ xs) (suc n) d h = inr (stands_index xs n d (omega (arith, h)))

pub listed_stands : (n : ℕ) (ns : List ℕ) → is_listed n ns ≡ true → Stands n ns
listed_stands n [] h = cc
listed_stands n (m ∷ ns) h = by_test (m == n) refl h (λ k. listed_stands n ns k)
  where
    by_test : (t : Bool) → (m == n) ≡ t → (t || is_listed n ns) ≡ true → (is_listed n ns ≡ true → Stands n ns) → Stands n (m ∷ ns)
    by_test true e k more = inl (sym (eqb-true m n e))
    by_test false e k more = inr (more k)

pub stands_listed : (n : ℕ) (ns : List ℕ) → Stands n ns → is_listed n ns ≡ true
stands_listed n [] s = elim s [ ]
stands_listed n (m ∷ ns) (inl e) = ap (λ (b : Bool). b || is_listed n ns) (eq-eqb m n (sym e))
stands_listed n (m ∷ ns) (inr s) = ap (λ (b : Bool). (m == n) || b) (stands_listed n ns s) ∙ or_true (m == n)
  where
    or_true : (b : Bool) → (b || true) ≡ true
    or_true true = refl
    or_true false = refl

change_there : (n : ℕ) (cs : List FoldedChange) (c : FoldedChange) → change_at n cs ≡ Some c → Stands c cs × (c.fluent ≡ n)
change_there n [] c h = cc
change_there n (d ∷ cs) c h = by_test (d.fluent == n) refl h (λ k. change_there n cs c k)
  where
    by_test : (t : Bool) → (d.fluent == n) ≡ t → cond t (Some d) (change_at n cs) ≡ Some c → (change_at n cs ≡ Some c → Stands c cs × (c.fluent ≡ n)) → Stands c (d ∷ cs) × (c.fluent ≡ n)
    by_test true e k more = let same = same_Some d c k in (inl (sym same), sym (ap (λ (u : FoldedChange). u.fluent) same) ∙ eqb-true d.fluent n e)
    by_test false e k more = let rest = more k in (inr rest.0, rest.1)

-- the first change of a fluent by its number
change_numbered : (codes : List ℕ) (x n : ℕ) → Stands n codes → ((m : ℕ) → Stands m codes → (number_in codes m == x) ≡ (m == n)) → (cs : List FoldedChange)
    → change_of x (numbered_effects codes (map as_numeric_effect cs)) ≡ option_map (λ c. numbered_change codes (as_numeric_effect c).1) (change_at n cs)
change_numbered codes x n there told [] = refl
change_numbered codes x n there told (c ∷ cs) = by_test (is_listed c.fluent codes) refl (change_numbered codes x n there told cs)
  where
    of_number : (t : Bool) → (c.fluent == n) ≡ t → (number_in codes c.fluent == x) ≡ t
        → change_of x (numbered_effects codes (map as_numeric_effect cs)) ≡ option_map (λ c. numbered_change codes (as_numeric_effect c).1) (change_at n cs)
        → (if number_in codes c.fluent == x then Some (numbered_change codes (as_numeric_effect c).1) else change_of x (numbered_effects codes (map as_numeric_effect cs)))
        ≡ option_map (λ c. numbered_change codes (as_numeric_effect c).1) (cond (c.fluent == n) (Some c) (change_at n cs))
    of_number true e k rest =
        ap (λ (t : Bool). if t then Some (numbered_change codes (as_numeric_effect c).1) else change_of x (numbered_effects codes (map as_numeric_effect cs))) k
        ∙ sym (ap (λ (t : Bool). option_map (λ c. numbered_change codes (as_numeric_effect c).1) (cond t (Some c) (change_at n cs))) e)
    of_number false e k rest =
        ap (λ (t : Bool). if t then Some (numbered_change codes (as_numeric_effect c).1) else change_of x (numbered_effects codes (map as_numeric_effect cs))) k ∙ rest
        ∙ sym (ap (λ (t : Bool). option_map (λ c. numbered_change codes (as_numeric_effect c).1) (cond t (Some c) (change_at n cs))) e)

    not_this : is_listed c.fluent codes ≡ false → (t : Bool) → (c.fluent == n) ≡ t → t ≡ false
    not_this none true e = let bad = sym none ∙ ap (λ (m : ℕ). is_listed m codes) (eqb-true c.fluent n e) ∙ stands_listed n codes there in cc
    not_this none false e = refl

    by_test : (t : Bool) → is_listed c.fluent codes ≡ t
        → change_of x (numbered_effects codes (map as_numeric_effect cs)) ≡ option_map (λ c. numbered_change codes (as_numeric_effect c).1) (change_at n cs)
        → change_of x (map (λ m. (number_in codes m.0, numbered_change codes m.1)) (cond t (as_numeric_effect c ∷ filter (λ m. is_listed m.0 codes) (map as_numeric_effect cs)) (filter (λ m. is_listed m.0 codes) (map as_numeric_effect cs))))
        ≡ option_map (λ c. numbered_change codes (as_numeric_effect c).1) (cond (c.fluent == n) (Some c) (change_at n cs))
    by_test true is rest = of_number (c.fluent == n) refl (told c.fluent (listed_stands c.fluent codes is)) rest
    by_test false is rest = rest ∙ sym (ap (λ (t : Bool). option_map (λ c. numbered_change codes (as_numeric_effect c).1) (cond t (Some c) (change_at n cs))) (not_this is (c.fluent == n) refl))

pub single_value : (operate : _) (h : Assign) (old x sum other : Option Decimal) → is_joined h ≡ false → value_after operate h old x sum ≡ value_after operate h old x other
single_value operate how.Set old x sum other single = refl
single_value operate how.Up old x sum other single = cc
single_value operate how.Down old x sum other single = cc
single_value operate how.Scale old x sum other single = refl

pub joined_value : (operate : _) (h : Assign) (old x sum : Option Decimal) → is_joined h ≡ true → value_after operate h old x sum ≡ combined operate op.Add old sum
joined_value operate how.Set old x sum joined = cc
joined_value operate how.Up old x sum joined = refl
joined_value operate how.Down old x sum joined = refl
joined_value operate how.Scale old x sum joined = cc

module _ (p : Pair) (readable : IsReadable p.domain p.problem) (formed : WellFormed p) (t : TaskValue) (task : IsGroundTask p t.raw)
    (s : Schema) (stands : Stands s p.domain.schemas) (os : List ℕ) (known : Each (λ o. o < length (objects_of p)) os) (as_many : length os ≡ length s.params)
    (action : FoldedAction) (is_kept : IsKept p task.folds.bound.none_refused s stands os action)
    (w : WorldValue) (st : StateValue) (at : StandsAt p t w st) where
  abbrev args : List (List ℕ)
  args = names p os

  named : list_all is_name (names p os) ≡ true
  named = objects_named p (all_objects p readable) os known

  same : length (names p os) ≡ length s.params
  same = length-map os _ ∙ as_many

  abbrev codes : List ℕ
  codes = fluent_codes p readable t task

  -- the action with codes, and the task's action
  abbrev coded : Ground
  coded = coded_action p s (names p os) action

  abbrev pub task_action : Ground
  task_action = numbered_action (fact_codes p readable t task) (fluent_codes p readable t task) (coded_action p s (names p os) action)

  pub in_facts : (n : ℕ) → Stands n (action_facts (coded_action p s (names p os) action)) → Stands n (fact_codes p readable t task)
  in_facts n there = (task.all_facts.exactly n).1 (inr (coded_action p s (names p os) action, is_kept.kept, there))

  -- ---- facts

  pub next_fact_stands : (f : ℕ) → f < length task.facts → changed_fact st task_action f ≡ next_fact s (names p os) w (text_of_atom (slice_index_or task.facts f []))
  unfolding coded_action
  next_fact_stands f within =
      let y = slice_index_or task.facts f [] in
      let is = task.all_facts.are_atoms f [] within in
      let before = condition_facts (coded_action p s (names p os) action).pre in
      let added = added_facts p s.params (names p os) s.effects in
      let deleted = deleted_facts p s.params (names p os) s.effects in
      fact_by_number (fact_code p) task.facts task.all_facts.rising f within p s.params (names p os) (text_of_atom y) s.effects (fact_value st f)
      (facts_told p readable formed s os known as_many y is _ (changed_facts p readable formed s stands))
      (each_where (λ n. Stands n (fact_codes p readable t task)) added (λ n k. in_facts n (stands_left n (before ++ added) deleted (stands_right n before added k))))
      (each_where (λ n. Stands n (fact_codes p readable t task)) deleted (λ n k. in_facts n (stands_right n (before ++ added) deleted k)))
      ∙ ap (λ (b : Bool). is_text_among (text_of_atom y) (flat_map (added_by s.params (names p os)) s.effects) || (b && not (is_text_among (text_of_atom y) (flat_map (deleted_by s.params (names p os)) s.effects))))
      (sym (at.facts f (omega (arith, within, as_many_facts p readable t task))) ∙ ap (set.contains w.facts) (fact_text p readable t task f within))

  -- ---- fluents

  abbrev Values : (ℕ → Decimal) → List ℕ → Type 0
  Values = expressions.HasValues p s.params (names p os) w (GoodFluent p readable formed s os known as_many) (fixed_value p readable formed (names p os) named w at.like side.Domain s.params same)

  module _ (x : ℕ) (within : x < length task.fluents) where
    abbrev n : ℕ
    n = fluent_code p (slice_index_or task.fluents x [])

    abbrev text : List ℕ
    text = text_of_atom (slice_index_or task.fluents x [])

    n_listed : Stands (fluent_code p (slice_index_or task.fluents x [])) (fluent_codes p readable t task)
    n_listed = stands_map (fluent_code p) task.fluents (slice_index_or task.fluents x []) (stands_index task.fluents x [] within)

    -- what a change reads has the state's values
    change_read : (change : FoldedChange) (new : Change) → Stands change action.changes → as_numeric_effect change ≡ (n, new) → (g : GExpr) → (right_side new ≡ g)
        → Values (state_values p readable t task w st at) (fluents_in g)
    unfolding coded_action ground_text
    change_read change new there effect g right a good changed reads =
        fluent_stands p readable t task w st at (atom_of s.params (names p os) a) (fluent_there p readable formed s os known as_many a good)
        ((task.all_fluents.exactly _).1
        (IsRelevant.in_change (coded_action p s (names p os) action) n new _ is_kept.kept
        (subst (λ e. Stands e (map as_numeric_effect action.changes)) effect (stands_map as_numeric_effect action.changes change there))
        ((task.all_fluents.exactly n).0 n_listed) (subst (λ (h : GExpr). Stands (fluent_code p (atom_of s.params (names p os) a)) (fluents_in h)) (sym right) reads)))

    abbrev changes : List NumericEffect
    changes = numeric_effects s.params (names p os) s.effects

    abbrev OfEffects : List NumericEffect → Option FoldedChange → Type 0
    OfEffects =
        Made p s.params (names p os) w (GoodFluent p readable formed s os known as_many) (fixed_value p readable formed (names p os) named w at.like side.Domain s.params same)
        (text_of_atom (slice_index_or task.fluents x []))

    made : are_effects_defined s.params (names p os) w (numeric_effects s.params (names p os) s.effects) ≡ true → are_compatible (numeric_effects s.params (names p os) s.effects) ≡ true
        → OfEffects (effects_on text changes) (change_at n action.changes)
    unfolding are_effects_defined numeric_effects folded_action folded_changes
    made defined compatible =
        let parts = action_parts (folded_condition p s.params (names p os) s.pre true) (changes_from p s.params (names p os) [] s.effects) action is_kept.folds in
        let ready = effects_ready p readable formed s os known as_many named same w at.like (slice_index_or task.fluents x []) (task.all_fluents.are_atoms x [] within) s.effects
        (changed_fluents p readable formed s stands) (functions_change p s stands) (right_side_reads p readable formed s stands) defined in
        if_is (λ ds. OfEffects (effects_on text changes) (change_at n ds)) (changes_from p s.params (names p os) [] s.effects) action.changes parts.1
        (changes_made p s.params (names p os) w (GoodFluent p readable formed s os known as_many) (fixed_value p readable formed (names p os) named w at.like side.Domain s.params same)
        n text s.effects ready [] [] tt (compatible_plain text changes compatible))

    change_is : change_of x task_action.nums ≡ option_map (λ (c : FoldedChange). numbered_change codes (as_numeric_effect c).1) (change_at n action.changes)
    unfolding coded_action
    change_is = change_numbered codes x n n_listed (λ m k. number_told (fluent_code p) task.fluents task.all_fluents.rising x within m k) action.changes

    old_value : finite.get w.values text ≡ Some (trimmed (fluent_value t.places st x))
    old_value = sym (ap (finite.get w.values) (fluent_text p readable t task x within)) ∙ at.fluents x (omega (arith, within, as_many_fluents p readable t task))

    abbrev by_code : ℕ → Decimal
    by_code = state_values p readable t task w st at

    gives : (v : Operand) (z : Option Decimal)
        → expressions.Matches p s.params (names p os) w (GoodFluent p readable formed s os known as_many) (fixed_value p readable formed (names p os) named w at.like side.Domain s.params same) v z
        → Values by_code (fluents_in (as_expression v)) → z ≡ Some (trimmed (value_at t.places st (numbered_expression codes (as_expression v))))
    gives v z h reads =
        (expressions.matches_gives p s.params (names p os) w (GoodFluent p readable formed s os known as_many) (fixed_value p readable formed (names p os) named w at.like side.Domain s.params same) v z h).1 by_code reads
        ∙ ap (λ (d : Decimal). Some (trimmed d)) (sym (value_numbered codes (fluent_value t.places st) (as_expression v)))

    of_made : (on : List NumericEffect) (found : Option FoldedChange) → change_at n action.changes ≡ found → OfEffects on found
        → changed_value exactly s.params (names p os) w text on ≡ Some (trimmed (changed_at t.places st x (option_map (λ (c : FoldedChange). numbered_change codes (as_numeric_effect c).1) found)))
    of_made [] None is h = old_value
    of_made [] (Some c) is h = elim h [ ]
    of_made (e ∷ rest) None is h = elim h [ ]
    of_made (e ∷ rest) (Some c) is (inl g) =
        let there = change_there n action.changes c is in
        let effect = ap₂ (λ (m : ℕ) (r : Bool). (m, if r then Set (as_expression c.value) else Add (as_expression c.value))) there.1 g.0 in
        let sum = gives c.value (joined_sum exactly s.params (names p os) w e rest) g.2 (change_read c (Add (as_expression c.value)) there.0 effect (as_expression c.value) refl) in
        let added = value_at t.places st (numbered_expression codes (as_expression c.value)) in
        joined_value exactly e.how (finite.get w.values text) (value_of s.params (names p os) w e.by) (joined_sum exactly s.params (names p os) w e rest) (both_true (is_joined e.how) _ g.1).0
        ∙ ap₂ (combined exactly op.Add) old_value sum ∙ expressions.is_sum.exact (trimmed (fluent_value t.places st x)) (trimmed added)
        ∙ ap Some (sum_of_trimmed (fluent_value t.places st x) added)
        ∙ ap (λ (d : ℕ × Change). Some (trimmed (changed_at t.places st x (Some (numbered_change codes d.1))))) (sym effect)
    of_made (e ∷ rest) (Some c) is (inr r) =
        let there = change_there n action.changes c is in
        let effect = ap₂ (λ (m : ℕ) (b : Bool). (m, if b then Set (as_expression c.value) else Add (as_expression c.value))) there.1 r.0 in
        single_value exactly e.how (finite.get w.values text) (value_of s.params (names p os) w e.by) (joined_sum exactly s.params (names p os) w e rest) None r.2
        ∙ gives c.value _ r.3 (change_read c (Set (as_expression c.value)) there.0 effect (as_expression c.value) refl)
        ∙ ap (λ (d : ℕ × Change). Some (trimmed (changed_at t.places st x (Some (numbered_change codes d.1))))) (sym effect)

    -- the value of a fluent of the task after the action
    pub next_value_stands : are_effects_defined s.params (names p os) w (numeric_effects s.params (names p os) s.effects) ≡ true → are_compatible (numeric_effects s.params (names p os) s.effects) ≡ true
        → next_value exactly s.params (names p os) w (numeric_effects s.params (names p os) s.effects) (text_of_atom (slice_index_or task.fluents x [])) ≡ Some (trimmed (changed_at t.places st x (change_of x task_action.nums)))
    next_value_stands defined compatible =
        of_made (effects_on text changes) (change_at n action.changes) refl (made defined compatible)
        ∙ ap (λ (c : Option Change). Some (trimmed (changed_at t.places st x c))) (sym change_is)
