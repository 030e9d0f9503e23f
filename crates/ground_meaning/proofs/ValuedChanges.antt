-- Each fluent that a kept action changes has a value afterwards, also one that the task leaves out.
use Rattle.std.proofs.Common.{◌≡◌, ◌<◌, ℕ, Bool, true, List, [], ◌∷◌, length, Option, Some, None, refl, sym, ap, ◌∙◌, is_some, inl, inr}
use Rattle.std.specs.Prelude.{flat_map, Ok}
use Rattle.std.specs.List.{list_all}
use Rattle.std.specs.FinMap as finite
use Rattle.std.proofs.lemmas.List.{length-map}
use Rattle.num_ends.specs.Decimal.{Decimal}
use Rattle.num_ends.specs.Names.{is_name}
use Rattle.pddl_terms.specs.declared.names.Atom.{Atom}
use Rattle.pddl_terms.specs.declared.actions.Effect.{Effect}
use Rattle.pddl_terms.specs.declared.actions.Effect.TheVariants as effect
use Rattle.pddl_terms.specs.declared.actions.Schema.{Schema}
use Rattle.pddl_terms.specs.declared.expressions.Op.TheVariants as op
use Rattle.pddl_terms.specs.Texts.{ground_text}
use Rattle.pddl_terms.specs.Readable.{IsReadable}
use Rattle.pddl_types.specs.declared.faults.Side.TheVariants as side
use Rattle.pddl_types.specs.declared.pairs.Pair.{Pair}
use Rattle.pddl_types.specs.Contents.{fluent_changed}
use Rattle.pddl_types.specs.Pairs.{objects_of}
use Rattle.pddl_types.specs.WellFormed.{Each, Stands, WellFormed}
use Rattle.static_facts.specs.Atoms.{atom_of, names, text_of_atom}
use Rattle.static_facts.specs.Codes.{fluent_code}
use Rattle.pddl_meaning.specs.Worlds.{WorldValue}
use Rattle.pddl_meaning.specs.Values.{combined, exactly, value_of}
use Rattle.pddl_meaning.specs.Effects.{NumericEffect, are_compatible, are_effects_defined, are_effects_valued, changed_value, effects_on, is_joined, joined_sum, next_value, numeric_effect_by, numeric_effects}
use Rattle.pddl_meaning.proofs.Bounds.{both_true, true_both}
use Rattle.ground_meaning.specs.Expressions.{Operand}
use Rattle.ground_meaning.specs.Conditions.{folded_condition}
use Rattle.ground_meaning.specs.Actions.{FoldedAction, FoldedChange, changes_from, folded_action, folded_changes}
use Rattle.ground_meaning.specs.Outcomes.{first_unset}
use Rattle.ground_meaning.specs.Worlds.{IsLike}
use Rattle.ground_meaning.proofs.BoundAtoms.{changed_fluents, fixed_value, member_passes, right_side_reads}
use Rattle.ground_meaning.proofs.EffectAtoms.{compatible_plain, functions_change}
use Rattle.ground_meaning.proofs.ExpressionFolds as expressions
use Rattle.ground_meaning.proofs.GoalTruth.{if_is}
use Rattle.ground_meaning.proofs.KeptActions.{action_parts}
use Rattle.ground_meaning.proofs.LegalArguments.{objects_named}
use Rattle.ground_meaning.proofs.LikeNext.{none_first, set_before}
use Rattle.ground_meaning.proofs.Lists.{each_stands}
use Rattle.ground_meaning.proofs.NextValues.{Made, change_at, changes_made}
use Rattle.ground_meaning.proofs.ReadyEffects.{GoodFluent, all_objects, effects_ready, fluent_there}
use Rattle.ground_meaning.proofs.Transition.{joined_value, single_value}

-- ---- lists

all_pass : {A : Type 0} (test : A → Bool) (xs : List A) → ((x : A) → Stands x xs → test x ≡ true) → list_all test xs ≡ true
all_pass test [] h = refl
all_pass test (x ∷ xs) h = true_both (test x) (list_all test xs) (h x (inl refl)) (all_pass test xs (λ y s. h y (inr s)))

-- a sum of what has a value has one
sum_valued : (x y : Option Decimal) → is_some x ≡ true → is_some y ≡ true → is_some (combined exactly op.Add x y) ≡ true
sum_valued None y h k = cc
sum_valued (Some a) None h k = cc
sum_valued (Some a) (Some b) h k = ap is_some (expressions.is_sum.exact a b)

-- the atom of a numeric effect
changed_atom : (s : Schema) (args : List (List ℕ)) (effects : List Effect) (c : NumericEffect) → Stands c (flat_map (numeric_effect_by s.params args) effects)
    → (a : Atom) × Stands a (flat_map fluent_changed effects) × (c.fluent ≡ ground_text s.params args a)
changed_atom s args [] c there = elim there [ ]
changed_atom s args (effect.Add a ∷ effects) c there = changed_atom s args effects c there
changed_atom s args (effect.Del a ∷ effects) c there = changed_atom s args effects c there
changed_atom s args (effect.Num h a x ∷ effects) c (inl e) = (a, inl refl, ap (λ (d : NumericEffect). d.fluent) e)
changed_atom s args (effect.Num h a x ∷ effects) c (inr r) = let rest = changed_atom s args effects c r in (rest.0, inr rest.1, rest.2)

module _ (p : Pair) (readable : IsReadable p.domain p.problem) (formed : WellFormed p) (s : Schema) (stands : Stands s p.domain.schemas)
    (os : List ℕ) (known : Each (λ o. o < length (objects_of p)) os) (as_many : length os ≡ length s.params) (w : WorldValue) (like : IsLike p w)
    (action : FoldedAction) (folds : folded_action p s (names p os) ≡ Ok action) (all_set : first_unset p s.params (names p os) s.effects ≡ None)
    (defined : are_effects_defined s.params (names p os) w (numeric_effects s.params (names p os) s.effects) ≡ true)
    (compatible : are_compatible (numeric_effects s.params (names p os) s.effects) ≡ true) where
  named : list_all is_name (names p os) ≡ true
  named = objects_named p (all_objects p readable) os known

  same : length (names p os) ≡ length s.params
  same = length-map os _ ∙ as_many

  abbrev changes : List NumericEffect
  changes = flat_map (numeric_effect_by s.params (names p os)) s.effects

  had_value : (c : NumericEffect) → Stands c changes → is_some (finite.get w.values c.fluent) ≡ true
  unfolding first_unset are_effects_defined numeric_effects
  had_value c there =
      member_passes (λ (d : NumericEffect). finite.contains_key w.values d.fluent) changes c
      (set_before p readable formed s stands (names p os) named same w like s.effects (changed_fluents p readable formed s stands) (none_first _ all_set) defined) there

  abbrev OfEffects : List ℕ → List NumericEffect → Option FoldedChange → Type 0
  OfEffects =
      Made p s.params (names p os) w (GoodFluent p readable formed s os known as_many) (fixed_value p readable formed (names p os) named w like side.Domain s.params same)

  -- the folded changes do what the effects on a fluent do
  made : (a : Atom) → GoodFluent p readable formed s os known as_many a
      → OfEffects (text_of_atom (atom_of s.params (names p os) a)) (effects_on (text_of_atom (atom_of s.params (names p os) a)) changes) (change_at (fluent_code p (atom_of s.params (names p os) a)) action.changes)
  unfolding are_effects_defined numeric_effects folded_action folded_changes
  made a good =
      let y = atom_of s.params (names p os) a in
      let text = text_of_atom y in
      let n = fluent_code p y in
      let parts = action_parts (folded_condition p s.params (names p os) s.pre true) (changes_from p s.params (names p os) [] s.effects) action folds in
      let ready = effects_ready p readable formed s os known as_many named same w like y (fluent_there p readable formed s os known as_many a good) s.effects
      (changed_fluents p readable formed s stands) (functions_change p s stands) (right_side_reads p readable formed s stands) defined in
      if_is (λ ds. OfEffects text (effects_on text changes) (change_at n ds)) (changes_from p s.params (names p os) [] s.effects) action.changes parts.1
      (changes_made p s.params (names p os) w (GoodFluent p readable formed s os known as_many) (fixed_value p readable formed (names p os) named w like side.Domain s.params same)
      n text s.effects ready [] [] tt (compatible_plain text changes compatible))

  matches_some : (v : Operand) (x : Option Decimal)
      → expressions.Matches p s.params (names p os) w (GoodFluent p readable formed s os known as_many) (fixed_value p readable formed (names p os) named w like side.Domain s.params same) v x → is_some x ≡ true
  matches_some v x h =
      (expressions.matches_gives p s.params (names p os) w (GoodFluent p readable formed s os known as_many) (fixed_value p readable formed (names p os) named w like side.Domain s.params same) v x h).0

  made_some : (text : List ℕ) (on : List NumericEffect) (found : Option FoldedChange) → OfEffects text on found → is_some (finite.get w.values text) ≡ true
      → is_some (changed_value exactly s.params (names p os) w text on) ≡ true
  made_some text [] None h old = old
  made_some text [] (Some c) h old = elim h [ ]
  made_some text (e ∷ rest) None h old = elim h [ ]
  made_some text (e ∷ rest) (Some c) (inl g) old =
      ap is_some (joined_value exactly e.how (finite.get w.values text) (value_of s.params (names p os) w e.by) (joined_sum exactly s.params (names p os) w e rest) (both_true (is_joined e.how) _ g.1).0)
      ∙ sum_valued (finite.get w.values text) (joined_sum exactly s.params (names p os) w e rest) old (matches_some c.value _ g.2)
  made_some text (e ∷ rest) (Some c) (inr r) old =
      ap is_some (single_value exactly e.how (finite.get w.values text) (value_of s.params (names p os) w e.by) (joined_sum exactly s.params (names p os) w e rest) None r.2)
      ∙ matches_some c.value _ r.3

  one_valued : (c : NumericEffect) → Stands c changes → is_some (next_value exactly s.params (names p os) w changes c.fluent) ≡ true
  unfolding ground_text
  one_valued c there =
      let at = changed_atom s (names p os) s.effects c there in
      let good = each_stands (GoodFluent p readable formed s os known as_many) (flat_map fluent_changed s.effects) at.0 (changed_fluents p readable formed s stands) at.1 in
      let text = text_of_atom (atom_of s.params (names p os) at.0) in
      ap (λ (u : List ℕ). is_some (next_value exactly s.params (names p os) w changes u)) at.2
      ∙ made_some text (effects_on text changes) (change_at (fluent_code p (atom_of s.params (names p os) at.0)) action.changes) (made at.0 good)
      (sym (ap (λ (u : List ℕ). is_some (finite.get w.values u)) at.2) ∙ had_value c there)

  pub all_valued : are_effects_valued exactly s.params (names p os) w (numeric_effects s.params (names p os) s.effects) ≡ true
  unfolding are_effects_valued numeric_effects
  all_valued = all_pass (λ (c : NumericEffect). is_some (next_value exactly s.params (names p os) w changes c.fluent)) changes one_valued
