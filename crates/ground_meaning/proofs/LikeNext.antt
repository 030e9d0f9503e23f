-- After an action of the pair a world is still like the initial one.
use Rattle.std.proofs.Common.{◌≡◌, ◌&&◌, ◌||◌, ◌++◌, ◌⊎◌, ℕ, Bool, true, false, not, List, [], ◌∷◌, map, length, None, refl, sym, ap, ap₂, ◌∙◌, is_some, inl, inr, cond}
use Rattle.std.specs.Prelude.{bytes_eq, flat_map, slice_get, if◌then◌else◌}
use Rattle.std.specs.List.{list_all}
use Rattle.std.specs.FinSet as set
use Rattle.std.specs.FinMap as finite
use Rattle.std.proofs.lemmas.Slice.Eq.{bytes_eq-Decides}
use Rattle.num_ends.specs.Names.{is_name}
use Rattle.pddl_terms.specs.declared.names.Atom.{Atom}
use Rattle.pddl_terms.specs.declared.names.Sig.{Sig}
use Rattle.pddl_terms.specs.declared.actions.Assign.TheVariants as how
use Rattle.pddl_terms.specs.declared.actions.Effect.{Effect}
use Rattle.pddl_terms.specs.declared.actions.Effect.TheVariants as effect
use Rattle.pddl_terms.specs.declared.actions.Schema.{Schema}
use Rattle.pddl_terms.specs.Texts.{argument_text, ground_text}
use Rattle.pddl_terms.specs.Readable.{IsReadable}
use Rattle.name_table.specs.Tables.{is_text_among}
use Rattle.pddl_types.specs.declared.faults.Side.TheVariants as side
use Rattle.pddl_types.specs.declared.pairs.Pair.{Pair}
use Rattle.pddl_types.specs.Contents.{fact_changed, fluent_changed}
use Rattle.pddl_types.specs.WellFormed.{Each, Stands, WellFormed}
use Rattle.static_facts.specs.Atoms.{atom_of, names, text_of_atom, value_at_first}
use Rattle.static_facts.specs.Fixed.{is_fixed_function, is_fixed_predicate}
use Rattle.pddl_meaning.specs.Worlds.{WorldValue}
use Rattle.pddl_meaning.specs.Values.{exactly, reads_defined}
use Rattle.pddl_meaning.specs.Effects.{NumericEffect, added_by, are_effects_defined, are_effects_valued, changed_value, deleted_by, effects_on, is_effect_defined, next_value, numeric_effect_by, numeric_effects}
use Rattle.pddl_meaning.specs.Steps.{next_fact}
use Rattle.pddl_meaning.proofs.Bounds.{both_true, true_both}
use Rattle.ground_meaning.specs.Outcomes.{first_unset, unset_by}
use Rattle.ground_meaning.specs.Worlds.{IsLike}
use Rattle.ground_meaning.proofs.BoundAtoms.{IsBound, bound_names, changed_facts, changed_fluents, member_passes}
use Rattle.ground_meaning.proofs.EffectAtoms.{functions_change, predicates_change}
use Rattle.ground_meaning.proofs.InitialWorld.{initial_value}
use Rattle.ground_meaning.proofs.Names.{names_are_words, same_words}

-- ---- lists

pub none_first : {A : Type 0} (xs : List A) → slice_get xs 0 ≡ None → xs ≡ []
none_first [] h = refl
none_first (x ∷ xs) h = cc

one_on : (text : List ℕ) (changes : List NumericEffect) → (effects_on text changes ≡ []) ⊎ ((c : NumericEffect) × Stands c changes × (text ≡ c.fluent))
one_on text [] = inl refl
one_on text (c ∷ cs) = by_test (bytes_eq text c.fluent) refl (one_on text cs)
  where
    by_test : (t : Bool) → bytes_eq text c.fluent ≡ t → ((effects_on text cs ≡ []) ⊎ ((d : NumericEffect) × Stands d cs × (text ≡ d.fluent)))
        → (cond t (c ∷ effects_on text cs) (effects_on text cs) ≡ []) ⊎ ((d : NumericEffect) × Stands d (c ∷ cs) × (text ≡ d.fluent))
    by_test true same rest = inr (c, inl refl, (bytes_eq-Decides text c.fluent).0 same)
    by_test false same (inl none) = inl none
    by_test false same (inr d) = inr (d.0, inr d.1, d.2)

is_false : (b : Bool) → (b ≡ true → ⊥) → b ≡ false
is_false true h = absurd (h refl)
is_false false h = refl

unchanged_fact : (added deleted old : Bool) → added ≡ false → deleted ≡ false → (added || (old && not deleted)) ≡ old
unchanged_fact false false true a d = refl
unchanged_fact false false false a d = refl
unchanged_fact true deleted old a d = cc
unchanged_fact false true old a d = cc

module _ (p : Pair) (readable : IsReadable p.domain p.problem) (formed : WellFormed p) (s : Schema) (stands : Stands s p.domain.schemas)
    (args : List (List ℕ)) (named : list_all is_name args ≡ true) (same : length args ≡ length s.params) (w : WorldValue) (like : IsLike p w) where
  abbrev GoodFact : Atom → Type 0
  GoodFact = IsBound p readable formed side.Domain s.params p.domain.predicates

  abbrev GoodFluent : Atom → Type 0
  GoodFluent = IsBound p readable formed side.Domain s.params p.domain.functions

  -- the text of an atom with another head is another one
  other_text : (fixed : List ℕ → Bool) (head : List ℕ) (objects : List (List ℕ)) → list_all is_name (head ∷ objects) ≡ true → fixed head ≡ true → (sigs : List Sig) (a : Atom)
      → IsBound p readable formed side.Domain s.params sigs a → fixed a.head.text ≡ false → bytes_eq (text_of_atom (head ∷ objects)) (ground_text s.params args a) ≡ false
  unfolding ground_text
  other_text fixed head objects names is sigs a good changed =
      is_false _ (λ e.
      let atoms = same_words head objects a.head.text (map (argument_text s.params args) a.args) (names_are_words (head ∷ objects) names)
      (names_are_words (atom_of s.params args a) (bound_names p readable formed args named side.Domain s.params sigs a same good))
      ((bytes_eq-Decides (text_of_atom (head ∷ objects)) (ground_text s.params args a)).0 e) in
      let heads : head ≡ a.head.text = ap first_of atoms in
      let bad = sym is ∙ ap fixed heads ∙ changed in cc)
    where
      first_of : List (List ℕ) → List ℕ
      first_of [] = []
      first_of (x ∷ xs) = x

  module _ (head : List ℕ) (objects : List (List ℕ)) (names : list_all is_name (head ∷ objects) ≡ true) where
    not_added : is_fixed_predicate p head ≡ true → (effects : List Effect) → Each GoodFact (flat_map fact_changed effects) → Each (λ a. is_fixed_predicate p a.head.text ≡ false) (flat_map fact_changed effects)
        → is_text_among (text_of_atom (head ∷ objects)) (flat_map (added_by s.params args) effects) ≡ false
    not_added is [] good changed = refl
    not_added is (effect.Add a ∷ effects) good changed =
        ap₂ (λ (b c : Bool). b || c) (other_text (is_fixed_predicate p) head objects names is p.domain.predicates a good.0 changed.0) (not_added is effects good.1 changed.1)
    not_added is (effect.Del a ∷ effects) good changed = not_added is effects good.1 changed.1
    not_added is (effect.Num h a x ∷ effects) good changed = not_added is effects good changed

    not_deleted : is_fixed_predicate p head ≡ true → (effects : List Effect) → Each GoodFact (flat_map fact_changed effects) → Each (λ a. is_fixed_predicate p a.head.text ≡ false) (flat_map fact_changed effects)
        → is_text_among (text_of_atom (head ∷ objects)) (flat_map (deleted_by s.params args) effects) ≡ false
    not_deleted is [] good changed = refl
    not_deleted is (effect.Add a ∷ effects) good changed = not_deleted is effects good.1 changed.1
    not_deleted is (effect.Del a ∷ effects) good changed =
        ap₂ (λ (b c : Bool). b || c) (other_text (is_fixed_predicate p) head objects names is p.domain.predicates a good.0 changed.0) (not_deleted is effects good.1 changed.1)
    not_deleted is (effect.Num h a x ∷ effects) good changed = not_deleted is effects good changed

    not_on : is_fixed_function p head ≡ true → (effects : List Effect) → Each GoodFluent (flat_map fluent_changed effects) → Each (λ a. is_fixed_function p a.head.text ≡ false) (flat_map fluent_changed effects)
        → effects_on (text_of_atom (head ∷ objects)) (flat_map (numeric_effect_by s.params args) effects) ≡ []
    not_on is [] good changed = refl
    not_on is (effect.Add a ∷ effects) good changed = not_on is effects good changed
    not_on is (effect.Del a ∷ effects) good changed = not_on is effects good changed
    not_on is (effect.Num h a x ∷ effects) good changed =
        ap (λ (t : Bool). cond t (record { how = h; fluent = ground_text s.params args a; by = x } ∷ effects_on (text_of_atom (head ∷ objects)) (flat_map (numeric_effect_by s.params args) effects))
        (effects_on (text_of_atom (head ∷ objects)) (flat_map (numeric_effect_by s.params args) effects)))
        (other_text (is_fixed_function p) head objects names is p.domain.functions a good.0 changed.0) ∙ not_on is effects good.1 changed.1

  -- each changed fluent has a value before
  pub set_before : (effects : List Effect) → Each GoodFluent (flat_map fluent_changed effects) → flat_map (unset_by p s.params args) effects ≡ []
      → list_all (is_effect_defined s.params args w) (flat_map (numeric_effect_by s.params args) effects) ≡ true
      → list_all (λ (c : NumericEffect). finite.contains_key w.values c.fluent) (flat_map (numeric_effect_by s.params args) effects) ≡ true
  unfolding ground_text
  set_before [] good unset defined = refl
  set_before (effect.Add a ∷ effects) good unset defined = set_before effects good unset defined
  set_before (effect.Del a ∷ effects) good unset defined = set_before effects good unset defined
  set_before (effect.Num how.Up a x ∷ effects) good unset defined =
      let parts = both_true (is_effect_defined s.params args w (record { how = how.Up; fluent = ground_text s.params args a; by = x })) _ defined in
      true_both _ _ (both_true (reads_defined s.params args w x) _ parts.0).1 (set_before effects good.1 unset parts.1)
  set_before (effect.Num how.Down a x ∷ effects) good unset defined =
      let parts = both_true (is_effect_defined s.params args w (record { how = how.Down; fluent = ground_text s.params args a; by = x })) _ defined in
      true_both _ _ (both_true (reads_defined s.params args w x) _ parts.0).1 (set_before effects good.1 unset parts.1)
  set_before (effect.Num how.Scale a x ∷ effects) good unset defined =
      let parts = both_true (is_effect_defined s.params args w (record { how = how.Scale; fluent = ground_text s.params args a; by = x })) _ defined in
      true_both _ _ (both_true (reads_defined s.params args w x) _ parts.0).1 (set_before effects good.1 unset parts.1)
  set_before (effect.Num how.Set a x ∷ effects) good unset defined =
      by_test (is_some (value_at_first p (atom_of s.params args a))) refl unset (λ k. set_before effects good.1 k (both_true (is_effect_defined s.params args w (record { how = how.Set; fluent = ground_text s.params args a; by = x })) _ defined).1)
    where
      by_test : (t : Bool) → is_some (value_at_first p (atom_of s.params args a)) ≡ t
          → (if t then [] else text_of_atom (atom_of s.params args a) ∷ []) ++ flat_map (unset_by p s.params args) effects ≡ []
          → (flat_map (unset_by p s.params args) effects ≡ [] → list_all (λ (c : NumericEffect). finite.contains_key w.values c.fluent) (flat_map (numeric_effect_by s.params args) effects) ≡ true)
          → (finite.contains_key w.values (ground_text s.params args a) && list_all (λ (c : NumericEffect). finite.contains_key w.values c.fluent) (flat_map (numeric_effect_by s.params args) effects)) ≡ true
      by_test true is k more =
          let names = bound_names p readable formed args named side.Domain s.params p.domain.functions a same good.0 in
          let at_first = ap is_some (initial_value a.head.text (map (argument_text s.params args) a.args) (names_are_words (atom_of s.params args a) names) p readable.problem.values) in
          true_both _ _ (like.defined (ground_text s.params args a) ∙ at_first ∙ is) (more k)
      by_test false is k more = cc

  pub like_next : (next : WorldValue) → first_unset p s.params args s.effects ≡ None → are_effects_defined s.params args w (numeric_effects s.params args s.effects) ≡ true
      → are_effects_valued exactly s.params args w (numeric_effects s.params args s.effects) ≡ true
      → ((f : List ℕ) → set.contains next.facts f ≡ next_fact s args w f)
      → ((x : List ℕ) → finite.get next.values x ≡ next_value exactly s.params args w (numeric_effects s.params args s.effects) x) → IsLike p next
  unfolding first_unset are_effects_defined are_effects_valued numeric_effects
  like_next next unset defined valued facts values = record {
    fixed_facts = λ head objects names is.
        facts (text_of_atom (head ∷ objects))
        ∙ unchanged_fact _ _ (set.contains w.facts (text_of_atom (head ∷ objects)))
        (not_added head objects names is s.effects (changed_facts p readable formed s stands) (predicates_change p s stands))
        (not_deleted head objects names is s.effects (changed_facts p readable formed s stands) (predicates_change p s stands))
        ∙ like.fixed_facts head objects names is;
    fixed_values = λ head objects names is.
        values (text_of_atom (head ∷ objects))
        ∙ ap (changed_value exactly s.params args w (text_of_atom (head ∷ objects))) (not_on head objects names is s.effects (changed_fluents p readable formed s stands) (functions_change p s stands))
        ∙ like.fixed_values head objects names is;
    defined = λ x. ap is_some (values x) ∙ by_effects x (one_on x (flat_map (numeric_effect_by s.params args) s.effects)) ∙ like.defined x;
  }
    where
      by_effects : (x : List ℕ) → ((effects_on x (flat_map (numeric_effect_by s.params args) s.effects) ≡ []) ⊎ ((c : NumericEffect) × Stands c (flat_map (numeric_effect_by s.params args) s.effects) × (x ≡ c.fluent)))
          → is_some (next_value exactly s.params args w (flat_map (numeric_effect_by s.params args) s.effects) x) ≡ finite.contains_key w.values x
      by_effects x (inl none) = ap (λ (on : List NumericEffect). is_some (changed_value exactly s.params args w x on)) none
      by_effects x (inr c) =
          ap (λ (t : List ℕ). is_some (next_value exactly s.params args w (flat_map (numeric_effect_by s.params args) s.effects) t)) c.2
          ∙ member_passes (λ (d : NumericEffect). is_some (next_value exactly s.params args w (flat_map (numeric_effect_by s.params args) s.effects) d.fluent)) (flat_map (numeric_effect_by s.params args) s.effects) c.0 valued c.1
          ∙ sym (ap (finite.contains_key w.values) c.2
          ∙ member_passes (λ (d : NumericEffect). finite.contains_key w.values d.fluent) (flat_map (numeric_effect_by s.params args) s.effects) c.0
          (set_before s.effects (changed_fluents p readable formed s stands) (none_first _ unset) defined) c.1)
