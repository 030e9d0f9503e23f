-- The first assigned fluent without a first value.
use Rattle.std.proofs.Common.{◌≡◌, ◌<◌, ◌++◌, ℕ, Bool, true, false, not, List, [], ◌∷◌, map, length, Option, Some, None, refl, sym, ap, subst, ◌∙◌, cond, slice_get}
use Rattle.std.specs.Prelude.{find, flat_map, is_some, option_map, if◌then◌else◌}
use Rattle.std.proofs.lemmas.List.{map-append}
use Rattle.pddl_terms.specs.declared.names.Atom.{Atom}
use Rattle.pddl_terms.specs.declared.names.Typed.{Typed}
use Rattle.pddl_terms.specs.declared.actions.Assign.TheVariants as how
use Rattle.pddl_terms.specs.declared.actions.Effect.{Effect}
use Rattle.pddl_terms.specs.declared.actions.Effect.TheVariants as effect
use Rattle.pddl_terms.specs.declared.actions.Schema.{Schema}
use Rattle.pddl_types.specs.declared.pairs.Pair.{Pair}
use Rattle.pddl_types.specs.Pairs.{objects_of}
use Rattle.pddl_types.specs.WellFormed.{Each}
use Rattle.static_facts.specs.Atoms.{atom_of, names, text_of_atom, value_at_first}
use Rattle.ground_meaning.specs.Outcomes.{first_unset, unset_by}
use Rattle.bound_actions.specs.declared.unset.Assigned.{Assigned}
use Rattle.bound_actions.specs.Patterns.{IsBoundBy, assigned, is_set_by, pattern, patterns}
use Rattle.bound_actions.specs.Assigned.{AreAssigned}
use Rattle.bound_actions.proofs.Members.{bound_patterns}

module _ (p : Pair) (params : List Typed) where
  pub mapped_assigned : (effects : List Effect) → flat_map (λ (d : Effect). patterns p params (assigned d)) effects ≡ patterns p params (flat_map assigned effects)
  mapped_assigned [] = refl
  mapped_assigned (d ∷ effects) =
      ap (λ (ys : List (Pair × List Typed × Atom)). patterns p params (assigned d) ++ ys) (mapped_assigned effects) ∙ sym (map-append (pattern p params) (assigned d) (flat_map assigned effects))

  module _ (os : List ℕ) where
    abbrev text_of : Atom → List ℕ
    text_of a = text_of_atom (atom_of params (names p os) a)

    abbrev unset_patterns : List Effect → Option (Pair × List Typed × Atom)
    unset_patterns effects = find (λ q. not (is_set_by os q)) (patterns p params (flat_map assigned effects))

    found_first : (effects : List Effect) → slice_get (flat_map (unset_by p params (names p os)) effects) 0 ≡ option_map (λ q. text_of q.2) (unset_patterns effects)
    found_first [] = refl
    found_first (effect.Add a ∷ effects) = found_first effects
    found_first (effect.Del a ∷ effects) = found_first effects
    found_first (effect.Num how.Up a x ∷ effects) = found_first effects
    found_first (effect.Num how.Down a x ∷ effects) = found_first effects
    found_first (effect.Num how.Scale a x ∷ effects) = found_first effects
    found_first (effect.Num how.Set a x ∷ effects) = by_test (is_some (value_at_first p (atom_of params (names p os) a))) (found_first effects)
      where
        by_test : (test : Bool) → slice_get (flat_map (unset_by p params (names p os)) effects) 0 ≡ option_map (λ q. text_of q.2) (unset_patterns effects)
            → slice_get ((if test then [] else text_of a ∷ []) ++ flat_map (unset_by p params (names p os)) effects) 0
            ≡ option_map (λ q. text_of q.2) (cond (not test) (Some (pattern p params a)) (unset_patterns effects))
        by_test true rest = rest
        by_test false rest = refl

    mapped_twice : (found : Option (Pair × List Typed × Atom)) → option_map (λ q. text_of q.2) found ≡ option_map text_of (option_map (λ (q : Pair × List Typed × Atom). q.2) found)
    mapped_twice None = refl
    mapped_twice (Some q) = refl

    -- the text of the first, by its atom
    pub unset_text : (effects : List Effect) (atom : Option Atom) → atom ≡ option_map (λ q. q.2) (unset_patterns effects) → option_map text_of atom ≡ first_unset p params (names p os) effects
    unfolding first_unset
    unset_text effects atom h = ap (option_map text_of) h ∙ sym (mapped_twice (unset_patterns effects)) ∙ sym (found_first effects)

pub assigned_looked : (p : Pair) (params : List Typed) (s : Schema) (slice : List Effect) (fluents : List Assigned) → params ≡ s.params → slice ≡ s.effects
    → map (λ (f : Assigned). f.fluent) fluents ≡ flat_map (λ (d : Effect). patterns p params (assigned d)) slice → map (λ (f : Assigned). f.fluent) fluents ≡ patterns p s.params (flat_map assigned s.effects)
assigned_looked p params s slice fluents same is h =
    h ∙ ap (flat_map (λ (d : Effect). patterns p params (assigned d))) is ∙ mapped_assigned p params s.effects ∙ ap (λ (ts : List Typed). patterns p ts (flat_map assigned s.effects)) same

-- what holds of each pattern holds of each fluent
each_fluent : (P : Pair × List Typed × Atom → Type 0) (fluents : List Assigned) → Each P (map (λ (f : Assigned). f.fluent) fluents) → Each (λ f. P f.fluent) fluents
each_fluent P [] h = tt
each_fluent P (f ∷ fluents) h = (h.0, each_fluent P fluents h.1)

module _ (p : Pair) (s : Schema) (w : Pair × Schema) (view : (p, s) ≡ w) (os : List ℕ) (fluents slice : List Assigned) (same : slice ≡ fluents) (is : AreAssigned p s fluents) where
  pub fluents_bound : length os ≡ length w.1.params → Each (λ o. o < length (objects_of w.0)) os → Each (λ (f : Assigned). IsBoundBy os f.fluent) slice
  fluents_bound as_many known =
      subst (Each (λ (f : Assigned). IsBoundBy os f.fluent)) (sym same)
      (each_fluent (IsBoundBy os) fluents (bound_patterns p s w view os (map (λ (f : Assigned). f.fluent) fluents) (flat_map assigned s.effects) is.of_effects as_many known))

  pub text_by_patterns : (atom : Option Atom) → atom ≡ option_map (λ q. q.2) (find (λ q. not (is_set_by os q)) (map (λ (f : Assigned). f.fluent) slice))
      → option_map (λ a. text_of_atom (atom_of s.params (names p os) a)) atom ≡ first_unset w.0 w.1.params (names w.0 os) w.1.effects
  text_by_patterns atom h =
      unset_text p s.params os s.effects atom
      (h ∙ ap (λ (qs : List (Pair × List Typed × Atom)). option_map (λ (q : Pair × List Typed × Atom). q.2) (find (λ q. not (is_set_by os q)) qs)) (ap (map (λ (f : Assigned). f.fluent)) same ∙ is.of_effects))
      ∙ ap (λ (z : Pair × Schema). first_unset z.0 z.1.params (names z.0 os) z.1.effects) view
