-- The codes of the facts that an action changes.
use Rattle.std.proofs.Common.{◌≡◌, ◌++◌, ℕ, List, [], ◌∷◌, map, refl, sym, ap, ◌∙◌}
use Rattle.std.specs.Prelude.{filter, flat_map, not}
use Rattle.std.proofs.lemmas.List.{map-append}
use Rattle.pddl_terms.specs.declared.names.Atom.{Atom}
use Rattle.pddl_terms.specs.declared.names.Typed.{Typed}
use Rattle.pddl_terms.specs.declared.actions.Effect.{Effect}
use Rattle.pddl_terms.specs.declared.actions.Effect.TheVariants as effect
use Rattle.pddl_terms.specs.declared.actions.Schema.{Schema}
use Rattle.pddl_types.specs.declared.pairs.Pair.{Pair}
use Rattle.static_facts.specs.Atoms.{names}
use Rattle.ground_meaning.specs.Actions.{added_fact, added_facts, deleted_fact, deleted_facts, each_once, is_listed}
use Rattle.bound_actions.specs.Patterns.{added, deleted, fact_code_by, pattern, patterns}

module _ (p : Pair) (params : List Typed) where
  pub mapped_added : (effects : List Effect) → flat_map (λ (d : Effect). patterns p params (added d)) effects ≡ patterns p params (flat_map added effects)
  mapped_added [] = refl
  mapped_added (d ∷ effects) =
      ap (λ (ys : List (Pair × List Typed × Atom)). patterns p params (added d) ++ ys) (mapped_added effects) ∙ sym (map-append (pattern p params) (added d) (flat_map added effects))

  pub mapped_deleted : (effects : List Effect) → flat_map (λ (d : Effect). patterns p params (deleted d)) effects ≡ patterns p params (flat_map deleted effects)
  mapped_deleted [] = refl
  mapped_deleted (d ∷ effects) =
      ap (λ (ys : List (Pair × List Typed × Atom)). patterns p params (deleted d) ++ ys) (mapped_deleted effects) ∙ sym (map-append (pattern p params) (deleted d) (flat_map deleted effects))

  module _ (os : List ℕ) where
    added_codes : (effects : List Effect) → map (fact_code_by os) (patterns p params (flat_map added effects)) ≡ flat_map (added_fact p params (names p os)) effects
    added_codes [] = refl
    added_codes (effect.Add a ∷ effects) = ap (λ (ys : List ℕ). fact_code_by os (pattern p params a) ∷ ys) (added_codes effects)
    added_codes (effect.Del a ∷ effects) = added_codes effects
    added_codes (effect.Num how a x ∷ effects) = added_codes effects

    deleted_codes : (effects : List Effect) → map (fact_code_by os) (patterns p params (flat_map deleted effects)) ≡ flat_map (deleted_fact p params (names p os)) effects
    deleted_codes [] = refl
    deleted_codes (effect.Add a ∷ effects) = deleted_codes effects
    deleted_codes (effect.Del a ∷ effects) = ap (λ (ys : List ℕ). fact_code_by os (pattern p params a) ∷ ys) (deleted_codes effects)
    deleted_codes (effect.Num how a x ∷ effects) = deleted_codes effects

    pub all_added : (effects : List Effect) → each_once [] (map (fact_code_by os) (patterns p params (flat_map added effects))) ≡ added_facts p params (names p os) effects
    unfolding added_facts
    all_added effects = ap (each_once []) (added_codes effects)

    pub all_deleted : (effects : List Effect)
        → filter (λ f. not (is_listed f (added_facts p params (names p os) effects))) (each_once [] (map (fact_code_by os) (patterns p params (flat_map deleted effects))))
        ≡ deleted_facts p params (names p os) effects
    unfolding deleted_facts
    all_deleted effects = ap (λ (codes : List ℕ). filter (λ f. not (is_listed f (added_facts p params (names p os) effects))) (each_once [] codes)) (deleted_codes effects)

-- ---- seen from the patterns of an action

pub adds_looked : (p : Pair) (params : List Typed) (s : Schema) (slice : List Effect) (items : List (Pair × List Typed × Atom)) → params ≡ s.params → slice ≡ s.effects
    → items ≡ flat_map (λ (d : Effect). patterns p params (added d)) slice → items ≡ patterns p s.params (flat_map added s.effects)
adds_looked p params s slice items same is h =
    h ∙ ap (flat_map (λ (d : Effect). patterns p params (added d))) is ∙ mapped_added p params s.effects ∙ ap (λ (ts : List Typed). patterns p ts (flat_map added s.effects)) same

pub dels_looked : (p : Pair) (params : List Typed) (s : Schema) (slice : List Effect) (items : List (Pair × List Typed × Atom)) → params ≡ s.params → slice ≡ s.effects
    → items ≡ flat_map (λ (d : Effect). patterns p params (deleted d)) slice → items ≡ patterns p s.params (flat_map deleted s.effects)
dels_looked p params s slice items same is h =
    h ∙ ap (flat_map (λ (d : Effect). patterns p params (deleted d))) is ∙ mapped_deleted p params s.effects ∙ ap (λ (ts : List Typed). patterns p ts (flat_map deleted s.effects)) same

module _ (p : Pair) (s : Schema) (w : Pair × Schema) (view : (p, s) ≡ w) (os : List ℕ) (slice : List (Pair × List Typed × Atom)) where
  pub added_by_patterns : slice ≡ patterns p s.params (flat_map added s.effects)
      → each_once [] (map (fact_code_by os) slice) ≡ added_facts w.0 w.1.params (names w.0 os) w.1.effects
  added_by_patterns is =
      ap (λ (qs : List (Pair × List Typed × Atom)). each_once [] (map (fact_code_by os) qs)) is ∙ all_added p s.params os s.effects
      ∙ ap (λ (z : Pair × Schema). added_facts z.0 z.1.params (names z.0 os) z.1.effects) view

  pub deleted_by_patterns : slice ≡ patterns p s.params (flat_map deleted s.effects) → (adds codes : List ℕ) → adds ≡ added_facts w.0 w.1.params (names w.0 os) w.1.effects
      → codes ≡ each_once [] (map (fact_code_by os) slice) → filter (λ f. not (is_listed f adds)) codes ≡ deleted_facts w.0 w.1.params (names w.0 os) w.1.effects
  deleted_by_patterns is adds codes there h =
      ap (λ (ns : List ℕ). filter (λ f. not (is_listed f ns)) codes) (there ∙ sym (ap (λ (z : Pair × Schema). added_facts z.0 z.1.params (names z.0 os) z.1.effects) view))
      ∙ ap (filter (λ f. not (is_listed f (added_facts p s.params (names p os) s.effects)))) (h ∙ ap (λ (qs : List (Pair × List Typed × Atom)). each_once [] (map (fact_code_by os) qs)) is)
      ∙ all_deleted p s.params os s.effects ∙ ap (λ (z : Pair × Schema). deleted_facts z.0 z.1.params (names z.0 os) z.1.effects) view
