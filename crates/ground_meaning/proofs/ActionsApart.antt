-- Kept actions are few, and no two have one text.
use Rattle.std.proofs.Common.{◌≡◌, ◌≢◌, ◌≤◌, ◌+◌, ℕ, suc, Bool, true, false, List, [], ◌∷◌, map, length, Some, None, refl, sym, ap, subst, ◌∙◌, inl, inr, arith, le-leb}
use Rattle.std.specs.Prelude.{filter_map, nat_le, if◌then◌else◌}
use Rattle.std.specs.List.{list_all, range_with_len}
use Rattle.std.proofs.lemmas.Bool.{cases_lt}
use Rattle.num_ends.specs.Names.{IsGroundText, is_name}
use Rattle.pddl_terms.specs.declared.names.Name.{Name}
use Rattle.pddl_terms.specs.declared.names.Typed.{Typed}
use Rattle.pddl_terms.specs.declared.actions.Schema.{Schema}
use Rattle.pddl_terms.specs.declared.limits.What.TheVariants as what
use Rattle.pddl_terms.specs.declared.limits.TheConstants.{MAX_ACTIONS, MAX_PREFIXES}
use Rattle.pddl_terms.specs.Readable.{IsReadable, IsReadableSchema}
use Rattle.type_order.specs.Types.{is_within}
use Rattle.pddl_types.specs.declared.pairs.Pair.{Pair}
use Rattle.pddl_types.specs.Pairs.{objects_of, schema_names}
use Rattle.pddl_types.specs.WellFormed.{AreDistinct, Each, Stands, WellFormed, texts_of}
use Rattle.static_facts.specs.Atoms.{names, text_of_atom}
use Rattle.static_facts.specs.Bindings.{bindings, fitting, kind_of, prefix_count, prefixes_of, survives, tuples}
use Rattle.static_facts.specs.Codes.{object_number}
use Rattle.pddl_meaning.proofs.Bounds.{both_true, true_both}
use Rattle.ground_task.specs.declared.raw.Ground.{Ground}
use Rattle.ground_meaning.specs.declared.faults.GroundFault.TheVariants as fault
use Rattle.ground_meaning.specs.Actions.{coded_action}
use Rattle.ground_meaning.specs.Outcomes.{Outcome, first_refused, kept, kept_in, outcome, outcomes, schema_outcomes}
use Rattle.ground_meaning.specs.Outcomes.Outcome.{Dropped, Kept, Refused}
use Rattle.ground_meaning.proofs.BoundAtoms.{all_at}
use Rattle.ground_meaning.proofs.CodeNumbers.{same_objects}
use Rattle.ground_meaning.proofs.KeptActions.{stands_map}
use Rattle.ground_meaning.proofs.KeptSources.{IsSourceOf, binding_known, kept_source, outcome_source, schema_source}
use Rattle.ground_meaning.proofs.LegalArguments.{objects_named}
use Rattle.ground_meaning.proofs.Lists.{all_of_each, each_where}
use Rattle.ground_meaning.proofs.Names.{AreWords, names_are_words, same_words}
use Rattle.ground_meaning.proofs.Pairs.{Apart, apart_filtered, apart_flat, apart_mapped, apart_more, range_apart}
use Rattle.ground_meaning.proofs.ReadyEffects.{all_objects}

-- ---- few actions

kept_within : (count : ℕ) (os : List Outcome) → count ≤ MAX_ACTIONS → first_refused count os ≡ None → count + length (filter_map kept_in os) ≤ MAX_ACTIONS
kept_within count [] few none = omega (arith, few)
kept_within count (Dropped ∷ os) few none = kept_within count os few none
kept_within count (Refused f ∷ os) few none = cc
kept_within count (Kept a ∷ os) few none = by_test (nat_le MAX_ACTIONS count) refl none (λ less k. kept_within (suc count) os less k)
  where
    below : nat_le MAX_ACTIONS count ≡ false → suc count ≤ MAX_ACTIONS
    below is =
        elim (cases_lt count MAX_ACTIONS) [
          | inl less ↦ omega (arith, less)
          | inr more ↦ let bad = sym is ∙ le-leb MAX_ACTIONS count more in cc
        ]

    by_test : (test : Bool) → nat_le MAX_ACTIONS count ≡ test → (if test then Some (fault.TooMany what.Actions MAX_ACTIONS) else first_refused (suc count) os) ≡ None
        → (suc count ≤ MAX_ACTIONS → first_refused (suc count) os ≡ None → suc count + length (filter_map kept_in os) ≤ MAX_ACTIONS)
        → count + suc (length (filter_map kept_in os)) ≤ MAX_ACTIONS
    by_test true is k more = cc
    by_test false is k more = let rest = more (below is) k in omega (arith, rest)

pub few_kept : (p : Pair) → first_refused 0 (outcomes p) ≡ None → length (kept p) ≤ MAX_ACTIONS
unfolding kept
few_kept p none = let few = kept_within 0 (outcomes p) (omega arith) none in omega (arith, few)

-- ---- bindings are apart

same_head : (x y : ℕ) (xs ys : List ℕ) → x ∷ xs ≡ y ∷ ys → x ≡ y
same_head x y xs ys h = ap (λ (zs : List ℕ). head_or zs) h
  where
    head_or : List ℕ → ℕ
    head_or [] = 0
    head_or (z ∷ zs) = z

same_tail : (x y : ℕ) (xs ys : List ℕ) → x ∷ xs ≡ y ∷ ys → xs ≡ ys
same_tail x y xs ys h = ap (λ (zs : List ℕ). tail_of zs) h
  where
    tail_of : List ℕ → List ℕ
    tail_of [] = []
    tail_of (z ∷ zs) = zs

module _ (p : Pair) where
  begins_with : (o : ℕ) (qs : List (List ℕ)) (os : List ℕ) → Stands os (map (λ os. o ∷ os) qs) → (rest : List ℕ) × (os ≡ o ∷ rest)
  begins_with o [] os s = elim s [ ]
  begins_with o (q ∷ qs) os (inl e) = (q, e)
  begins_with o (q ∷ qs) os (inr s) = begins_with o qs os s

  tuples_apart : (params : List Typed) → Apart (λ os qs. os ≢ qs) (tuples p params)
  tuples_apart [] = (tt, tt)
  tuples_apart (t ∷ params) =
      apart_flat (λ (os qs : List ℕ). os ≢ qs) (λ o. map (λ os. o ∷ os) (tuples p params)) (fitting p t)
      (each_where _ (fitting p t) (λ o s. apart_mapped (λ (os qs : List ℕ). os ≢ qs) (λ (os : List ℕ). o ∷ os) (tuples p params)
      (apart_more _ _ (tuples p params) (λ os qs k r other same. other (same_tail o o os qs same)) (tuples_apart params))))
      (apart_more _ _ (fitting p t)
      (λ o q s r other u v k m same.
      let first = begins_with o (tuples p params) u k in
      let second = begins_with q (tuples p params) v m in
      other (same_head o q first.0 second.0 (sym first.1 ∙ same ∙ second.1)))
      (apart_filtered (λ (o q : ℕ). o ≢ q) (λ o. is_within p.domain.types (kind_of p o) t.kind.text) (range_with_len 0 (length (objects_of p))) (range_apart 0 (length (objects_of p)))))

  bindings_apart : (s : Schema) → Apart (λ os qs. os ≢ qs) (bindings p s)
  unfolding prefixes_of
  bindings_apart s = apart_filtered (λ (os qs : List ℕ). os ≢ qs) (survives p s) _ (tuples_apart _)

-- ---- texts are apart

-- of two outcomes that are kept, the texts differ
abbrev OutcomesApart : Outcome → Outcome → Type 0
OutcomesApart o q = (a b : Ground) → o ≡ Kept a → q ≡ Kept b → a.name ≢ b.name

abbrev TextsApart : Ground → Ground → Type 0
TextsApart a b = a.name ≢ b.name

kept_apart_from : (a : Ground) (os : List Outcome) → Each (OutcomesApart (Kept a)) os → Each (TextsApart a) (filter_map kept_in os)
kept_apart_from a [] h = tt
kept_apart_from a (Dropped ∷ os) h = kept_apart_from a os h.1
kept_apart_from a (Kept b ∷ os) h = (h.0 a b refl refl, kept_apart_from a os h.1)
kept_apart_from a (Refused f ∷ os) h = kept_apart_from a os h.1

all_kept_apart : (os : List Outcome) → Apart OutcomesApart os → Apart TextsApart (filter_map kept_in os)
all_kept_apart [] h = tt
all_kept_apart (Dropped ∷ os) h = all_kept_apart os h.1
all_kept_apart (Kept a ∷ os) h = (kept_apart_from a os h.0, all_kept_apart os h.1)
all_kept_apart (Refused f ∷ os) h = all_kept_apart os h.1

distinct_apart_by : (ss : List Schema) → AreDistinct (texts_of (schema_names ss)) → Apart (λ s z. s.name.text ≢ z.name.text) ss
distinct_apart_by [] h = tt
distinct_apart_by (s ∷ ss) h = (
  each_where _ ss (λ z k same. h.0 (subst (λ (text : List ℕ). Stands text (texts_of (schema_names ss))) (sym same)
      (stands_map (λ (n : Name). n.text) (schema_names ss) z.name (stands_map (λ (u : Schema). u.name) ss z k)))),
  distinct_apart_by ss h.1,
)

module _ (p : Pair) (readable : IsReadable p.domain p.problem) (formed : WellFormed p) where
  -- the text of an action under a binding
  abbrev text_under : Schema → List ℕ → List ℕ
  text_under s os = text_of_atom (s.name.text ∷ names p os)

  source_text : (a : Ground) (s : Schema) (os : List ℕ) → IsSourceOf p a s os → a.name ≡ text_under s os
  unfolding coded_action
  source_text a s os source = ap (λ (b : Ground). b.name) source.is

  schema_named : (s : Schema) → Stands s p.domain.schemas → is_name s.name.text ≡ true
  schema_named s stands = (both_true (is_name s.name.text) _ (all_at IsReadableSchema p.domain.schemas s readable.domain.schemas stands).name).0

  binding_named : (s : Schema) (os : List ℕ) → Stands os (bindings p s) → list_all is_name (names p os) ≡ true
  binding_named s os there = objects_named p (all_objects p readable) os (binding_known p s os there).0

  words : (s : Schema) → Stands s p.domain.schemas → (os : List ℕ) → Stands os (bindings p s) → AreWords (s.name.text ∷ names p os)
  words s stands os there = names_are_words (s.name.text ∷ names p os) (true_both _ _ (schema_named s stands) (binding_named s os there))

  -- actions of one text are bound alike
  same_sources : (s z : Schema) → Stands s p.domain.schemas → Stands z p.domain.schemas → (os qs : List ℕ) → Stands os (bindings p s) → Stands qs (bindings p z)
      → text_under s os ≡ text_under z qs → s.name.text ∷ names p os ≡ z.name.text ∷ names p qs
  same_sources s z stands there os qs first second same =
      same_words s.name.text (names p os) z.name.text (names p qs) (words s stands os first) (words z there qs second) same

  same_first : (x y : List ℕ) (xs ys : List (List ℕ)) → x ∷ xs ≡ y ∷ ys → x ≡ y
  same_first x y xs ys h = ap (λ (zs : List (List ℕ)). first_of zs) h
    where
      first_of : List (List ℕ) → List ℕ
      first_of [] = []
      first_of (z ∷ zs) = z

  same_others : (x y : List ℕ) (xs ys : List (List ℕ)) → x ∷ xs ≡ y ∷ ys → xs ≡ ys
  same_others x y xs ys h = ap (λ (zs : List (List ℕ)). others_of zs) h
    where
      others_of : List (List ℕ) → List (List ℕ)
      others_of [] = []
      others_of (z ∷ zs) = zs

  same_binding : (s : Schema) (os qs : List ℕ) → Stands os (bindings p s) → Stands qs (bindings p s) → names p os ≡ names p qs → os ≡ qs
  same_binding s os qs first second same =
      sym (same_objects p readable formed os (all_of_each _ os (binding_known p s os first).0)) ∙ ap (map (object_number p)) same
      ∙ same_objects p readable formed qs (all_of_each _ qs (binding_known p s qs second).0)

  outcomes_apart : (s : Schema) → Stands s p.domain.schemas → Apart OutcomesApart (schema_outcomes p s)
  unfolding schema_outcomes
  outcomes_apart s stands = by_count (nat_le (prefix_count p s) MAX_PREFIXES)
    where
      bound_apart : (os qs : List ℕ) → Stands os (bindings p s) → Stands qs (bindings p s) → os ≢ qs → OutcomesApart (outcome p s os) (outcome p s qs)
      bound_apart os qs first second other a b e f same =
          let texts = sym (source_text a s os (outcome_source p a s os (sym e))) ∙ same ∙ source_text b s qs (outcome_source p b s qs (sym f)) in
          other (same_binding s os qs first second (same_others s.name.text s.name.text (names p os) (names p qs) (same_sources s s stands stands os qs first second texts)))

      by_count : (test : Bool) → Apart OutcomesApart (if test then map (outcome p s) (bindings p s) else Refused (fault.TooMany what.Prefixes MAX_PREFIXES) ∷ [])
      by_count true = apart_mapped OutcomesApart (outcome p s) (bindings p s) (apart_more _ _ (bindings p s) bound_apart (bindings_apart p s))
      by_count false = (tt, tt)

  schemas_apart : (s z : Schema) → Stands s p.domain.schemas → Stands z p.domain.schemas → s.name.text ≢ z.name.text
      → (u v : Outcome) → Stands u (schema_outcomes p s) → Stands v (schema_outcomes p z) → OutcomesApart u v
  schemas_apart s z stands there other u v first second a b e f same =
      let one = schema_source p a s (subst (λ (o : Outcome). Stands o (schema_outcomes p s)) e first) in
      let two = schema_source p b z (subst (λ (o : Outcome). Stands o (schema_outcomes p z)) f second) in
      let texts = sym (source_text a s one.0 one.2) ∙ same ∙ source_text b z two.0 two.2 in
      other (same_first s.name.text z.name.text (names p one.0) (names p two.0) (same_sources s z stands there one.0 two.0 one.1 two.1 texts))

  pub kept_apart : Apart (λ a b. a.name ≢ b.name) (kept p)
  unfolding kept outcomes
  kept_apart =
      all_kept_apart (outcomes p)
      (apart_flat OutcomesApart (schema_outcomes p) p.domain.schemas (each_where _ p.domain.schemas (λ s stands. outcomes_apart s stands))
      (apart_more _ _ p.domain.schemas schemas_apart (distinct_apart_by p.domain.schemas formed.schemas_once)))

  -- the text of a kept action is that of a name and the names of objects
  pub kept_text : (a : Ground) → Stands a (kept p) → IsGroundText a.name
  kept_text a there =
      let source = kept_source p a there in
      record {
        name = source.schema.name.text;
        objects = names p source.objects;
        spelled = source_text a source.schema source.objects source.reason;
        a_name = schema_named source.schema source.declared;
        object_names = binding_named source.schema source.objects source.bound;
      }
