-- The effects of an action that is ready, seen from a fluent or a fact of the task.
use Rattle.std.proofs.Common.{◌≡◌, ◌<◌, ◌||◌, ◌==◌, ◌++◌, ℕ, zero, suc, Bool, true, false, not, List, [], ◌∷◌, length, All, ap, ◌∙◌, arith}
use Rattle.std.specs.Prelude.{bytes_eq, flat_map}
use Rattle.std.specs.List.{list_all}
use Rattle.std.specs.FinMap as finite
use Rattle.std.proofs.lemmas.List.Elements.{All-head, All-tail}
use Rattle.num_ends.specs.Names.{is_name}
use Rattle.pddl_terms.specs.declared.names.Atom.{Atom}
use Rattle.pddl_terms.specs.declared.names.Sig.{Sig}
use Rattle.pddl_terms.specs.declared.actions.Effect.{Effect}
use Rattle.pddl_terms.specs.declared.actions.Effect.TheVariants as effect
use Rattle.pddl_terms.specs.declared.actions.Schema.{Schema}
use Rattle.pddl_terms.specs.Texts.{ground_text}
use Rattle.pddl_terms.specs.Readable.{IsReadable, IsReadableSignature, is_readable_item}
use Rattle.pddl_types.specs.declared.faults.Side.TheVariants as side
use Rattle.pddl_types.specs.declared.pairs.Pair.{Pair}
use Rattle.pddl_types.specs.Pairs.{heads_of, objects_of}
use Rattle.pddl_types.specs.Contents.{expression_reads, fluent_changed, right_sides}
use Rattle.pddl_types.specs.WellFormed.{Each, WellFormed}
use Rattle.static_facts.specs.Atoms.{atom_of, head_text, names, text_of_atom}
use Rattle.static_facts.specs.Codes.{code_among, fact_code, fluent_code}
use Rattle.static_facts.specs.Fixed.{is_fixed_function}
use Rattle.pddl_meaning.specs.Worlds.{WorldValue}
use Rattle.pddl_meaning.specs.Values.{reads_defined}
use Rattle.pddl_meaning.specs.Effects.{is_effect_defined, numeric_effect_by, reads_old}
use Rattle.pddl_meaning.proofs.Bounds.{both_true, true_both}
use Rattle.ground_meaning.specs.Tasks.{IsAtomOf, IsFact, IsFluent}
use Rattle.ground_meaning.specs.Worlds.{IsLike}
use Rattle.ground_meaning.proofs.BoundAtoms.{IsBound, fixed_value}
use Rattle.ground_meaning.proofs.CodedAtoms.{atom_there}
use Rattle.ground_meaning.proofs.EffectAtoms.{told_apart}
use Rattle.ground_meaning.proofs.GoalTruth.{few_function_parameters, few_predicate_parameters}
use Rattle.ground_meaning.proofs.LegalArguments.{objects_named}
use Rattle.ground_meaning.proofs.Lists.{each_of_all}
use Rattle.ground_meaning.proofs.Names.{names_are_words}
use Rattle.ground_meaning.proofs.NextFacts.{IsTold}
use Rattle.ground_meaning.proofs.NextValues.{IsReadyEffect}

pub sig_named : (sigs : List Sig) → All IsReadableSignature sigs → (n : ℕ) → n < length sigs → is_name (head_text sigs n) ≡ true
sig_named [] h n within = absurd (omega (arith, within))
sig_named (s ∷ sigs) h zero within = (both_true (is_name s.name.text) _ (All-head IsReadableSignature s sigs h).name).0
sig_named (s ∷ sigs) h (suc n) within = sig_named sigs (All-tail IsReadableSignature s sigs h) n (omega (arith, within))

joined_pass : {A : Type 0} (test : A → Bool) (xs ys : List A) → list_all test xs ≡ true → list_all test ys ≡ true → list_all test (xs ++ ys) ≡ true
joined_pass test [] ys h k = k
joined_pass test (x ∷ xs) ys h k = let parts = both_true (test x) (list_all test xs) h in true_both _ _ parts.0 (joined_pass test xs ys parts.1 k)

module _ (p : Pair) (readable : IsReadable p.domain p.problem) where
  pub all_objects : list_all is_readable_item (objects_of p) ≡ true
  all_objects = joined_pass is_readable_item p.domain.constants p.problem.objects readable.domain.constants readable.problem.objects

  -- an atom of the pair consists of names
  pub atom_named : (sigs : List Sig) → All IsReadableSignature sigs → (y : List (List ℕ)) → IsAtomOf p sigs (λ n os. head_text sigs n ∷ names p os) y → list_all is_name y ≡ true
  atom_named sigs all y a =
      ap (list_all is_name) a.is
      ∙ true_both _ _ (sig_named sigs all a.symbol a.declared) (objects_named p all_objects a.objects (each_of_all (λ o. o < length (objects_of p)) a.objects a.known))

  -- two atoms are told apart by codes and by texts alike
  pub told : (sigs : List Sig) → All IsReadableSignature sigs → (x y : List (List ℕ))
      → IsAtomOf p sigs (λ n os. head_text sigs n ∷ names p os) x → IsAtomOf p sigs (λ n os. head_text sigs n ∷ names p os) y
      → (code_among (heads_of sigs) p x == code_among (heads_of sigs) p y) ≡ bytes_eq (text_of_atom y) (text_of_atom x)
  told sigs all [] y a b = let bad = a.is in cc
  told sigs all (h ∷ hs) [] a b = let bad = b.is in cc
  told sigs all (h ∷ hs) (k ∷ ks) a b =
      told_apart p readable sigs h hs k ks a b (names_are_words (h ∷ hs) (atom_named sigs all (h ∷ hs) a)) (names_are_words (k ∷ ks) (atom_named sigs all (k ∷ ks) b))

  module _ (formed : WellFormed p) (s : Schema) (os : List ℕ) (known : Each (λ o. o < length (objects_of p)) os) (as_many : length os ≡ length s.params) where
    abbrev pub GoodFluent : Atom → Type 0
    GoodFluent = IsBound p readable formed side.Domain s.params p.domain.functions

    abbrev pub GoodFact : Atom → Type 0
    GoodFact = IsBound p readable formed side.Domain s.params p.domain.predicates

    pub fluent_there : (a : Atom) → GoodFluent a → IsFluent p (atom_of s.params (names p os) a)
    fluent_there a good = atom_there p readable formed side.Domain s.params os as_many known p.domain.functions (few_function_parameters p readable formed) a good

    pub fact_there : (a : Atom) → GoodFact a → IsFact p (atom_of s.params (names p os) a)
    fact_there a good = atom_there p readable formed side.Domain s.params os as_many known p.domain.predicates (few_predicate_parameters p readable formed) a good

    pub facts_told : (y : List (List ℕ)) → IsFact p y → (atoms : List Atom) → Each GoodFact atoms → Each (IsTold p s.params (names p os) (fact_code p y) (text_of_atom y)) atoms
    unfolding ground_text
    facts_told y is [] good = tt
    facts_told y is (a ∷ atoms) good = (
      told p.domain.predicates readable.domain.predicates (atom_of s.params (names p os) a) y (fact_there a good.0) is,
      facts_told y is atoms good.1,
    )

    module _ (named : list_all is_name (names p os) ≡ true) (same : length (names p os) ≡ length s.params) (w : WorldValue) (like : IsLike p w) where
      abbrev Ready : ℕ → List ℕ → Effect → Type 0
      Ready = IsReadyEffect p s.params (names p os) w GoodFluent (fixed_value p readable formed (names p os) named w like side.Domain s.params same)

      old_there : (old there : Bool) → (not old || there) ≡ true → old ≡ true → there ≡ true
      old_there true there h e = h
      old_there false there h e = cc

      pub effects_ready : (y : List (List ℕ)) → IsFluent p y → (effects : List Effect) → Each GoodFluent (flat_map fluent_changed effects)
          → Each (λ a. is_fixed_function p a.head.text ≡ false) (flat_map fluent_changed effects)
          → Each (λ x. Each GoodFluent (expression_reads x).all) (flat_map right_sides effects)
          → list_all (is_effect_defined s.params (names p os) w) (flat_map (numeric_effect_by s.params (names p os)) effects) ≡ true
          → Each (Ready (fluent_code p y) (text_of_atom y)) effects
      unfolding ground_text
      effects_ready y is [] good changed reads defined = tt
      effects_ready y is (effect.Add a ∷ effects) good changed reads defined = (tt, effects_ready y is effects good changed reads defined)
      effects_ready y is (effect.Del a ∷ effects) good changed reads defined = (tt, effects_ready y is effects good changed reads defined)
      effects_ready y is (effect.Num h a x ∷ effects) good changed reads defined =
          let parts = both_true (is_effect_defined s.params (names p os) w (record { how = h; fluent = ground_text s.params (names p os) a; by = x })) (list_all (is_effect_defined s.params (names p os) w) (flat_map (numeric_effect_by s.params (names p os)) effects)) defined in
          let own = both_true (reads_defined s.params (names p os) w x) (not (reads_old h) || finite.contains_key w.values (ground_text s.params (names p os) a)) parts.0 in (
            (
              told p.domain.functions readable.domain.functions (atom_of s.params (names p os) a) y (fluent_there a good.0) is,
              good.0,
              changed.0,
              reads.0,
              own.0,
              old_there (reads_old h) (finite.contains_key w.values (ground_text s.params (names p os) a)) own.1,
            ),
            effects_ready y is effects good.1 changed.1 reads.1 parts.1,
          )
