-- The task of a readable, well-formed pair is valid.
use Rattle.std.proofs.Common.{◌≡◌, ◌≢◌, ◌<◌, ◌≤◌, ◌+◌, ◌++◌, ℕ, suc, Bool, true, false, not, List, [], ◌∷◌, map, length, All, AllPairs, slice_index_or, refl, sym, ap, ap₂, subst, ◌∙◌, inl, inr, arith, lt-ltb, cond}
use Rattle.std.specs.Prelude.{filter, flat_map, nat_lt, if◌then◌else◌}
use Rattle.std.specs.List.{list_all, range_with_len}
use Rattle.std.specs.List.Sorted.{IsStrictlyIncreasing}
use Rattle.std.proofs.lemmas.List.{length-append, length-map}
use Rattle.std.proofs.lemmas.List.Elements.{All-head, All-tail}
use Rattle.std.proofs.lemmas.List.Kept.{AllPairs-from_increasing}
use Rattle.num_ends.specs.Names.{IsGroundText, is_name}
use Rattle.pddl_terms.specs.declared.names.Sig.{Sig}
use Rattle.pddl_terms.specs.declared.names.Typed.{Typed}
use Rattle.pddl_terms.specs.declared.actions.Effect.{Effect}
use Rattle.pddl_terms.specs.declared.actions.Effect.TheVariants as effect
use Rattle.pddl_terms.specs.declared.actions.Schema.{Schema}
use Rattle.pddl_terms.specs.declared.limits.TheConstants.{MAX_EFFECTS}
use Rattle.pddl_terms.specs.Readable.{IsReadable, IsReadableSchema, IsReadableSignature}
use Rattle.pddl_types.specs.declared.pairs.Pair.{Pair}
use Rattle.pddl_types.specs.Pairs.{heads_of, objects_of}
use Rattle.pddl_types.specs.WellFormed.{Each, Stands, WellFormed}
use Rattle.static_facts.specs.Atoms.{head_text, is_true_at_first, names, text_of_atom}
use Rattle.static_facts.specs.Codes.{code_among, fact_code, fluent_code}
use Rattle.pddl_meaning.specs.Worlds.{initial_world}
use Rattle.pddl_meaning.proofs.Bounds.{both_true, true_both}
use Rattle.ground_task.specs.declared.raw.GExpr.{GExpr}
use Rattle.ground_task.specs.declared.raw.GCond.{GCond}
use Rattle.ground_task.specs.declared.raw.Change.{Change}
use Rattle.ground_task.specs.declared.raw.Change.TheVariants.{Add, Set}
use Rattle.ground_task.specs.declared.raw.Ground.{Ground}
use Rattle.ground_task.specs.declared.raw.RawTask.{RawTask}
use Rattle.ground_task.specs.Valid.{IsValid, IsValidAction, is_known_condition, is_known_expression, known_condition_layer, known_expression_layer, right_side}
use Rattle.ground_task.proofs.Trees.{fold-Add, fold-And, fold-Cmp, fold-Const, fold-Fact, fold-False, fold-Mul, fold-Or, fold-Read, fold-Sub, fold-True, induct_condition, induct_expression, is_known-And, is_known-Or}
use Rattle.ground_meaning.specs.Conditions.{as_condition}
use Rattle.ground_meaning.specs.Actions.{added_fact, added_facts, as_numeric_effect, changes_from, coded_action, deleted_fact, deleted_facts, each_once, folded_action, folded_changes, is_listed, with_new}
use Rattle.ground_meaning.specs.Conditions.{folded_condition}
use Rattle.ground_meaning.specs.Outcomes.{kept}
use Rattle.ground_meaning.specs.Tasks.{IsAtomOf, IsFact, IsFluent, IsGroundTask, IsRelevant, action_facts, condition_facts, condition_facts_layer, condition_fluents, condition_fluents_layer, first_true, first_value, fluents_in, fluents_layer, number_in, numbered_action, numbered_change, numbered_condition, numbered_condition_layer, numbered_effects, numbered_expression, numbered_layer}
use Rattle.ground_meaning.proofs.ActionsApart.{few_kept, kept_apart, kept_text}
use Rattle.ground_meaning.proofs.BoundAtoms.{all_at, changed_fluents}
use Rattle.ground_meaning.proofs.ChangesApart.{FluentsApart, changes_apart}
use Rattle.ground_meaning.proofs.CodeNumbers.{heads_apart}
use Rattle.ground_meaning.proofs.GoalTruth.{if_is}
use Rattle.ground_meaning.proofs.KeptActions.{action_parts}
use Rattle.ground_meaning.proofs.KeptSources.{IsSourceOf, binding_known, kept_source, range_known}
use Rattle.ground_meaning.proofs.Listed.{found_at}
use Rattle.ground_meaning.proofs.Lists.{all_of_each, each_left, each_mapped, each_more, each_of_all, each_right, each_where, stands_filtered, stands_left, stands_right}
use Rattle.ground_meaning.proofs.Names.{names_are_words, same_words}
use Rattle.ground_meaning.proofs.Pairs.{Apart, all_pairs, apart_filtered, apart_joined, apart_mapped, apart_more, apart_of_mapped, pairs_apart}
use Rattle.ground_meaning.proofs.ReadyEffects.{atom_named}
use Rattle.ground_meaning.proofs.Stepping.{ready_parts}
use Rattle.ground_meaning.proofs.Transition.{listed_stands}

-- ---- known numbers

known_number : (n count : ℕ) → n < count → nat_lt n count ≡ true
known_number n count less = lt-ltb n count less

module _ (xs : List ℕ) (fluents : ℕ) where
  -- a fluent's number is below the count
  abbrev IsBelow : ℕ → Type 0
  IsBelow x = number_in xs x < fluents

  abbrev IsKnownFrom : GExpr → Type 0
  IsKnownFrom g = Each IsBelow (fluents_in g) → is_known_expression fluents (numbered_expression xs g) ≡ true

  pub known_expression : (g : GExpr) → IsKnownFrom g
  known_expression =
      induct_expression IsKnownFrom
      (λ d h. ap (is_known_expression fluents) (fold-Const (numbered_layer xs) d) ∙ fold-Const (known_expression_layer fluents) d)
      (λ x h. ap (is_known_expression fluents) (fold-Read (numbered_layer xs) x) ∙ fold-Read (known_expression_layer fluents) (number_in xs x)
      ∙ known_number (number_in xs x) fluents (subst (Each IsBelow) (fold-Read fluents_layer x) h).0)
      (λ a b f g h.
      let all = subst (Each IsBelow) (fold-Add fluents_layer a b) h in
      ap (is_known_expression fluents) (fold-Add (numbered_layer xs) a b) ∙ fold-Add (known_expression_layer fluents) (numbered_expression xs a) (numbered_expression xs b)
      ∙ true_both _ _ (f (each_left IsBelow (fluents_in a) (fluents_in b) all)) (g (each_right IsBelow (fluents_in a) (fluents_in b) all)))
      (λ a b f g h.
      let all = subst (Each IsBelow) (fold-Sub fluents_layer a b) h in
      ap (is_known_expression fluents) (fold-Sub (numbered_layer xs) a b) ∙ fold-Sub (known_expression_layer fluents) (numbered_expression xs a) (numbered_expression xs b)
      ∙ true_both _ _ (f (each_left IsBelow (fluents_in a) (fluents_in b) all)) (g (each_right IsBelow (fluents_in a) (fluents_in b) all)))
      (λ a b f g h.
      let all = subst (Each IsBelow) (fold-Mul fluents_layer a b) h in
      ap (is_known_expression fluents) (fold-Mul (numbered_layer xs) a b) ∙ fold-Mul (known_expression_layer fluents) (numbered_expression xs a) (numbered_expression xs b)
      ∙ true_both _ _ (f (each_left IsBelow (fluents_in a) (fluents_in b) all)) (g (each_right IsBelow (fluents_in a) (fluents_in b) all)))

module _ (fs xs : List ℕ) (facts fluents : ℕ) where
  abbrev IsFactBelow : ℕ → Type 0
  IsFactBelow f = number_in fs f < facts

  abbrev IsFluentBelow : ℕ → Type 0
  IsFluentBelow x = number_in xs x < fluents

  abbrev IsKnown : GCond → Type 0
  IsKnown g = Each IsFactBelow (condition_facts g) → Each IsFluentBelow (condition_fluents g) → is_known_condition facts fluents (numbered_condition fs xs g) ≡ true

  all_known : (gs : List GCond) → All IsKnown gs → Each IsFactBelow (flat_map (λ ns. ns) (map condition_facts gs)) → Each IsFluentBelow (flat_map (λ ns. ns) (map condition_fluents gs))
      → list_all (is_known_condition facts fluents) (map (numbered_condition fs xs) gs) ≡ true
  all_known [] all f x = refl
  all_known (g ∷ gs) all f x =
      true_both _ _ (All-head IsKnown g gs all (each_left IsFactBelow (condition_facts g) _ f) (each_left IsFluentBelow (condition_fluents g) _ x))
      (all_known gs (All-tail IsKnown g gs all) (each_right IsFactBelow (condition_facts g) _ f) (each_right IsFluentBelow (condition_fluents g) _ x))

  pub known_condition : (g : GCond) → IsKnown g
  known_condition =
      induct_condition IsKnown
      (λ f x. ap (is_known_condition facts fluents) (fold-True (numbered_condition_layer fs xs)) ∙ fold-True (known_condition_layer facts fluents))
      (λ f x. ap (is_known_condition facts fluents) (fold-False (numbered_condition_layer fs xs)) ∙ fold-False (known_condition_layer facts fluents))
      (λ n truth f x.
      ap (is_known_condition facts fluents) (fold-Fact (numbered_condition_layer fs xs) n truth) ∙ fold-Fact (known_condition_layer facts fluents) (number_in fs n) truth
      ∙ known_number (number_in fs n) facts (subst (Each IsFactBelow) (fold-Fact condition_facts_layer n truth) f).0)
      (λ r a b f x.
      let all = subst (Each IsFluentBelow) (fold-Cmp condition_fluents_layer r a b) x in
      ap (is_known_condition facts fluents) (fold-Cmp (numbered_condition_layer fs xs) r a b)
      ∙ fold-Cmp (known_condition_layer facts fluents) r (numbered_expression xs a) (numbered_expression xs b)
      ∙ true_both _ _ (known_expression xs fluents a (each_left IsFluentBelow (fluents_in a) (fluents_in b) all)) (known_expression xs fluents b (each_right IsFluentBelow (fluents_in a) (fluents_in b) all)))
      (λ gs all f x.
      ap (is_known_condition facts fluents) (fold-And (numbered_condition_layer fs xs) gs) ∙ is_known-And facts fluents (map (numbered_condition fs xs) gs)
      ∙ all_known gs all (subst (Each IsFactBelow) (fold-And condition_facts_layer gs) f) (subst (Each IsFluentBelow) (fold-And condition_fluents_layer gs) x))
      (λ gs all f x.
      ap (is_known_condition facts fluents) (fold-Or (numbered_condition_layer fs xs) gs) ∙ is_known-Or facts fluents (map (numbered_condition fs xs) gs)
      ∙ all_known gs all (subst (Each IsFactBelow) (fold-Or condition_facts_layer gs) f) (subst (Each IsFluentBelow) (fold-Or condition_fluents_layer gs) x))

-- ---- few facts in effects

once_length : (seen ns : List ℕ) → length (each_once seen ns) ≤ length seen + length ns
once_length seen [] = omega arith
once_length seen (n ∷ ns) = by_test (is_listed n seen) (once_length (with_new seen n) ns)
  where
    by_test : (test : Bool) → length (each_once (if test then seen else seen ++ n ∷ []) ns) ≤ length (if test then seen else seen ++ n ∷ []) + length ns
        → length (each_once (if test then seen else seen ++ n ∷ []) ns) ≤ length seen + suc (length ns)
    by_test true h = omega (arith, h)
    by_test false h = omega (arith, h, length-append seen (n ∷ []))

kept_length : {A : Type 0} (test : A → Bool) (xs : List A) → length (filter test xs) ≤ length xs
kept_length test [] = omega arith
kept_length test (x ∷ xs) = by_test (test x) (kept_length test xs)
  where
    by_test : (t : Bool) → length (filter test xs) ≤ length xs → length (cond t (x ∷ filter test xs) (filter test xs)) ≤ suc (length xs)
    by_test true h = omega (arith, h)
    by_test false h = omega (arith, h)

module _ (p : Pair) (params : List Typed) (args : List (List ℕ)) where
  added_length : (effects : List Effect) → length (flat_map (added_fact p params args) effects) ≤ length effects
  added_length [] = omega arith
  added_length (effect.Add a ∷ effects) = let rest = added_length effects in omega (arith, rest)
  added_length (effect.Del a ∷ effects) = let rest = added_length effects in omega (arith, rest)
  added_length (effect.Num h a x ∷ effects) = let rest = added_length effects in omega (arith, rest)

  deleted_length : (effects : List Effect) → length (flat_map (deleted_fact p params args) effects) ≤ length effects
  deleted_length [] = omega arith
  deleted_length (effect.Add a ∷ effects) = let rest = deleted_length effects in omega (arith, rest)
  deleted_length (effect.Del a ∷ effects) = let rest = deleted_length effects in omega (arith, rest)
  deleted_length (effect.Num h a x ∷ effects) = let rest = deleted_length effects in omega (arith, rest)

  few_added : (effects : List Effect) → length (added_facts p params args effects) ≤ length effects
  unfolding added_facts
  few_added effects = let once = once_length [] (flat_map (added_fact p params args) effects) in let all = added_length effects in omega (arith, once, all)

  few_deleted : (effects : List Effect) → length (deleted_facts p params args effects) ≤ length effects
  unfolding deleted_facts
  few_deleted effects =
      let once = once_length [] (flat_map (deleted_fact p params args) effects) in
      let all = deleted_length effects in
      let less = kept_length (λ f. not (is_listed f (added_facts p params args effects))) (each_once [] (flat_map (deleted_fact p params args) effects)) in
      omega (arith, once, all, less)

-- ---- texts

module _ (p : Pair) (readable : IsReadable p.domain p.problem) where
  abbrev IsOf : List Sig → List (List ℕ) → Type 0
  IsOf sigs = IsAtomOf p sigs (λ n os. head_text sigs n ∷ names p os)

  atom_text : (sigs : List Sig) → All IsReadableSignature sigs → (y : List (List ℕ)) → IsOf sigs y → IsGroundText (text_of_atom y)
  atom_text sigs all [] a = let bad = a.is in cc
  atom_text sigs all (h ∷ hs) a =
      let parts = both_true (is_name h) (list_all is_name hs) (atom_named p readable sigs all (h ∷ hs) a) in
      record { name = h; objects = hs; spelled = refl; a_name = parts.0; object_names = parts.1 }

  -- atoms of one text are one atom
  same_atoms : (sigs others : List Sig) → All IsReadableSignature sigs → All IsReadableSignature others → (x y : List (List ℕ)) → IsOf sigs x → IsOf others y
      → text_of_atom x ≡ text_of_atom y → x ≡ y
  same_atoms sigs others all more [] y a b same = let bad = a.is in cc
  same_atoms sigs others all more (h ∷ hs) [] a b same = let bad = b.is in cc
  same_atoms sigs others all more (h ∷ hs) (k ∷ ks) a b same =
      same_words h hs k ks (names_are_words (h ∷ hs) (atom_named p readable sigs all (h ∷ hs) a)) (names_are_words (k ∷ ks) (atom_named p readable others more (k ∷ ks) b)) same

  abbrev TextsDiffer : List (List ℕ) → List (List ℕ) → Type 0
  TextsDiffer x y = text_of_atom x ≢ text_of_atom y

  atoms_apart : (sigs : List Sig) → All IsReadableSignature sigs → (atoms : List (List (List ℕ))) → All (IsOf sigs) atoms → IsStrictlyIncreasing (map (code_among (heads_of sigs) p) atoms)
      → Apart TextsDiffer atoms
  atoms_apart sigs all atoms are rising =
      apart_more (λ x y. code_among (heads_of sigs) p x < code_among (heads_of sigs) p y) TextsDiffer atoms differ
      (apart_of_mapped (λ n m. n < m) (code_among (heads_of sigs) p) atoms (pairs_apart (λ n m. n < m) (map (code_among (heads_of sigs) p) atoms) (AllPairs-from_increasing _ rising)))
    where
      differ : (x y : List (List ℕ)) → Stands x atoms → Stands y atoms → code_among (heads_of sigs) p x < code_among (heads_of sigs) p y → TextsDiffer x y
      differ x y s r less same =
          let codes = ap (code_among (heads_of sigs) p) (same_atoms sigs sigs all all x y (all_at (IsOf sigs) atoms x are s) (all_at (IsOf sigs) atoms y are r) same) in
          absurd (omega (arith, less, codes))

  same_first : (x y : List ℕ) (xs ys : List (List ℕ)) → x ∷ xs ≡ y ∷ ys → x ≡ y
  same_first x y xs ys h = ap (λ (zs : List (List ℕ)). first_of zs) h
    where
      first_of : List (List ℕ) → List ℕ
      first_of [] = []
      first_of (z ∷ zs) = z

  -- no fact has the text of a fluent
  fact_is_no_fluent : WellFormed p → (x y : List (List ℕ)) → IsFact p x → IsFluent p y → TextsDiffer x y
  fact_is_no_fluent formed x y a b same =
      let atoms = same_atoms p.domain.predicates p.domain.functions readable.domain.predicates readable.domain.functions x y a b same in
      heads_apart p readable formed a.symbol b.symbol a.declared b.declared
      (same_first (head_text p.domain.predicates a.symbol) (head_text p.domain.functions b.symbol) (names p a.objects) (names p b.objects) (sym a.is ∙ atoms ∙ b.is))

-- ---- the task

side_numbered : (xs : List ℕ) (change : Change) → right_side (numbered_change xs change) ≡ numbered_expression xs (right_side change)
side_numbered xs (Add v) = refl
side_numbered xs (Set v) = refl

module _ (p : Pair) (readable : IsReadable p.domain p.problem) (formed : WellFormed p) where
  abbrev FluentsDiffer : ℕ × Change → ℕ × Change → Type 0
  FluentsDiffer one other = one.0 ≢ other.0

  source_apart : (s : Schema) → Stands s p.domain.schemas → (os : List ℕ) → Each (λ o. o < length (objects_of p)) os → length os ≡ length s.params → (a : Ground) → IsSourceOf p a s os
      → Apart FluentsDiffer a.nums
  unfolding coded_action folded_action folded_changes
  source_apart s stands os known as_many a source =
      let parts = action_parts (folded_condition p s.params (names p os) s.pre true) (changes_from p s.params (names p os) [] s.effects) source.action source.folds in
      let apart = if_is (Apart FluentsApart) (changes_from p s.params (names p os) [] s.effects) source.action.changes parts.1
      (changes_apart p readable formed s os known as_many s.effects (changed_fluents p readable formed s stands) (ready_parts s (names p os) (initial_world p) source.ready).2) in
      subst (λ (b : Ground). Apart FluentsDiffer b.nums) (sym source.is) (apart_mapped FluentsDiffer as_numeric_effect source.action.changes apart)

  source_few : (s : Schema) (os : List ℕ) (a : Ground) → IsSourceOf p a s os → (length a.adds ≤ length s.effects) × (length a.dels ≤ length s.effects)
  unfolding coded_action
  source_few s os a source =
      subst (λ (b : Ground). (length b.adds ≤ length s.effects) × (length b.dels ≤ length s.effects)) (sym source.is)
      (few_added p s.params (names p os) s.effects, few_deleted p s.params (names p os) s.effects)

  nums_apart : (a : Ground) → Stands a (kept p) → Apart FluentsDiffer a.nums
  nums_apart a there =
      let source = kept_source p a there in
      let bound = binding_known p source.schema source.objects source.bound in
      source_apart source.schema source.declared source.objects bound.0 bound.1 a source.reason

  few_facts_changed : (a : Ground) → Stands a (kept p) → (length a.adds ≤ MAX_EFFECTS) × (length a.dels ≤ MAX_EFFECTS)
  few_facts_changed a there =
      let source = kept_source p a there in
      let few = (all_at IsReadableSchema p.domain.schemas source.schema readable.domain.schemas source.declared).few_effects in
      let less = source_few source.schema source.objects a source.reason in
      (omega (arith, few, less.0), omega (arith, few, less.1))

  module _ (raw : RawTask) (task : IsGroundTask p raw) where
    abbrev fs : List ℕ
    fs = map (fact_code p) task.facts

    abbrev xs : List ℕ
    xs = map (fluent_code p) task.fluents

    as_many_facts : length raw.facts ≡ length task.facts
    as_many_facts = ap length task.fact_texts ∙ length-map task.facts text_of_atom

    as_many_fluents : length raw.fluents ≡ length task.fluents
    as_many_fluents = ap length task.fluent_texts ∙ length-map task.fluents text_of_atom

    fact_below : (f : ℕ) → Stands f fs → number_in fs f < length raw.facts
    fact_below f s = let found = found_at (fact_code p) task.facts f s in omega (arith, found.0, as_many_facts)

    fluent_below : (x : ℕ) → Stands x xs → number_in xs x < length raw.fluents
    fluent_below x s = let found = found_at (fluent_code p) task.fluents x s in omega (arith, found.0, as_many_fluents)

    same_code_of : (n m : ℕ) → Stands n xs → Stands m xs → number_in xs n ≡ number_in xs m → n ≡ m
    same_code_of n m s r same =
        sym (found_at (fluent_code p) task.fluents n s).1 ∙ ap (λ (k : ℕ). fluent_code p (slice_index_or task.fluents k [])) same ∙ (found_at (fluent_code p) task.fluents m r).1

    module _ (a : Ground) (there : Stands a (kept p)) where
      abbrev listed : ℕ × Change → Bool
      listed n = is_listed n.0 xs

      in_facts : (f : ℕ) → Stands f (action_facts a) → number_in fs f < length raw.facts
      in_facts f s = fact_below f ((task.all_facts.exactly f).1 (inr (a, there, s)))

      abbrev nums : List (ℕ × Change)
      nums = filter (λ n. is_listed n.0 xs) a.nums

      num_listed : (n : ℕ × Change) → Stands n nums → Stands n a.nums × Stands n.0 xs
      num_listed n s = let found = stands_filtered listed a.nums n s in (found.0, listed_stands n.0 xs found.1)

      side_known : (n : ℕ × Change) → Stands n nums → is_known_expression (length raw.fluents) (right_side (numbered_change xs n.1)) ≡ true
      side_known n s =
          let found = num_listed n s in
          ap (is_known_expression (length raw.fluents)) (side_numbered xs n.1)
          ∙ known_expression xs (length raw.fluents) (right_side n.1)
          (each_where _ (fluents_in (right_side n.1)) (λ x r. fluent_below x ((task.all_fluents.exactly x).1
          (IsRelevant.in_change a n.0 n.1 x there found.0 ((task.all_fluents.exactly n.0).0 found.1) r))))

      changes_differ : Apart FluentsDiffer (numbered_effects xs a.nums)
      changes_differ =
          apart_mapped FluentsDiffer (λ n. (number_in xs n.0, numbered_change xs n.1)) nums
          (apart_more FluentsDiffer _ nums (λ n m s r differ same. differ (same_code_of n.0 m.0 (num_listed n s).1 (num_listed m r).1 same))
          (apart_filtered FluentsDiffer listed a.nums (nums_apart a there)))

      valid_action : IsValidAction (length raw.facts) (length raw.fluents) (numbered_action fs xs a)
      valid_action =
          let few = few_facts_changed a there in
          let before = condition_facts a.pre in
          record {
            known_condition = known_condition fs xs (length raw.facts) (length raw.fluents) a.pre
                (each_where _ before (λ f s. in_facts f (stands_left f (before ++ a.adds) a.dels (stands_left f before a.adds s))))
                (each_where _ (condition_fluents a.pre) (λ x s. fluent_below x ((task.all_fluents.exactly x).1 (IsRelevant.in_precondition a x there s))));
            known_adds = all_of_each (λ (n : ℕ). n < length raw.facts) (map (number_in fs) a.adds) (each_mapped (λ (n : ℕ). n < length raw.facts) (number_in fs) a.adds (each_where _ a.adds (λ f s. in_facts f (stands_left f (before ++ a.adds) a.dels (stands_right f before a.adds s)))));
            known_dels = all_of_each (λ (n : ℕ). n < length raw.facts) (map (number_in fs) a.dels) (each_mapped (λ (n : ℕ). n < length raw.facts) (number_in fs) a.dels (each_where _ a.dels (λ f s. in_facts f (stands_right f (before ++ a.adds) a.dels s))));
            few_adds = omega (arith, few.0, length-map a.adds (number_in fs));
            few_dels = omega (arith, few.1, length-map a.dels (number_in fs));
            known_fluents = all_of_each (λ (n : ℕ × Change). n.0 < length raw.fluents) (map (λ (n : ℕ × Change). (number_in xs n.0, numbered_change xs n.1)) nums) (each_mapped (λ (n : ℕ × Change). n.0 < length raw.fluents) (λ (n : ℕ × Change). (number_in xs n.0, numbered_change xs n.1)) nums (each_where _ nums (λ n s. fluent_below n.0 (num_listed n s).1)));
            known_right_sides = all_of_each (λ (n : ℕ × Change). is_known_expression (length raw.fluents) (right_side n.1) ≡ true) (map (λ (n : ℕ × Change). (number_in xs n.0, numbered_change xs n.1)) nums) (each_mapped (λ (n : ℕ × Change). is_known_expression (length raw.fluents) (right_side n.1) ≡ true) (λ (n : ℕ × Change). (number_in xs n.0, numbered_change xs n.1)) nums (each_where _ nums side_known));
            one_change_each = all_pairs FluentsDiffer (numbered_effects xs a.nums) changes_differ;
          }

    goal_known : is_known_condition (length raw.facts) (length raw.fluents) (numbered_condition fs xs (as_condition task.goal)) ≡ true
    goal_known =
        known_condition fs xs (length raw.facts) (length raw.fluents) (as_condition task.goal)
        (each_where _ (condition_facts (as_condition task.goal)) (λ f s. fact_below f ((task.all_facts.exactly f).1 (inl s))))
        (each_where _ (condition_fluents (as_condition task.goal)) (λ x s. fluent_below x ((task.all_fluents.exactly x).1 (IsRelevant.in_goal x s))))

    true_known : All (λ f. f < length raw.facts) raw.true_facts
    true_known =
        subst (λ (ns : List ℕ). All (λ f. f < length raw.facts) ns) (sym task.true_facts)
        (all_of_each _ _ (each_where (λ f. f < length raw.facts) (first_true p task.facts) (λ f s.
        let within = range_known 0 (length task.facts) f (stands_filtered (λ n. is_true_at_first p (slice_index_or task.facts n [])) (range_with_len 0 (length task.facts)) f s).0 in
        omega (arith, within, as_many_facts))))

    texts_apart : AllPairs (λ one other. one ≢ other) (raw.facts ++ raw.fluents)
    texts_apart =
        subst (λ (ts : List (List ℕ)). AllPairs (λ one other. one ≢ other) ts) (sym (ap₂ (λ (ts us : List (List ℕ)). ts ++ us) task.fact_texts task.fluent_texts))
        (all_pairs (λ (one other : List ℕ). one ≢ other) (map text_of_atom task.facts ++ map text_of_atom task.fluents)
        (apart_joined (λ (one other : List ℕ). one ≢ other) (map text_of_atom task.facts) (map text_of_atom task.fluents)
        (apart_mapped _ text_of_atom task.facts (atoms_apart p readable p.domain.predicates readable.domain.predicates task.facts task.all_facts.are_atoms task.all_facts.rising))
        (apart_mapped _ text_of_atom task.fluents (atoms_apart p readable p.domain.functions readable.domain.functions task.fluents task.all_fluents.are_atoms task.all_fluents.rising))
        (each_mapped _ text_of_atom task.facts (each_where _ task.facts (λ x s. each_mapped _ text_of_atom task.fluents (each_where _ task.fluents (λ y r.
        fact_is_no_fluent p readable formed x y (all_at (IsFact p) task.facts x task.all_facts.are_atoms s) (all_at (IsFluent p) task.fluents y task.all_fluents.are_atoms r))))))))

    fact_texts : All IsGroundText raw.facts
    fact_texts =
        subst (λ (ts : List (List ℕ)). All IsGroundText ts) (sym task.fact_texts)
        (all_of_each _ _ (each_mapped IsGroundText text_of_atom task.facts (each_more _ _ task.facts (λ y is. atom_text p readable p.domain.predicates readable.domain.predicates y is)
        (each_of_all (IsFact p) task.facts task.all_facts.are_atoms))))

    fluent_texts : All IsGroundText raw.fluents
    fluent_texts =
        subst (λ (ts : List (List ℕ)). All IsGroundText ts) (sym task.fluent_texts)
        (all_of_each _ _ (each_mapped IsGroundText text_of_atom task.fluents (each_more _ _ task.fluents (λ y is. atom_text p readable p.domain.functions readable.domain.functions y is)
        (each_of_all (IsFluent p) task.fluents task.all_fluents.are_atoms))))

    -- of the actions by their codes
    of_actions : (P : Ground → Type 0) → ((a : Ground) → Stands a (kept p) → P (numbered_action fs xs a)) → All P raw.actions
    of_actions P each =
        subst (λ (actions : List Ground). All P actions) (sym task.actions) (all_of_each P _ (each_mapped P (numbered_action fs xs) (kept p) (each_where _ (kept p) each)))

    -- the task is valid
    pub task_is_valid : IsValid raw
    task_is_valid = record {
      few_facts = omega (arith, as_many_facts, task.few_facts);
      few_fluents = omega (arith, as_many_fluents, task.few_fluents);
      few_actions = omega (arith, ap length task.actions, length-map (kept p) (numbered_action fs xs), few_kept p task.folds.bound.none_refused);
      a_value_each = ap length task.values ∙ length-map task.fluents (first_value p) ∙ sym as_many_fluents;
      known_true_facts = true_known;
      valid_actions = of_actions (IsValidAction (length raw.facts) (length raw.fluents)) valid_action;
      known_goal = ap (is_known_condition (length raw.facts) (length raw.fluents)) task.is_goal ∙ goal_known;
      fact_texts = fact_texts;
      fluent_texts = fluent_texts;
      action_texts = of_actions (λ a. IsGroundText a.name) (λ a there. kept_text p readable formed a there);
      apart = texts_apart;
      actions_apart = subst (λ (actions : List Ground). AllPairs (λ one other. one.name ≢ other.name) actions) (sym task.actions)
          (all_pairs (λ (one other : Ground). one.name ≢ other.name) (map (numbered_action fs xs) (kept p)) (apart_mapped _ (numbered_action fs xs) (kept p) (kept_apart p readable formed)));
    }
