-- What is found by numbers is what the pair says of names.
use Rattle.std.proofs.Common.{◌≡◌, ◌≤◌, ◌||◌, inl, inr, ℕ, Bool, true, false, cond, not, List, [], ◌∷◌, length, Option, Some, None, map, refl, sym, ap, subst, ◌∙◌, arith, is_some, length-append}
use Rattle.std.specs.Prelude.{find, flat_map, option_map, option_and_then, slice_get, unwrap_or}
use Rattle.std.specs.Option.{option_map_or}
use Rattle.std.specs.List.{list_any, list_all}
use Rattle.std.proofs.lemmas.List.{length-map}
use Rattle.std.proofs.lemmas.Bool.{and_parts}
use Rattle.num_ends.specs.Decimal.{Decimal, trimmed}
use Rattle.pddl_terms.specs.declared.names.Atom.{Atom}
use Rattle.pddl_terms.specs.declared.names.Sig.{Sig}
use Rattle.pddl_terms.specs.Readable.{IsReadable, IsReadableSignature, is_readable_atom}
use Rattle.name_table.specs.Tables.{numbered, table_number}
use Rattle.name_table.specs.TypedLists.{names_of}
use Rattle.pddl_types.specs.declared.faults.Side.TheVariants as side
use Rattle.pddl_types.specs.declared.pairs.Pair.{Pair}
use Rattle.pddl_types.specs.Contents.{Use, all_used, schema_uses, uses_in}
use Rattle.pddl_types.specs.Pairs.{changed_heads, heads_of, objects_of}
use Rattle.pddl_types.specs.WellFormed.{AreDistinct, Declares, Each, Stands, texts_of, WellFormed}
use Rattle.pddl_types.proofs.Empties.{each_four_append}
use Rattle.pddl_types.proofs.Distinct.{distinct_halves, texts_append}
use Rattle.pddl_types.proofs.Found.{names_append}
use Rattle.static_facts.specs.Atoms.{atom_of, fact_atom, fluent_atom, head_text, is_true_at_first, same_atom, value_at_first}
use Rattle.static_facts.specs.Codes.{coded}
use Rattle.static_facts.specs.Fixed.{changed_predicate_heads, is_fixed_function, is_fixed_predicate}
use Rattle.static_facts.specs.internal.Keys.{coded_value, fact_key, fluent_key, has_code, is_coded_fact}
use Rattle.static_facts.specs.internal.Stored.{IsStored}
use Rattle.static_facts.proofs.Keyed.{AreNamed, IsWritten, keyed}
use Rattle.static_facts.proofs.ChangedNames.{each_of, flags_fixed, no_empty_function, no_empty_predicate}

-- ---- look-ups by a code that may not be there

any_of_two : (f g : ℕ → Bool) (code : Option ℕ) → option_map_or (λ c. f c || g c) code false ≡ (option_map_or f code false || option_map_or g code false)
any_of_two f g None = refl
any_of_two f g (Some c) = refl

any_keyed : {A : Type 0} (key : A → Option ℕ) (same : A → Bool) (code : Option ℕ) (xs : List A) → Each (λ a. option_map_or (λ c. has_code c (key a)) code false ≡ same a) xs
    → option_map_or (λ c. list_any (λ a. has_code c (key a)) xs) code false ≡ list_any same xs
any_keyed key same None [] h = refl
any_keyed key same (Some c) [] h = refl
any_keyed {A} key same code (x ∷ xs) h =
    any_of_two (λ c. has_code c (key x)) (λ c. list_any (λ (a : A). has_code c (key a)) xs) code
    ∙ ap (λ (t : Bool). t || option_map_or (λ c. list_any (λ (a : A). has_code c (key a)) xs) code false) h.0
    ∙ ap (λ (t : Bool). same x || t) (any_keyed key same code xs h.1)

find_keyed : {A : Type 0} (key : A → Option ℕ) (same : A → Bool) (code : Option ℕ) (xs : List A) → Each (λ a. option_map_or (λ c. has_code c (key a)) code false ≡ same a) xs
    → option_and_then (λ c. find (λ a. has_code c (key a)) xs) code ≡ find same xs
find_keyed key same None [] h = refl
find_keyed key same (Some c) [] h = refl
find_keyed key same None (x ∷ xs) h = find_keyed key same None xs h.1 ∙ ap (λ (t : Bool). cond t (Some x) (find same xs)) h.0
find_keyed {A} key same (Some c) (x ∷ xs) h =
    ap (λ (t : Bool). cond t (Some x) (find (λ (a : A). has_code c (key a)) xs)) h.0
    ∙ ap (cond (same x) (Some x)) (find_keyed key same (Some c) xs h.1)

then_mapped : {A B : Type 0} (f : A → B) (found : ℕ → Option A) (code : Option ℕ) → option_and_then (λ c. option_map f (found c)) code ≡ option_map f (option_and_then found code)
then_mapped f found None = refl
then_mapped f found (Some c) = refl

or_agree : (f g : ℕ → Bool) → ((c : ℕ) → f c ≡ g c) → (code : Option ℕ) → option_map_or f code false ≡ option_map_or g code false
or_agree f g h None = refl
or_agree f g h (Some c) = h c

and_agree : {A : Type 0} (f g : ℕ → Option A) → ((c : ℕ) → f c ≡ g c) → (code : Option ℕ) → option_and_then f code ≡ option_and_then g code
and_agree f g h None = refl
and_agree f g h (Some c) = h c

-- ---- the atoms of the initial state have few arguments

stands_short : (s : Sig) (sigs : List Sig) → Each IsReadableSignature sigs → Stands s sigs → length s.params ≤ 8
stands_short s [] h t = absurd t
stands_short s (g ∷ sigs) h t = elim t [ inl e ↦ subst (λ x. length x.params ≤ 8) (sym e) h.0.few_params | inr u ↦ stands_short s sigs h.1 u ]

module _ (p : Pair) (well : WellFormed p) (readable : IsReadable p.domain p.problem) where
  -- atoms whose heads are declared with few parameters have few arguments
  few_arguments : {A : Type 0} (use_of : A → Use) (xs : List A) → Each (λ u. (s : Sig) × Declares p.domain u.sort u.atom.head.text s) (map use_of xs)
      → Each (λ u. (s : Sig) → Declares p.domain u.sort u.atom.head.text s → length s.params ≡ length u.atom.args) (map use_of xs)
      → ((x : A) (s : Sig) → Declares p.domain (use_of x).sort (use_of x).atom.head.text s → length s.params ≤ 8) → Each (λ x. length (use_of x).atom.args ≤ 8) xs
  few_arguments use_of [] h k few = tt
  few_arguments use_of (x ∷ xs) h k few =
      let same = k.0 h.0.0 h.0.1 in
      let short = few x h.0.0 h.0.1 in
      (omega (arith, same, short), few_arguments use_of xs h.1 k.1 few)

  short_facts : Each (λ a. length a.args ≤ 8) p.problem.facts
  short_facts =
      let known = (each_four_append (λ u. (s : Sig) × Declares p.domain u.sort u.atom.head.text s) (flat_map schema_uses p.domain.schemas) (all_used side.Problem [] _ p.problem.facts)
      (all_used side.Problem [] _ (map (λ v. v.0) p.problem.values)) (uses_in side.Problem [] p.problem.goal)).0 well.heads_known in
      let agree = (each_four_append (λ u. (s : Sig) → Declares p.domain u.sort u.atom.head.text s → length s.params ≡ length u.atom.args) (flat_map schema_uses p.domain.schemas)
      (all_used side.Problem [] _ p.problem.facts) (all_used side.Problem [] _ (map (λ v. v.0) p.problem.values)) (uses_in side.Problem [] p.problem.goal)).0 well.arities_agree in
      few_arguments (λ a. record { side = side.Problem; params = []; sort = _; atom = a }) p.problem.facts known.1 agree.1
      (λ a s d. stands_short s p.domain.predicates (each_of IsReadableSignature p.domain.predicates readable.domain.predicates) d.stands)

  short_values : Each (λ a. length a.args ≤ 8) (map (λ v. v.0) p.problem.values)
  short_values =
      let known = (each_four_append (λ u. (s : Sig) × Declares p.domain u.sort u.atom.head.text s) (flat_map schema_uses p.domain.schemas) (all_used side.Problem [] _ p.problem.facts)
      (all_used side.Problem [] _ (map (λ v. v.0) p.problem.values)) (uses_in side.Problem [] p.problem.goal)).0 well.heads_known in
      let agree = (each_four_append (λ u. (s : Sig) → Declares p.domain u.sort u.atom.head.text s → length s.params ≡ length u.atom.args) (flat_map schema_uses p.domain.schemas)
      (all_used side.Problem [] _ p.problem.facts) (all_used side.Problem [] _ (map (λ v. v.0) p.problem.values)) (uses_in side.Problem [] p.problem.goal)).0 well.arities_agree in
      few_arguments (λ a. record { side = side.Problem; params = []; sort = _; atom = a }) (map (λ v. v.0) p.problem.values) known.2 agree.2
      (λ a s d. stands_short s p.domain.functions (each_of IsReadableSignature p.domain.functions readable.domain.functions) d.stands)

  written_facts : (facts : List Atom) → list_all is_readable_atom facts ≡ true → Each (λ a. length a.args ≤ 8) facts → Each (IsWritten (heads_of p.domain.predicates)) facts
  written_facts [] r h = tt
  written_facts (a ∷ facts) r h =
      let both = and_parts (is_readable_atom a) (list_all is_readable_atom facts) r in
      (record { readable = both.0; few = h.0 }, written_facts facts both.1 h.1)

  written_values : (values : List (Atom × Decimal)) → list_all (λ v. is_readable_atom v.0) values ≡ true → Each (λ a. length a.args ≤ 8) (map (λ v. v.0) values)
      → Each (λ v. IsWritten (heads_of p.domain.functions) v.0) values
  written_values [] r h = tt
  written_values (v ∷ values) r h =
      let both = and_parts (is_readable_atom v.0) (list_all (λ w. is_readable_atom w.0) values) r in
      (record { readable = both.0; few = h.0 }, written_values values both.1 h.1)

  -- ---- names stand once

  objects_once : AreDistinct (texts_of (names_of (objects_of p)))
  objects_once = subst (λ ns. AreDistinct (texts_of ns)) (sym (names_append p.domain.constants p.problem.objects)) well.objects_once

  few_objects : length (names_of (objects_of p)) ≤ 4095
  few_objects =
      let named = length-map (objects_of p) (λ t. t.name) in
      let sum = length-append p.domain.constants p.problem.objects in
      let left : length p.domain.constants ≤ 1024 = readable.domain.few_constants in
      let right : length p.problem.objects ≤ 1024 = readable.problem.few_objects in
      omega (arith, named, sum, left, right)

  heads_apart : AreDistinct (texts_of (heads_of p.domain.predicates)) × AreDistinct (texts_of (heads_of p.domain.functions))
  heads_apart =
      let both = (distinct_halves (texts_of (heads_of p.domain.predicates)) (texts_of (heads_of p.domain.functions))).0
      (subst AreDistinct (texts_append (heads_of p.domain.predicates) (heads_of p.domain.functions)) well.heads_once) in
      (both.0, both.1)

  predicates_named : AreNamed p (heads_of p.domain.predicates)
  predicates_named = record { heads_once = heads_apart.0; objects_once = objects_once; few_objects = few_objects }

  functions_named : AreNamed p (heads_of p.domain.functions)
  functions_named = record { heads_once = heads_apart.1; objects_once = objects_once; few_objects = few_objects }

  -- ---- facts and values by codes

  facts_keyed : (n : ℕ) (os : List ℕ) (facts : List Atom) → Each (IsWritten (heads_of p.domain.predicates)) facts
      → Each (λ a. option_map_or (λ c. has_code c (fact_key p a)) (coded n os) false ≡ same_atom (fact_atom p n os) (atom_of [] [] a)) facts
  facts_keyed n os [] h = tt
  facts_keyed n os (a ∷ facts) h = (keyed p (heads_of p.domain.predicates) predicates_named a h.0 n os, facts_keyed n os facts h.1)

  values_keyed : (n : ℕ) (os : List ℕ) (values : List (Atom × Decimal)) → Each (λ v. IsWritten (heads_of p.domain.functions) v.0) values
      → Each (λ v. option_map_or (λ c. has_code c (fluent_key p v.0)) (coded n os) false ≡ same_atom (fluent_atom p n os) (atom_of [] [] v.0)) values
  values_keyed n os [] h = tt
  values_keyed n os (v ∷ values) h = (keyed p (heads_of p.domain.functions) functions_named v.0 h.0 n os, values_keyed n os values h.1)

  found_fact : (facts : ℕ → Bool) → ((c : ℕ) → facts c ≡ is_coded_fact p c p.problem.facts) → (n : ℕ) (os : List ℕ)
      → option_map_or facts (coded n os) false ≡ is_true_at_first p (fact_atom p n os)
  unfolding is_true_at_first
  found_fact facts h n os =
      or_agree facts (λ c. is_coded_fact p c p.problem.facts) h (coded n os)
      ∙ any_keyed (fact_key p) (λ a. same_atom (fact_atom p n os) (atom_of [] [] a)) (coded n os) p.problem.facts
      (facts_keyed n os p.problem.facts (written_facts p.problem.facts readable.problem.facts short_facts))

  found_value : (values : ℕ → Option Decimal) → ((c : ℕ) → values c ≡ coded_value p c p.problem.values) → (n : ℕ) (os : List ℕ)
      → option_and_then values (coded n os) ≡ value_at_first p (fluent_atom p n os)
  unfolding value_at_first
  found_value values h n os =
      and_agree values (λ c. coded_value p c p.problem.values) h (coded n os)
      ∙ then_mapped (λ v. trimmed v.1) (λ c. find (λ (v : Atom × Decimal). has_code c (fluent_key p v.0)) p.problem.values) (coded n os)
      ∙ ap (option_map (λ v. trimmed v.1))
      (find_keyed (λ (v : Atom × Decimal). fluent_key p v.0) (λ v. same_atom (fluent_atom p n os) (atom_of [] [] v.0)) (coded n os) p.problem.values
      (values_keyed n os p.problem.values (written_values p.problem.values readable.problem.values short_values)))

  found_predicate : (table : List (List ℕ × ℕ)) → table ≡ numbered (changed_predicate_heads p.domain.schemas) → (n : ℕ)
      → unwrap_or (slice_get (map (λ s. not (is_some (table_number s.name.text table))) p.domain.predicates) n) true ≡ is_fixed_predicate p (head_text p.domain.predicates n)
  unfolding is_fixed_predicate
  found_predicate table is n = flags_fixed (changed_predicate_heads p.domain.schemas) table is (no_empty_predicate p.domain.schemas readable.domain.schemas) p.domain.predicates n

  found_function : (table : List (List ℕ × ℕ)) → table ≡ numbered (changed_heads p.domain.schemas) → (n : ℕ)
      → unwrap_or (slice_get (map (λ s. not (is_some (table_number s.name.text table))) p.domain.functions) n) true ≡ is_fixed_function p (head_text p.domain.functions n)
  unfolding is_fixed_function
  found_function table is n = flags_fixed (changed_heads p.domain.schemas) table is (no_empty_function p.domain.schemas readable.domain.schemas) p.domain.functions n

  -- what is kept of the pair, part by part
  pub stored : (changed_p changed_f : List (List ℕ × ℕ)) (predicates functions : List Bool) (facts : ℕ → Bool) (values : ℕ → Option Decimal)
      → changed_p ≡ numbered (changed_predicate_heads p.domain.schemas) → changed_f ≡ numbered (changed_heads p.domain.schemas)
      → predicates ≡ map (λ s. not (is_some (table_number s.name.text changed_p))) p.domain.predicates
      → functions ≡ map (λ s. not (is_some (table_number s.name.text changed_f))) p.domain.functions
      → ((c : ℕ) → facts c ≡ is_coded_fact p c p.problem.facts) → ((c : ℕ) → values c ≡ coded_value p c p.problem.values)
      → IsStored p predicates functions facts values
  stored changed_p changed_f predicates functions facts values tp tf fp ff hf hv =
      record {
        fixed_predicates = λ n. ap (λ (fs : List Bool). unwrap_or (slice_get fs n) true) fp ∙ found_predicate changed_p tp n;
        fixed_functions = λ n. ap (λ (fs : List Bool). unwrap_or (slice_get fs n) true) ff ∙ found_function changed_f tf n;
        true_facts = found_fact facts hf;
        first_values = found_value values hv;
      }
