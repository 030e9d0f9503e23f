-- Legal arguments are the names of a tuple of objects that fit.
use Rattle.std.proofs.Common.{◌≡◌, ◌<◌, ◌≤◌, ◌+◌, ℕ, zero, suc, Bool, true, false, List, [], ◌∷◌, map, length, take, Option, Some, None, refl, sym, ap, ap₂, subst, ◌∙◌, inl, inr, arith, cond}
use Rattle.std.specs.Prelude.{bytes_eq, filter, find, slice_get}
use Rattle.std.specs.Option.{option_map_or}
use Rattle.std.specs.List.{list_all, range_with_len}
use Rattle.std.proofs.lemmas.Bool.{cases_lt}
use Rattle.std.proofs.lemmas.Slice.Eq.{bytes_eq-Decides}
use Rattle.num_ends.specs.Names.{is_name}
use Rattle.pddl_terms.specs.declared.names.Typed.{Typed}
use Rattle.pddl_terms.specs.declared.actions.Schema.{Schema}
use Rattle.pddl_terms.specs.Readable.{is_readable_item, is_short_name}
use Rattle.name_table.specs.TypedLists.{first_typed}
use Rattle.type_order.specs.Types.{is_within}
use Rattle.pddl_types.specs.declared.pairs.Pair.{Pair}
use Rattle.pddl_types.specs.Pairs.{objects_of}
use Rattle.pddl_types.specs.WellFormed.{Each, Stands}
use Rattle.static_facts.specs.Atoms.{names, object_text, text_at}
use Rattle.static_facts.specs.Bindings.{bindings, fitting, kind_of, prefixes_of, survives, tuples}
use Rattle.pddl_meaning.specs.Steps.{all_fit, fits}
use Rattle.pddl_meaning.proofs.Bounds.{both_true, true_both}
use Rattle.ground_meaning.proofs.KeptActions.{stands_flat, stands_map}

-- ---- lists

pub stands_filter : {A : Type 0} (test : A → Bool) (xs : List A) (x : A) → test x ≡ true → Stands x xs → Stands x (filter test xs)
stands_filter test [] x is s = elim s [ ]
stands_filter test (y ∷ ys) x is (inl e) = subst (λ (t : Bool). Stands x (cond t (y ∷ filter test ys) (filter test ys))) (sym (ap test (sym e) ∙ is)) (inl e)
stands_filter test (y ∷ ys) x is (inr s) = of_test (test y) (stands_filter test ys x is s)
  where
    of_test : (t : Bool) → Stands x (filter test ys) → Stands x (cond t (y ∷ filter test ys) (filter test ys))
    of_test true r = inr r
    of_test false r = r

pub in_range : (from count n : ℕ) → from ≤ n → n < from + count → Stands n (range_with_len from count)
in_range from zero n low high = absurd (omega (arith, low, high))
in_range from (suc count) n low high =
    elim (cases_lt from n) [
      | inl above ↦ inr (in_range (from + 1) count n (omega (arith, above)) (omega (arith, high)))
      | inr below ↦ let same : n ≡ from = omega (arith, low, below) in inl same
    ]

-- the first object of a name
found_at : (text : List ℕ) (xs : List Typed) (own : Typed) → find (λ t. bytes_eq text t.name.text) xs ≡ Some own
    → (n : ℕ) × (n < length xs) × (slice_get xs n ≡ Some own) × (text_at (map (λ t. t.name) xs) n ≡ text)
found_at text [] own h = cc
found_at text (x ∷ xs) own h = by_test (bytes_eq text x.name.text) refl h (λ k. found_at text xs own k)
  where
    by_test : (test : Bool) → bytes_eq text x.name.text ≡ test → cond test (Some x) (find (λ t. bytes_eq text t.name.text) xs) ≡ Some own
        → (find (λ t. bytes_eq text t.name.text) xs ≡ Some own → (n : ℕ) × (n < length xs) × (slice_get xs n ≡ Some own) × (text_at (map (λ t. t.name) xs) n ≡ text))
        → (n : ℕ) × (n < suc (length xs)) × (slice_get (x ∷ xs) n ≡ Some own) × (text_at (map (λ t. t.name) (x ∷ xs)) n ≡ text)
    by_test true is k more = (0, omega arith, k, sym ((bytes_eq-Decides text x.name.text).0 is))
    by_test false is k more = let rest = more k in (suc rest.0, omega (arith, rest.1), rest.2, rest.3)

pub named_at : (xs : List Typed) → list_all is_readable_item xs ≡ true → (n : ℕ) → n < length xs → is_name (text_at (map (λ t. t.name) xs) n) ≡ true
named_at [] h n within = absurd (omega (arith, within))
named_at (x ∷ xs) h zero within =
    (both_true (is_name x.name.text) _ (both_true (is_short_name x.name.text) (is_short_name x.kind.text) (both_true (is_readable_item x) (list_all is_readable_item xs) h).0).0).0
named_at (x ∷ xs) h (suc n) within = named_at xs (both_true (is_readable_item x) (list_all is_readable_item xs) h).1 n (omega (arith, within))

module _ (p : Pair) where
  -- the tuple of objects that arguments name
  pub record AreLegal (params : List Typed) (args : List (List ℕ)) : Type 0 where
    pub objects : List ℕ
    pub known : Each (λ o. o < length (objects_of p)) objects
    pub named : names p objects ≡ args
    pub as_many : length objects ≡ length params
    pub fitting : Stands objects (tuples p params)

  argument_fits : (param : Typed) (arg : List ℕ) → fits p param arg ≡ true → (o : ℕ) × (o < length (objects_of p)) × (object_text p o ≡ arg) × Stands o (fitting p param)
  argument_fits param arg h = by_object (first_typed arg (objects_of p)) refl h
    where
      by_object : (found : Option Typed) → first_typed arg (objects_of p) ≡ found
          → option_map_or (λ own. is_within p.domain.types own.kind.text param.kind.text) found false ≡ true
          → (o : ℕ) × (o < length (objects_of p)) × (object_text p o ≡ arg) × Stands o (fitting p param)
      by_object None is k = cc
      by_object (Some own) is k =
          let at = found_at arg (objects_of p) own is in
          let kind = ap (λ (t : Option Typed). option_map_or (λ t. t.kind.text) t []) at.2 in (
            at.0,
            at.1,
            at.3,
            stands_filter (λ o. is_within p.domain.types (kind_of p o) param.kind.text) (range_with_len 0 (length (objects_of p))) at.0
                (ap (λ (t : List ℕ). is_within p.domain.types t param.kind.text) kind ∙ k) (in_range 0 (length (objects_of p)) at.0 (omega arith) (omega (arith, at.1))),
          )

  pub legal_arguments : (params : List Typed) (args : List (List ℕ)) → all_fit p params args ≡ true → AreLegal params args
  legal_arguments [] [] h = record { objects = []; known = tt; named = refl; as_many = refl; fitting = inl refl }
  legal_arguments [] (a ∷ args) h = cc
  legal_arguments (t ∷ params) [] h = cc
  legal_arguments (t ∷ params) (a ∷ args) h =
      let parts = both_true (fits p t a) (all_fit p params args) h in
      let first = argument_fits t a parts.0 in
      let rest = legal_arguments params args parts.1 in
      record {
        objects = first.0 ∷ rest.objects;
        known = (first.1, rest.known);
        named = ap₂ (λ (u : List ℕ) (us : List (List ℕ)). u ∷ us) first.2 rest.named;
        as_many = ap suc rest.as_many;
        fitting = stands_flat (λ o. map (λ os. o ∷ os) (tuples p params)) (fitting p t) first.0 (first.0 ∷ rest.objects) first.3 (stands_map (λ os. first.0 ∷ os) (tuples p params) rest.objects rest.fitting);
      }

  pub objects_named : list_all is_readable_item (objects_of p) ≡ true → (os : List ℕ) → Each (λ o. o < length (objects_of p)) os → list_all is_name (names p os) ≡ true
  objects_named readable [] known = refl
  objects_named readable (o ∷ os) known = true_both _ _ (named_at (objects_of p) readable o known.0) (objects_named readable os known.1)

  pub whole : {A : Type 0} (xs : List A) → take (length xs) xs ≡ xs
  whole [] = refl
  whole (x ∷ xs) = ap (λ (ys : List _). x ∷ ys) (whole xs)

  -- a legal tuple that survives is a binding
  pub surviving_binding : (s : Schema) (os : List ℕ) → Stands os (tuples p s.params) → survives p s os ≡ true → Stands os (bindings p s)
  unfolding prefixes_of
  surviving_binding s os there survive =
      stands_filter (survives p s) (tuples p (take (length s.params) s.params)) os survive (subst (λ (ts : List Typed). Stands os (tuples p ts)) (sym (whole s.params)) there)
