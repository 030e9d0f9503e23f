-- What is found at the place of a name, and arguments beside parameters.
use Rattle.std.proofs.Common.{◌≡◌, ◌⊎◌, ◌<◌, ◌≤◌, ◌+◌, ◌-◌, inl, inr, nat_eq, drop, get_or, length-drop, ℕ, suc, zero, Bool, true, false, List, [], ◌∷◌, Option, Some, None, map, length, refl, sym, ap, ◌∙◌, arith, cond, if◌then◌else◌}
use Rattle.std.specs.Prelude.{bytes_eq, find, option_map, slice_get}
use Rattle.std.specs.Option.{option_map_or}
use Rattle.std.proofs.lemmas.Bool.Decides.{nat_tests}
use Rattle.pddl_terms.specs.declared.names.Name.{Name}
use Rattle.pddl_terms.specs.declared.names.Typed.{Typed}
use Rattle.pddl_types.specs.declared.pairs.Pair.{Pair}
use Rattle.name_table.specs.Tables.{place_in}
use Rattle.pddl_meaning.specs.Steps.{all_fit}

module _ {X : Type 0} (name_of : X → Name) where
  pub place_within : (text : List ℕ) (items : List X) (n : ℕ) → Some n ≡ place_in text (map name_of items) → n < length items
  place_within text [] n h = cc
  place_within text (x ∷ xs) n h = cases (bytes_eq text (name_of x).text) (place_in text (map name_of xs)) refl h (place_within text xs)
    where
      cases : (test : Bool) (rest : Option ℕ) → place_in text (map name_of xs) ≡ rest → Some n ≡ (if test then Some 0 else option_map (λ place. place + 1) rest)
          → ((m : ℕ) → Some m ≡ place_in text (map name_of xs) → m < length xs) → n < suc (length xs)
      cases true rest is h more = let e : n ≡ 0 = cc in omega arith
      cases false None is h more = cc
      cases false (Some m) is h more = let e : n ≡ m + 1 = cc in let within = more m (sym is) in omega arith

  -- the item at the place of a name is the first one with it
  pub found_at : (text : List ℕ) (items : List X) (n : ℕ) (own : X) → Some n ≡ place_in text (map name_of items) → slice_get items n ≡ Some own → find (λ x. bytes_eq text (name_of x).text) items ≡ Some own
  found_at text [] n own h at = cc
  found_at text (x ∷ xs) n own h at = cases (bytes_eq text (name_of x).text) (place_in text (map name_of xs)) refl h (found_at text xs)
    where
      cases : (test : Bool) (rest : Option ℕ) → place_in text (map name_of xs) ≡ rest → Some n ≡ (if test then Some 0 else option_map (λ place. place + 1) rest)
          → ((m : ℕ) (item : X) → Some m ≡ place_in text (map name_of xs) → slice_get xs m ≡ Some item → find (λ y. bytes_eq text (name_of y).text) xs ≡ Some item)
          → cond test (Some x) (find (λ y. bytes_eq text (name_of y).text) xs) ≡ Some own
      cases true rest is h more = let e : n ≡ 0 = cc in ap (λ (i : ℕ). slice_get (x ∷ xs) i) (sym e) ∙ at
      cases false None is h more = cc
      cases false (Some m) is h more =
          let e : n ≡ suc m = (let f : n ≡ m + 1 = cc in omega arith) in
          more m own (sym is) (ap (λ (i : ℕ). slice_get (x ∷ xs) i) (sym e) ∙ at)

  pub not_found : (text : List ℕ) (items : List X) → None ≡ place_in text (map name_of items) → find (λ x. bytes_eq text (name_of x).text) items ≡ None
  not_found text [] h = refl
  not_found text (x ∷ xs) h = cases (bytes_eq text (name_of x).text) (place_in text (map name_of xs)) refl h (not_found text xs)
    where
      cases : (test : Bool) (rest : Option ℕ) → place_in text (map name_of xs) ≡ rest → None ≡ (if test then Some 0 else option_map (λ place. place + 1) rest)
          → (None ≡ place_in text (map name_of xs) → find (λ y. bytes_eq text (name_of y).text) xs ≡ None)
          → cond test (Some x) (find (λ y. bytes_eq text (name_of y).text) xs) ≡ None
      cases true rest is h more = cc
      cases false None is h more = more (sym is)
      cases false (Some m) is h more = cc

  pub at_place : (items : List X) (n : ℕ) (other : X) → n < length items → slice_get items n ≡ Some (get_or items n other)
  at_place [] n other within = absurd (omega arith)
  at_place (x ∷ xs) zero other within = refl
  at_place (x ∷ xs) (suc n) other within = at_place xs n other (omega arith)

  there_at : (items : List X) (n : ℕ) → n < length items → (item : X) × (slice_get items n ≡ Some item)
  there_at [] n within = absurd (omega arith)
  there_at (x ∷ xs) zero within = (x, refl)
  there_at (x ∷ xs) (suc n) within = there_at xs n (omega arith)

  -- a test of the item at the place of a name is that of the first item with it
  pub tested_at : (test : X → Bool) (text : List ℕ) (items : List X) (n : ℕ) (r : Bool) → Some n ≡ place_in text (map name_of items) → ((own : X) → slice_get items n ≡ Some own → r ≡ test own)
      → r ≡ option_map_or test (find (λ x. bytes_eq text (name_of x).text) items) false
  tested_at test text items n r h each =
      let own = there_at items n (place_within text items n h) in
      each own.0 own.1 ∙ ap (λ (x : Option X). option_map_or test x false) (sym (found_at text items n own.0 h own.1))

-- ---- arguments and parameters

no_rest : (p : Pair) (params : List Typed) (args : List (List ℕ)) → (length params ≡ 0) ⊎ (length args ≡ 0) → all_fit p params args ≡ nat_eq (length params) (length args)
no_rest p [] [] h = grind (arith, nat_tests)
no_rest p [] (a ∷ args) h = grind (arith, nat_tests)
no_rest p (t ∷ params) [] h = grind (arith, nat_tests)
no_rest p (t ∷ params) (a ∷ args) h = elim h [ inl e ↦ absurd (omega arith) | inr e ↦ absurd (omega arith) ]

same_lengths : (a b i : ℕ) → i ≤ a → i ≤ b → nat_eq (a - i) (b - i) ≡ nat_eq a b
same_lengths a b i h k = grind (arith, nat_tests)

pub all_compared : (p : Pair) (params : List Typed) (args : List (List ℕ)) (i : ℕ) → i ≤ length params → i ≤ length args → (length params ≤ i) ⊎ (length args ≤ i)
    → nat_eq (length params) (length args) ≡ all_fit p (drop i params) (drop i args)
all_compared p params args i h k ended =
    sym (same_lengths (length params) (length args) i h k)
    ∙ (λ j. nat_eq (sym (length-drop i params) j) (sym (length-drop i args) j))
    ∙ sym (no_rest p (drop i params) (drop i args) (elim ended [ inl e ↦ inl (let l = length-drop i params in omega arith) | inr e ↦ inr (let l = length-drop i args in omega arith) ]))
