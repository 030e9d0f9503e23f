-- What holds of each pattern of an action under a binding.
use Rattle.std.proofs.Common.{◌≡◌, ◌<◌, ◌+◌, ◌&&◌, ◌==◌, ℕ, zero, suc, Bool, true, false, not, List, [], ◌∷◌, map, length, drop, get_or, Option, Some, None, refl, sym, ap, subst, ◌∙◌, arith, eqb-true, eq-eqb}
use Rattle.std.specs.Prelude.{is_some}
use Rattle.num_ends.specs.Decimal.{Decimal}
use Rattle.pddl_terms.specs.declared.actions.Schema.{Schema}
use Rattle.ground_meaning.specs.Actions.{each_once, with_new}
use Rattle.std.specs.List.{list_all}
use Rattle.pddl_terms.specs.declared.names.Atom.{Atom}
use Rattle.pddl_terms.specs.declared.names.Typed.{Typed}
use Rattle.pddl_types.specs.declared.pairs.Pair.{Pair}
use Rattle.pddl_types.specs.Pairs.{objects_of}
use Rattle.pddl_types.specs.WellFormed.{Each}
use Rattle.bound_actions.specs.Patterns.{AreBoundBy, IsBoundBy, pattern, pattern_pair, patterns}

-- what holds of each holds of the one at a place
pub each_at : {A : Type 0} (P : A → Type 0) (xs : List A) (i : ℕ) (d : A) → Each P xs → i < length xs → P (get_or xs i d)
each_at P [] i d h within = absurd (omega (arith, within))
each_at P (x ∷ xs) zero d h within = h.0
each_at P (x ∷ xs) (suc i) d h within = each_at P xs i d h.1 (omega (arith, within))

module _ (p : Pair) (params : List Typed) (os : List ℕ) (as_many : length os ≡ length params) (known : Each (λ o. o < length (objects_of p)) os) where
  pub all_bound : (atoms : List Atom) → Each (IsBoundBy os) (patterns p params atoms)
  all_bound [] = tt
  all_bound (a ∷ atoms) = ((as_many, known), all_bound atoms)

  pub pairs_bound : (pairs : List (Atom × Atom)) → Each (AreBoundBy os) (map (pattern_pair p params) pairs)
  pairs_bound [] = tt
  pairs_bound (c ∷ pairs) = (((as_many, known), (as_many, known)), pairs_bound pairs)

-- ---- one after another

dropped_first : {A : Type 0} (xs : List A) (i : ℕ) (d : A) → i < length xs → drop i xs ≡ get_or xs i d ∷ drop (suc i) xs
dropped_first [] i d within = absurd (omega (arith, within))
dropped_first (x ∷ xs) zero d within = refl
dropped_first (x ∷ xs) (suc i) d within = dropped_first xs i d (omega (arith, within))

dropped_one : {A : Type 0} (xs : List A) (i : ℕ) (d : A) → i < length xs → drop i xs ≡ get_or xs i d ∷ drop (i + 1) xs
dropped_one xs i d within =
    let next : suc i ≡ i + 1 = omega arith in
    dropped_first xs i d within ∙ ap (λ (n : ℕ). get_or xs i d ∷ drop n xs) next

module _ {A : Type 0} (test : A → Bool) (xs : List A) (i : ℕ) (x : A) (within : i < length xs) (is : x ≡ get_or xs i x) where
  next_tested : list_all test (drop i xs) ≡ (test x && list_all test (drop (i + 1) xs))
  next_tested = ap (list_all test) (dropped_one xs i x within) ∙ ap (λ (y : A). test y && list_all test (drop (i + 1) xs)) (sym is)

  pub all_so_far : test x ≡ true → (whole : Bool) → list_all test (drop i xs) ≡ whole → list_all test (drop (i + 1) xs) ≡ whole
  all_so_far h whole k = sym (ap (λ (b : Bool). b && list_all test (drop (i + 1) xs)) h) ∙ sym next_tested ∙ k

  pub one_fails : test x ≡ false → (whole : Bool) → list_all test (drop i xs) ≡ whole → false ≡ whole
  one_fails h whole k = sym (ap (λ (b : Bool). b && list_all test (drop (i + 1) xs)) h) ∙ sym next_tested ∙ k

-- codes one after another, each once
pub once_more : {A : Type 0} (f : A → ℕ) (xs : List A) (i : ℕ) (x : A) → i < length xs → x ≡ get_or xs i x → (codes new : List ℕ) (code : ℕ) → code ≡ f x → new ≡ with_new codes code
    → (whole : List ℕ) → each_once codes (map f (drop i xs)) ≡ whole → each_once new (map f (drop (i + 1) xs)) ≡ whole
once_more f xs i x within is codes new code same more whole k =
    ap (λ (ns : List ℕ). each_once ns (map f (drop (i + 1) xs))) (more ∙ ap (with_new codes) (same ∙ ap f is)) ∙ sym (ap (λ (ys : List _). each_once codes (map f ys)) (dropped_one xs i x within)) ∙ k

-- ---- tests

pub set_alike : (o v : Option Decimal) (b : Bool) → o ≡ v → is_some o ≡ b → is_some v ≡ b
set_alike o v b e h = sym (ap is_some e) ∙ h

pub same_codes : (a b x y : ℕ) → a ≡ x → b ≡ y → a ≡ b → not (x == y) ≡ false
same_codes a b x y e f h = ap not (eq-eqb x y (sym e ∙ h ∙ f))

pub other_codes : (a b x y : ℕ) → a ≡ x → b ≡ y → (a ≡ b → ⊥) → not (x == y) ≡ true
other_codes a b x y e f h = by_test (x == y) refl
  where
    by_test : (test : Bool) → (x == y) ≡ test → not test ≡ true
    by_test true is = absurd (h (e ∙ eqb-true x y is ∙ sym f))
    by_test false is = refl

-- ---- seen from the value of a part

module _ (p : Pair) (s : Schema) (w : Pair × Schema) (view : (p, s) ≡ w) (os : List ℕ) where
  pub many_in : length os ≡ length w.1.params → length os ≡ length s.params
  many_in h = h ∙ ap (λ (z : Pair × Schema). length z.1.params) (sym view)

  pub known_in : Each (λ o. o < length (objects_of w.0)) os → Each (λ o. o < length (objects_of p)) os
  known_in h = subst (λ (z : Pair × Schema). Each (λ o. o < length (objects_of z.0)) os) (sym view) h

  pub bound_patterns : (items : List (Pair × List Typed × Atom)) (atoms : List Atom) → items ≡ patterns p s.params atoms → length os ≡ length w.1.params
      → Each (λ o. o < length (objects_of w.0)) os → Each (IsBoundBy os) items
  bound_patterns items atoms is as_many known = subst (Each (IsBoundBy os)) (sym is) (all_bound p s.params os (many_in as_many) (known_in known) atoms)
