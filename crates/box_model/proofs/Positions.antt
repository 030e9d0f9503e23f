-- The first place at which a test passes, as a loop finds it.
use Rattle.std.proofs.Common.{◌≡◌, ℕ, ◌+◌, ◌<◌, ◌≤◌, Bool, true, false, not, cond, Option, Some, None, List, [], ◌∷◌, length, get_or, drop, sym, refl, ap, ◌∙◌, inl, inr, position}
use Rattle.std.specs.List.{list_all, position_from}
use Rattle.std.proofs.lemmas.Bool.{and_from, cases_Bool}
use Rattle.std.proofs.lemmas.List.{drop_more, drop_all}
use Rattle.std.proofs.lemmas.Iterator.Adapters.{position_from-zero}

module _ {X : Type 0} (test : X → Bool) (xs : List X) (n : ℕ) where
  at_place : (x : X) → n < length xs → x ≡ get_or xs n x → position_from test n (drop n xs) ≡ cond (test x) (Some n) (position_from test (n + 1) (drop (n + 1) xs))
  at_place x h is =
      ap (position_from test n) (drop_more xs n x h) ∙ ap (λ y. cond (test y) (Some n) (position_from test (n + 1) (drop (n + 1) xs))) (sym is)

  pub passed_over : (x : X) → n < length xs → x ≡ get_or xs n x → false ≡ test x → position_from test n (drop n xs) ≡ position_from test (n + 1) (drop (n + 1) xs)
  passed_over x h is fails = at_place x h is ∙ ap (λ (v : Bool). cond v (Some n) (position_from test (n + 1) (drop (n + 1) xs))) (sym fails)

  pub found_at : (x : X) → n < length xs → x ≡ get_or xs n x → true ≡ test x → position_from test n (drop n xs) ≡ position_from test 0 xs → Some n ≡ position test xs
  found_at x h is passes invariant =
      sym (at_place x h is ∙ ap (λ (v : Bool). cond v (Some n) (position_from test (n + 1) (drop (n + 1) xs))) (sym passes)) ∙ invariant ∙ sym (position_from-zero test xs)

  pub not_found : length xs ≤ n → position_from test n (drop n xs) ≡ position_from test 0 xs → None ≡ position_from test 0 xs
  not_found h invariant = ap (position_from test n) (sym (drop_all n xs h)) ∙ invariant

pub none_at_all : {X : Type 0} (test : X → Bool) (xs : List X) → None ≡ position_from test 0 xs → None ≡ position test xs
none_at_all test xs h = h ∙ sym (position_from-zero test xs)

pub none_passes : {X : Type 0} (test : X → Bool) (xs : List X) (i : ℕ) → None ≡ position_from test i xs → list_all (λ x. not (test x)) xs ≡ true
none_passes test [] i h = refl
none_passes test (x ∷ xs) i h =
    elim (cases_Bool (test x)) [
      | inl passes ↦ absurd (not_some i (h ∙ ap (λ (v : Bool). cond v (Some i) (position_from test (i + 1) xs)) passes))
      | inr fails ↦ and_from (not (test x)) _ (ap not fails) (none_passes test xs (i + 1) (h ∙ ap (λ (v : Bool). cond v (Some i) (position_from test (i + 1) xs)) fails))
    ]
  where
    not_some : (i : ℕ) → None ≡ Some i → ⊥
    not_some i e = cc
