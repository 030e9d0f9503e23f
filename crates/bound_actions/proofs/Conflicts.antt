-- Numeric effects in conflict, pair by pair.
use Rattle.std.proofs.Common.{◌≡◌, ◌≤◌, ◌&&◌, ◌||◌, ◌==◌, ◌++◌, ℕ, zero, suc, Bool, true, false, not, List, [], ◌∷◌, length, refl, sym, ap, ap₂, subst, ◌∙◌, inl, inr, arith, cond, eqb-true}
use Rattle.std.specs.Prelude.{bytes_eq, filter, flat_map, nat_le, if◌then◌else◌}
use Rattle.std.specs.Bool.{one_answer}
use Rattle.std.specs.List.{list_all}
use Rattle.std.proofs.lemmas.Bool.Decides.{nat_tests}
use Rattle.std.proofs.lemmas.List.Folds.{list_all-append}
use Rattle.std.proofs.lemmas.Slice.Eq.{bytes_eq-Decides}
use Rattle.pddl_types.specs.WellFormed.{Stands}
use Rattle.pddl_meaning.specs.Effects.{NumericEffect, are_compatible, effects_on, is_joined}

-- ---- tests

all_two : {A : Type 0} (f g : A → Bool) (xs : List A) → (list_all f xs && list_all g xs) ≡ list_all (λ x. f x && g x) xs
all_two f g [] = refl
all_two f g (x ∷ xs) = shuffled (f x) (list_all f xs) (g x) (list_all g xs) ∙ ap (λ (b : Bool). (f x && g x) && b) (all_two f g xs)
  where
    shuffled : (a b c d : Bool) → ((a && b) && (c && d)) ≡ ((a && c) && (b && d))
    shuffled true true c d = refl
    shuffled true false true d = refl
    shuffled true false false d = refl
    shuffled false b c d = refl

pub all_same : {A : Type 0} (f g : A → Bool) → ((x : A) → f x ≡ g x) → (xs : List A) → list_all f xs ≡ list_all g xs
all_same f g same [] = refl
all_same f g same (x ∷ xs) = ap₂ (λ (a b : Bool). a && b) (same x) (all_same f g same xs)

pub same_bytes : (s t : List ℕ) → bytes_eq s t ≡ bytes_eq t s
same_bytes s t =
    let forth = bytes_eq-Decides s t in
    let back = bytes_eq-Decides t s in
    one_answer {P = s ≡ t} _ _ forth (λ e. sym (back.0 e), λ e. back.1 (sym e))

-- ---- counts

more_than_one : (n : ℕ) → nat_le (suc (suc n)) 1 ≡ false
more_than_one n = grind (arith, nat_tests)

none_more : {A : Type 0} (test : A → Bool) (xs : List A) → nat_le (suc (length (filter test xs))) 1 ≡ list_all (λ x. not (test x)) xs
none_more test [] = refl
none_more test (x ∷ xs) = by_test (test x) (none_more test xs)
  where
    by_test : (t : Bool) → nat_le (suc (length (filter test xs))) 1 ≡ list_all (λ x. not (test x)) xs
        → nat_le (suc (length (cond t (x ∷ filter test xs) (filter test xs)))) 1 ≡ (not t && list_all (λ x. not (test x)) xs)
    by_test true rest = more_than_one (length (filter test xs))
    by_test false rest = rest

-- one more is one too many
one_more : {A : Type 0} (t : Bool) (x : A) (xs : List A) → 1 ≤ length xs → nat_le (length (cond t (x ∷ xs) xs)) 1 ≡ (not t && nat_le (length xs) 1)
one_more true x [] some = absurd (omega (arith, some))
one_more true x (y ∷ ys) some = more_than_one (length ys)
one_more false x xs some = refl

there : (text : List ℕ) (whole : List NumericEffect) (c : NumericEffect) → text ≡ c.fluent → Stands c whole → 1 ≤ length (effects_on text whole)
there text [] c is s = elim s [ ]
there text (d ∷ whole) c is (inl e) = counted (bytes_eq text d.fluent) ((bytes_eq-Decides text d.fluent).1 (is ∙ ap (λ (x : NumericEffect). x.fluent) e))
  where
    counted : (t : Bool) → t ≡ true → 1 ≤ length (cond t (d ∷ effects_on text whole) (effects_on text whole))
    counted true k = omega arith
    counted false k = cc
there text (d ∷ whole) c is (inr s) = counted (bytes_eq text d.fluent) (there text whole c is s)
  where
    counted : (t : Bool) → 1 ≤ length (effects_on text whole) → 1 ≤ length (cond t (d ∷ effects_on text whole) (effects_on text whole))
    counted true k = omega arith
    counted false k = k

-- ---- one effect and later ones

-- the two effects are joined, or on different fluents
abbrev pub agree : NumericEffect → NumericEffect → Bool
agree c d = (is_joined c.how && is_joined d.how) || not (bytes_eq c.fluent d.fluent)

abbrev is_alone : List NumericEffect → NumericEffect → Bool
is_alone whole d = is_joined d.how || nat_le (length (effects_on d.fluent whole)) 1

module _ (c : NumericEffect) where
  with_first : (whole part : List NumericEffect) → ((d : NumericEffect) → Stands d part → Stands d whole)
      → list_all (is_alone (c ∷ whole)) part ≡ (list_all (λ d. is_joined d.how || not (bytes_eq c.fluent d.fluent)) part && list_all (is_alone whole) part)
  with_first whole [] inside = refl
  with_first whole (d ∷ part) inside =
      ap₂ (λ (a b : Bool). a && b) own (with_first whole part (λ e s. inside e (inr s)))
      ∙ shuffled (is_joined d.how) (not (bytes_eq c.fluent d.fluent)) (nat_le (length (effects_on d.fluent whole)) 1) (list_all (λ e. is_joined e.how || not (bytes_eq c.fluent e.fluent)) part) (list_all (is_alone whole) part)
    where
      counted : nat_le (length (effects_on d.fluent (c ∷ whole))) 1 ≡ (not (bytes_eq c.fluent d.fluent) && nat_le (length (effects_on d.fluent whole)) 1)
      counted =
          one_more (bytes_eq d.fluent c.fluent) c (effects_on d.fluent whole) (there d.fluent whole d refl (inside d (inl refl)))
          ∙ ap (λ (t : Bool). not t && nat_le (length (effects_on d.fluent whole)) 1) (same_bytes d.fluent c.fluent)

      own : is_alone (c ∷ whole) d ≡ (is_joined d.how || (not (bytes_eq c.fluent d.fluent) && nat_le (length (effects_on d.fluent whole)) 1))
      own = ap (λ (t : Bool). is_joined d.how || t) counted

      shuffled : (j n few a b : Bool) → ((j || (n && few)) && (a && b)) ≡ (((j || n) && a) && ((j || few) && b))
      shuffled true n few true b = refl
      shuffled true n few false b = refl
      shuffled false true true true b = refl
      shuffled false true true false b = refl
      shuffled false true false true b = refl
      shuffled false true false false b = refl
      shuffled false false few a b = refl

  first_alone : (whole : List NumericEffect) → is_alone (c ∷ whole) c ≡ list_all (λ d. is_joined c.how || not (bytes_eq c.fluent d.fluent)) whole
  first_alone whole = ap (λ (t : Bool). is_joined c.how || nat_le (length (cond t (c ∷ effects_on c.fluent whole) (effects_on c.fluent whole))) 1) ((bytes_eq-Decides c.fluent c.fluent).1 refl)
      ∙ by_joined (is_joined c.how)
    where
      all_true : (xs : List NumericEffect) → true ≡ list_all (λ _. true) xs
      all_true [] = refl
      all_true (x ∷ xs) = all_true xs

      by_joined : (j : Bool) → (j || nat_le (suc (length (effects_on c.fluent whole))) 1) ≡ list_all (λ d. j || not (bytes_eq c.fluent d.fluent)) whole
      by_joined true = all_true whole
      by_joined false = none_more (λ (d : NumericEffect). bytes_eq c.fluent d.fluent) whole

  -- no effects are in conflict where the first agrees with each later one, and these aren't in conflict
  pub compatible_step : (whole : List NumericEffect) → are_compatible (c ∷ whole) ≡ (list_all (agree c) whole && are_compatible whole)
  unfolding are_compatible
  compatible_step whole =
      ap₂ (λ (a b : Bool). a && b) (first_alone whole) (with_first whole whole (λ d s. s))
      ∙ sym (grouped (list_all (λ d. is_joined c.how || not (bytes_eq c.fluent d.fluent)) whole) (list_all (λ d. is_joined d.how || not (bytes_eq c.fluent d.fluent)) whole) (list_all (is_alone whole) whole))
      ∙ ap (λ (b : Bool). b && list_all (is_alone whole) whole)
      (all_two (λ (d : NumericEffect). is_joined c.how || not (bytes_eq c.fluent d.fluent)) (λ (d : NumericEffect). is_joined d.how || not (bytes_eq c.fluent d.fluent)) whole
      ∙ all_same _ (agree c) (λ d. both_joined (is_joined c.how) (is_joined d.how) (not (bytes_eq c.fluent d.fluent))) whole)
    where
      grouped : (a b d : Bool) → ((a && b) && d) ≡ (a && (b && d))
      grouped true b d = refl
      grouped false b d = refl

      both_joined : (j k n : Bool) → ((j || n) && (k || n)) ≡ ((j && k) || n)
      both_joined true true n = refl
      both_joined true false n = refl
      both_joined false true true = refl
      both_joined false true false = refl
      both_joined false false true = refl
      both_joined false false false = refl
