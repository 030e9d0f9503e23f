-- How many different numbers a list has once one more stands at its end.
use Rattle.std.proofs.Common.{◌≡◌, ℕ, suc, ◌+◌, ◌==◌, Bool, true, false, cond, ◌||◌, List, [], ◌∷◌, ◌++◌, length, eq-eqb, ne_eqb, inl, inr, sym, refl, ap, ◌∙◌, arith}
use Rattle.std.proofs.lemmas.Bool.{eqb-true}
use Rattle.std.proofs.lemmas.Bool.Decides.{eqb_tells}
use Rattle.std.specs.Set.{is_member, unique_keys, distinct_count}

abbrev pub same : ℕ → ℕ → Bool
same f g = f == g

or_last : (a b : Bool) → (a || (b || false)) ≡ (a || b)
or_last a true = refl
or_last a false = refl

or_true : (a : Bool) → (a || true) ≡ true
or_true true = refl
or_true false = refl

or_false : (a : Bool) → (a || false) ≡ a
or_false true = refl
or_false false = refl

or_within : (a b c : Bool) → (a || (b || c)) ≡ ((a || b) || c)
or_within true b c = refl
or_within false b c = refl

pub member_last : (xs : List ℕ) (x q : ℕ) → is_member same (xs ++ x ∷ []) q ≡ (is_member same xs q || (q == x))
member_last [] x q = or_last false (q == x)
member_last (y ∷ ys) x q = ap (λ (b : Bool). (q == y) || b) (member_last ys x q) ∙ or_within (q == y) (is_member same ys q) (q == x)

other_step : (b m : Bool) (n : ℕ) → cond b (n + cond m 0 1) (suc (n + cond m 0 1)) ≡ cond b n (suc n) + cond m 0 1
other_step true m n = refl
other_step false m n = omega arith

here_step : (m : Bool) (n : ℕ) → n + cond m 0 1 ≡ cond m n (suc n) + 0
here_step true n = omega arith
here_step false n = omega arith

-- the first of the list, y, is the last one, x, or it isn't
combine : (b b' my mx m : Bool) (n k : ℕ) → m ≡ (my || b) → b' ≡ b → k ≡ n + cond mx 0 1 → (b ≡ true → my ≡ mx)
    → cond m k (suc k) ≡ cond my n (suc n) + cond (b' || mx) 0 1
combine true b' my mx m n k e s d both = (λ i. cond ((e ∙ or_true my) i) (d i) (suc (d i))) ∙ (here_step mx n ∙ (λ i. cond (sym (both refl) i) n (suc n) + cond (sym s i || mx) 0 1))
combine false b' my mx m n k e s d both = (λ i. cond ((e ∙ or_false my) i) (d i) (suc (d i))) ∙ (other_step my mx n ∙ (λ i. cond my n (suc n) + cond (sym s i || mx) 0 1))

eq_turned : (x y : ℕ) → (x == y) ≡ (y == x)
eq_turned x y =
    elim (eqb_tells x y) [
      | inl h ↦ h.0 ∙ sym (eq-eqb y x (sym h.1))
      | inr h ↦ h.0 ∙ sym (ne_eqb y x (λ e. h.1 (sym e)))
    ]

-- how often a number at the end counts
pub count_last : (xs : List ℕ) (x : ℕ) → distinct_count same (xs ++ x ∷ []) ≡ distinct_count same xs + cond (is_member same xs x) 0 1
count_last [] x = refl
count_last (y ∷ ys) x = count_step (is_member same (ys ++ x ∷ []) y) (unique_keys same (ys ++ x ∷ [])) y
    ∙ (combine (y == x) (x == y) (is_member same ys y) (is_member same ys x) (is_member same (ys ++ x ∷ []) y) (distinct_count same ys) (distinct_count same (ys ++ x ∷ []))
    (member_last ys x y) (eq_turned x y) (count_last ys x) (λ e. ap (is_member same ys) (eqb-true y x e))
    ∙ ap (λ (n : ℕ). n + cond (is_member same (y ∷ ys) x) 0 1) (sym (count_step (is_member same ys y) (unique_keys same ys) y)))
  where
    count_step : (b : Bool) (us : List ℕ) (y : ℕ) → length (cond b us (y ∷ us)) ≡ cond b (length us) (suc (length us))
    count_step true us y = refl
    count_step false us y = refl
