-- Closures of finite lists of numbers under finite lists of pairs.
use Rattle.std.proofs.Common.{◌≡◌, ◌≤◌, ◌==◌, ◌⊎◌, ℕ, zero, suc, Bool, true, false, List, [], ◌∷◌, length, refl, sym, ap, subst, ◌∙◌, inl, inr, arith, eqb-true, eq-eqb}
use Rattle.pddl_types.specs.WellFormed.{Each, Stands}
use Rattle.ground_meaning.proofs.Lists.{each_stands}

stands_or_not : (n : ℕ) (ns : List ℕ) → Stands n ns ⊎ (Stands n ns → ⊥)
stands_or_not n [] = inr (λ s. elim s [ ])
stands_or_not n (m ∷ ns) = by_test (n == m) refl (stands_or_not n ns)
  where
    by_test : (t : Bool) → (n == m) ≡ t → Stands n ns ⊎ (Stands n ns → ⊥) → Stands n (m ∷ ns) ⊎ (Stands n (m ∷ ns) → ⊥)
    by_test true is rest = inl (inl (eqb-true n m is))
    by_test false is (inl there) = inl (inr there)
    by_test false is (inr not_there) = inr neither
      where
        neither : Stands n (m ∷ ns) → ⊥
        neither (inl e) = let bad = sym is ∙ eq-eqb n m e in cc
        neither (inr s) = not_there s

-- a pair whose first number stands in a list, and the other pairs
record IsPicked (ns : List ℕ) (pairs : List (ℕ × ℕ)) : Type 0 where
  pair : ℕ × ℕ
  others : List (ℕ × ℕ)
  fewer : length pairs ≡ suc (length others)
  begins : Stands pair.0 ns
  there : Stands pair pairs
  parts : (e : ℕ × ℕ) → Stands e pairs → (e ≡ pair) ⊎ Stands e others
  whole : (e : ℕ × ℕ) → Stands e others → Stands e pairs

abbrev NonePicked : List ℕ → List (ℕ × ℕ) → Type 0
NonePicked ns pairs = (e : ℕ × ℕ) → Stands e pairs → Stands e.0 ns → ⊥

pick : (ns : List ℕ) (pairs : List (ℕ × ℕ)) → NonePicked ns pairs ⊎ IsPicked ns pairs
pick ns [] = inl (λ e s k. elim s [ ])
pick ns (d ∷ ds) = by_first (stands_or_not d.0 ns) (pick ns ds)
  where
    none : (Stands d.0 ns → ⊥) → NonePicked ns ds → (e : ℕ × ℕ) → Stands e (d ∷ ds) → Stands e.0 ns → ⊥
    none out rest e (inl same) k = out (subst (λ (u : ℕ × ℕ). Stands u.0 ns) same k)
    none out rest e (inr s) k = rest e s k

    later : (q : IsPicked ns ds) (e : ℕ × ℕ) → Stands e (d ∷ ds) → (e ≡ q.pair) ⊎ Stands e (d ∷ q.others)
    later q e (inl same) = inr (inl same)
    later q e (inr s) = elim (q.parts e s) [ inl same ↦ inl same | inr more ↦ inr (inr more) ]

    back : (q : IsPicked ns ds) (e : ℕ × ℕ) → Stands e (d ∷ q.others) → Stands e (d ∷ ds)
    back q e (inl same) = inl same
    back q e (inr s) = inr (q.whole e s)

    by_first : Stands d.0 ns ⊎ (Stands d.0 ns → ⊥) → NonePicked ns ds ⊎ IsPicked ns ds → NonePicked ns (d ∷ ds) ⊎ IsPicked ns (d ∷ ds)
    by_first (inl begins) rest =
        inr (record { pair = d; others = ds; fewer = refl; begins = begins; there = inl refl; parts = λ e s. s; whole = λ e s. inr s })
    by_first (inr out) (inl rest) = inl (none out rest)
    by_first (inr out) (inr q) =
        inr (record { pair = q.pair; others = d ∷ q.others; fewer = ap suc q.fewer; begins = q.begins; there = inr q.there; parts = later q; whole = back q })

-- numbers of which each has a property that pairs hand on, with some numbers, and closed under the pairs
pub record IsClosure (P : ℕ → Type 0) (base : List ℕ) (pairs : List (ℕ × ℕ)) : Type 0 where
  pub numbers : List ℕ
  pub have : Each P numbers
  pub with_base : (n : ℕ) → Stands n base → Stands n numbers
  pub closed : (e : ℕ × ℕ) → Stands e pairs → Stands e.0 numbers → Stands e.1 numbers

module _ (P : ℕ → Type 0) where
  closed_already : (base : List ℕ) (pairs : List (ℕ × ℕ)) → Each P base → NonePicked base pairs → IsClosure P base pairs
  closed_already base pairs have out = record { numbers = base; have = have; with_base = λ n s. s; closed = λ e s k. absurd (out e s k) }

  with_picked : (base : List ℕ) (pairs : List (ℕ × ℕ)) (q : IsPicked base pairs) → IsClosure P (q.pair.1 ∷ base) q.others → IsClosure P base pairs
  with_picked base pairs q rest = record {
    numbers = rest.numbers;
    have = rest.have;
    with_base = λ n s. rest.with_base n (inr s);
    closed = λ e s k. by_part e k (q.parts e s);
  }
    where
      by_part : (e : ℕ × ℕ) → Stands e.0 rest.numbers → (e ≡ q.pair) ⊎ Stands e q.others → Stands e.1 rest.numbers
      by_part e k (inl same) = rest.with_base e.1 (inl (ap (λ (u : ℕ × ℕ). u.1) same))
      by_part e k (inr more) = rest.closed e more k

  -- each pair is picked at most once
  close : (room : ℕ) (base : List ℕ) (pairs : List (ℕ × ℕ)) → length pairs ≤ room → Each P base → ((e : ℕ × ℕ) → Stands e pairs → P e.0 → P e.1) → IsClosure P base pairs
  close zero base pairs fits have hands =
      elim (pick base pairs) [
        | inl out ↦ closed_already base pairs have out
        | inr q ↦ absurd (omega (arith, fits, q.fewer))
      ]
  close (suc room) base pairs fits have hands =
      elim (pick base pairs) [
        | inl out ↦ closed_already base pairs have out
        | inr q ↦ with_picked base pairs q (close room (q.pair.1 ∷ base) q.others (omega (arith, fits, q.fewer))
            (hands q.pair q.there (each_stands P base q.pair.0 have q.begins), have) (λ e s. hands e (q.whole e s)))
      ]

  pub closure : (base : List ℕ) (pairs : List (ℕ × ℕ)) → Each P base → ((e : ℕ × ℕ) → Stands e pairs → P e.0 → P e.1) → IsClosure P base pairs
  closure base pairs have hands = close (length pairs) base pairs (omega arith) have hands
