-- A list of numbers that grows until it is closed under edges.
use Rattle.std.proofs.Common.{◌≡◌, ◌<◌, ◌≤◌, ◌+◌, ◌++◌, ◌||◌, ◌⊎◌, ℕ, zero, suc, Bool, true, false, List, [], ◌∷◌, inl, inr, length, map, take, slice_index_or, refl, sym, ap, subst, ◌∙◌, arith, append_assoc, eqb-true, eq-eqb}
use Rattle.std.specs.Prelude.{nat_eq, if◌then◌else◌}
use Rattle.std.specs.List.{IsDistinct, list_any}
use Rattle.std.proofs.lemmas.List.{append-nil, length-append, length-map}
use Rattle.std.proofs.lemmas.Map.Made.{length-le_from_is_member}
use Rattle.std.proofs.lemmas.Cmp.{nat_eq_equiv}
use Rattle.indexmap.specs.IndexSet.{insert_all, insert_key}
use Rattle.pddl_types.specs.WellFormed.{Stands}
use Rattle.numbering.specs.internal.Closures.{AreFrom, IsClosure, IsFrom}
use Rattle.numbering.proofs.Lists.{from_map, in_map, left, right, split}

-- ---- a test of members

pub member : (x : ℕ) (xs : List ℕ) → Stands x xs → list_any (nat_eq x) xs ≡ true
member x [] s = elim s [ ]
member x (y ∷ ys) (inl same) = ap (λ (b : Bool). b || list_any (nat_eq x) ys) (eq-eqb x y same)
member x (y ∷ ys) (inr s) = by_test (nat_eq x y) (member x ys s)
  where
    by_test : (test : Bool) → list_any (nat_eq x) ys ≡ true → (test || list_any (nat_eq x) ys) ≡ true
    by_test true e = refl
    by_test false e = e

pub of_member : (x : ℕ) (xs : List ℕ) → list_any (nat_eq x) xs ≡ true → Stands x xs
of_member x [] e = cc
of_member x (y ∷ ys) e = by_test (nat_eq x y) refl e (of_member x ys)
  where
    by_test : (test : Bool) → nat_eq x y ≡ test → (test || list_any (nat_eq x) ys) ≡ true → (list_any (nat_eq x) ys ≡ true → Stands x ys) → Stands x (y ∷ ys)
    by_test true same all rest = inl (eqb-true x y same)
    by_test false same all rest = inr (rest all)

-- ---- one more number

one_front : (ks : List ℕ) (k : ℕ) → (more : List ℕ) × (insert_key nat_eq ks k ≡ ks ++ more)
one_front ks k = by_test (list_any (nat_eq k) ks)
  where
    by_test : (test : Bool) → (more : List ℕ) × ((if test then ks else ks ++ k ∷ []) ≡ ks ++ more)
    by_test true = ([], sym (append-nil ks))
    by_test false = (k ∷ [], refl)

one_kept : (ks : List ℕ) (k x : ℕ) → Stands x ks → Stands x (insert_key nat_eq ks k)
one_kept ks k x s = let front = one_front ks k in subst (λ (l : List ℕ). Stands x l) (sym front.1) (left x ks front.0 s)

one_inside : (ks : List ℕ) (k : ℕ) → Stands k (insert_key nat_eq ks k)
one_inside ks k = by_test (list_any (nat_eq k) ks) refl
  where
    by_test : (test : Bool) → list_any (nat_eq k) ks ≡ test → Stands k (if test then ks else ks ++ k ∷ [])
    by_test true e = of_member k ks e
    by_test false e = right k ks (k ∷ []) (inl refl)

one_from : (ks : List ℕ) (k x : ℕ) → Stands x (insert_key nat_eq ks k) → Stands x ks ⊎ (x ≡ k)
one_from ks k x s = by_test (list_any (nat_eq k) ks) s
  where
    by_test : (test : Bool) → Stands x (if test then ks else ks ++ k ∷ []) → Stands x ks ⊎ (x ≡ k)
    by_test true t = inl t
    by_test false t = elim (split x ks (k ∷ []) t) [ inl here ↦ inl here | inr new ↦ elim new [ inl e ↦ inr e | inr none ↦ elim none [ ] ] ]

-- ---- several

pub all_kept : (ks xs : List ℕ) (x : ℕ) → Stands x ks → Stands x (insert_all nat_eq ks xs)
all_kept ks [] x s = s
all_kept ks (k ∷ xs) x s = all_kept (insert_key nat_eq ks k) xs x (one_kept ks k x s)

pub all_inside : (ks xs : List ℕ) (x : ℕ) → Stands x xs → Stands x (insert_all nat_eq ks xs)
all_inside ks [] x s = elim s [ ]
all_inside ks (k ∷ xs) x (inl e) =
    all_kept (insert_key nat_eq ks k) xs x (subst (λ (y : ℕ). Stands y (insert_key nat_eq ks k)) (sym e) (one_inside ks k))
all_inside ks (k ∷ xs) x (inr s) = all_inside (insert_key nat_eq ks k) xs x s

pub all_from : (ks xs : List ℕ) (x : ℕ) → Stands x (insert_all nat_eq ks xs) → Stands x ks ⊎ Stands x xs
all_from ks [] x s = inl s
all_from ks (k ∷ xs) x s =
    elim (all_from (insert_key nat_eq ks k) xs x s) [
      | inl t ↦ elim (one_from ks k x t) [ inl old ↦ inl old | inr new ↦ inr (inl new) ]
      | inr t ↦ inr (inr t)
    ]

pub all_front : (ks xs : List ℕ) → (more : List ℕ) × (insert_all nat_eq ks xs ≡ ks ++ more)
all_front ks [] = ([], sym (append-nil ks))
all_front ks (k ∷ xs) =
    let first = one_front ks k in
    let rest = all_front (insert_key nat_eq ks k) xs in
    (first.0 ++ rest.0, rest.1 ∙ ap (λ (l : List ℕ). l ++ rest.0) first.1 ∙ append_assoc ks first.0 rest.0)

-- ---- the first numbers of a list, of which one more is looked at

one_more : (xs more : List ℕ) (n d y : ℕ) → n < length xs → Stands y (take (suc n) (xs ++ more)) → Stands y (take n xs) ⊎ (y ≡ slice_index_or xs n d)
one_more [] more n d y below s = absurd (omega (arith, below))
one_more (x ∷ xs) more zero d y below (inl e) = inr e
one_more (x ∷ xs) more zero d y below (inr s) = elim (nothing (xs ++ more) s) [ ]
  where
    nothing : (l : List ℕ) → Stands y (take 0 l) → ⊥
    nothing [] t = t
    nothing (z ∷ l) t = t
one_more (x ∷ xs) more (suc n) d y below (inl e) = inl (inl e)
one_more (x ∷ xs) more (suc n) d y below (inr s) =
    elim (one_more xs more n d y (omega (arith, below)) s) [ inl before ↦ inl (inr before) | inr same ↦ inr same ]

whole : (xs : List ℕ) (n x : ℕ) → length xs ≤ n → Stands x xs → Stands x (take n xs)
whole [] n x upto s = elim s [ ]
whole (y ∷ ys) zero x upto s = absurd (omega (arith, upto))
whole (y ∷ ys) (suc n) x upto (inl e) = inl e
whole (y ∷ ys) (suc n) x upto (inr s) = inr (whole ys n x (omega (arith, upto)) s)

-- ---- the list while it grows

-- all that stands is in the least closed set; the starts stand, and so do the ends of edges from the first so many
pub record IsSpread (starts : List ℕ) (edges : List (ℕ × ℕ)) (keys : List ℕ) (next : ℕ) : Type 0 where
  pub sound : (x : ℕ) → Stands x keys → IsFrom starts edges x
  pub started : (x : ℕ) → Stands x starts → Stands x keys
  pub followed : (y x : ℕ) → Stands (y, x) edges → Stands y (take next keys) → Stands x keys

module _ (starts : List ℕ) (edges : List (ℕ × ℕ)) where
  pub spread_start : (keys : List ℕ) → keys ≡ insert_all nat_eq [] starts → IsSpread starts edges keys 0
  spread_start keys is =
      subst (λ (l : List ℕ). IsSpread starts edges l 0) (sym is)
      (record {
        sound = λ x s. elim (all_from [] starts x s) [ inl none ↦ elim none [ ] | inr there ↦ IsFrom.start x there ];
        started = λ x s. all_inside [] starts x s;
        followed = λ y x edge s. elim (never (insert_all nat_eq [] starts) y s) [ ];
      })
    where
      never : (l : List ℕ) (y : ℕ) → Stands y (take 0 l) → ⊥
      never [] y t = t
      never (z ∷ l) y t = t

  pub spread_next : (keys : List ℕ) (next code : ℕ) (group : List (ℕ × ℕ)) (after : List ℕ) → IsSpread starts edges keys next → next < length keys
      → slice_index_or keys next 0 ≡ code → AreFrom edges code group → after ≡ insert_all nat_eq keys (map (λ (e : ℕ × ℕ). e.1) group)
      → IsSpread starts edges after (next + 1)
  spread_next keys next code group after spread below is from made =
      subst (λ (l : List ℕ). IsSpread starts edges l (next + 1)) (sym made) (record { sound = sound; started = started; followed = followed })
    where
      ends : List ℕ
      ends = map (λ (e : ℕ × ℕ). e.1) group

      at : (xs : List ℕ) (n : ℕ) → n < length xs → Stands (slice_index_or xs n 0) xs
      at [] n lower = absurd (omega (arith, lower))
      at (x ∷ xs) zero lower = inl refl
      at (x ∷ xs) (suc n) lower = inr (at xs n (omega (arith, lower)))

      source : IsFrom starts edges code
      source = subst (IsFrom starts edges) is (spread.sound (slice_index_or keys next 0) (at keys next below))

      sound : (x : ℕ) → Stands x (insert_all nat_eq keys ends) → IsFrom starts edges x
      sound x s =
          elim (all_from keys ends x s) [
            | inl old ↦ spread.sound x old
            | inr new ↦
                let end = from_map (λ (e : ℕ × ℕ). e.1) group x new in
                let edge = from.listed end.0 end.1 in
                IsFrom.step code x source (subst (λ (e : ℕ × ℕ). Stands e edges) (pair end.0 edge.1 end.2) edge.0)
          ]
        where
          pair : (e : ℕ × ℕ) → e.0 ≡ code → e.1 ≡ x → e ≡ (code, x)
          pair e p q = ap (λ (a : ℕ). (a, e.1)) p ∙ ap (λ (b : ℕ). (code, b)) q

      started : (x : ℕ) → Stands x starts → Stands x (insert_all nat_eq keys ends)
      started x s = all_kept keys ends x (spread.started x s)

      followed : (y x : ℕ) → Stands (y, x) edges → Stands y (take (next + 1) (insert_all nat_eq keys ends)) → Stands x (insert_all nat_eq keys ends)
      followed y x edge s =
          let front = all_front keys ends in
          let more : next + 1 ≡ suc next = omega arith in
          let moved = subst (λ (l : List ℕ). Stands y (take (suc next) l)) front.1 (subst (λ (n : ℕ). Stands y (take n (insert_all nat_eq keys ends))) more s) in
          elim (one_more keys front.0 next 0 y below moved) [
            | inl before ↦ all_kept keys ends x (spread.followed y x edge before)
            | inr same ↦ all_inside keys ends x (in_map (λ (e : ℕ × ℕ). e.1) (y, x) group (from.all (y, x) edge (same ∙ is)))
          ]

  pub spread_end : (keys : List ℕ) (next : ℕ) → IsSpread starts edges keys next → length keys ≤ next → IsClosure starts edges keys
  spread_end keys next spread upto x = (spread.sound x, λ h. reached x h)
    where
      reached : (z : ℕ) → IsFrom starts edges z → Stands z keys
      reached z (IsFrom.start y s) = spread.started z s
      reached z (IsFrom.step y u h edge) = spread.followed y z edge (whole keys next y upto (reached y h))

  -- no more numbers than starts and edges
  pub spread_bound : (keys : List ℕ) (next : ℕ) → IsSpread starts edges keys next → IsDistinct nat_eq keys → length keys ≤ length starts + length edges
  spread_bound keys next spread distinct =
      let all = starts ++ map (λ (e : ℕ × ℕ). e.1) edges in
      let few = length-le_from_is_member nat_eq_equiv keys all distinct (λ q e. member q all (among q (spread.sound q (of_member q keys e)))) in
      omega (arith, few, length-append starts (map (λ (e : ℕ × ℕ). e.1) edges), length-map edges (λ (e : ℕ × ℕ). e.1))
    where
      among : (x : ℕ) → IsFrom starts edges x → Stands x (starts ++ map (λ (e : ℕ × ℕ). e.1) edges)
      among x (IsFrom.start y s) = left x starts (map (λ (e : ℕ × ℕ). e.1) edges) s
      among x (IsFrom.step y u h edge) = right x starts (map (λ (e : ℕ × ℕ). e.1) edges) (in_map (λ (e : ℕ × ℕ). e.1) (y, x) edges edge)
