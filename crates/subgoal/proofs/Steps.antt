-- Steps of the loops over actions.
use Rattle.std.proofs.Common.{◌≡◌, ℕ, suc, ◌+◌, ◌<◌, ◌≤◌, List, [], ◌∷◌, length, drop, get_or, map, min, refl, sym, ap, ap₂, ◌∙◌, arith, drop-cons}
use Rattle.std.proofs.lemmas.List.{drop_all}
use Rattle.simple_atoms.specs.declared.linear.TheConstants.{FAR}
use Rattle.subgoal.specs.Equations.{least_of}

pub next : {X : Type 0} (xs : List X) (i : ℕ) (x other : X) → i < length xs → x ≡ get_or xs i other → drop i xs ≡ x ∷ drop (i + 1) xs
next xs i x other within is =
    let step : suc i ≡ i + 1 = omega arith in
    drop-cons xs i other within ∙ ap₂ (λ y ys. y ∷ ys) (sym is) (ap (λ k. drop k xs) step)

pub min_order : (x y z : ℕ) → min (min x y) z ≡ min x (min y z)
min_order x y z = omega arith

-- ---- least values

module _ {X : Type 0} (f : X → ℕ) (xs : List X) (i : ℕ) where
  pub any_next : (x other : X) (n least : ℕ) → i < length xs → x ≡ get_or xs i other → n ≡ f x
      → min (min least n) (least_of (map f (drop (i + 1) xs))) ≡ min least (least_of (map f (drop i xs)))
  unfolding least_of
  any_next x other n least within is its =
      min_order least n (least_of (map f (drop (i + 1) xs)))
      ∙ ap (λ (m : ℕ). min least (min m (least_of (map f (drop (i + 1) xs))))) its
      ∙ ap (λ (ys : List X). min least (least_of (map f ys))) (sym (next xs i x other within is))

  pub any_lowered : (x other : X) (n least : ℕ) → i < length xs → x ≡ get_or xs i other → n ≡ min least (f x)
      → min n (least_of (map f (drop (i + 1) xs))) ≡ min least (least_of (map f (drop i xs)))
  unfolding least_of
  any_lowered x other n least within is its =
      ap (λ (m : ℕ). min m (least_of (map f (drop (i + 1) xs)))) its
      ∙ any_next x other (f x) least within is refl

  pub any_end : (least : ℕ) → length xs ≤ i → least ≤ FAR → least ≡ min least (least_of (map f (drop i xs)))
  unfolding least_of
  any_end least behind near =
      let far : least ≡ min least FAR = omega arith in
      far ∙ ap (λ (ys : List X). min least (least_of (map f ys))) (sym (drop_all i xs behind))

least_of_near : (ns : List ℕ) → least_of ns ≤ FAR
unfolding least_of
least_of_near [] = omega arith
least_of_near (n ∷ ns) = omega (arith, least_of_near ns)

pub any_first : (ns : List ℕ) → min FAR (least_of ns) ≡ least_of ns
any_first ns = omega (arith, least_of_near ns)
