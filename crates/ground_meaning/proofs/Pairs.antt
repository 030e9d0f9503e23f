-- Lists whose members are in a relation, each with each later one.
use Rattle.std.proofs.Common.{◌≢◌, ◌<◌, ◌+◌, ◌++◌, ℕ, zero, suc, Bool, true, false, List, [], ◌∷◌, map, AllPairs, refl, inl, inr, arith, cond}
use Rattle.std.specs.Prelude.{filter, flat_map}
use Rattle.std.specs.List.{range_with_len}
use Rattle.std.proofs.lemmas.List.Kept.{AllPairs-cons}
use Rattle.pddl_types.specs.WellFormed.{Each, Stands}
use Rattle.ground_meaning.proofs.Lists.{all_of_each, each_filtered, each_joined, each_map, each_mapped, each_more, each_of_all, each_stands, each_where}

-- each member with each later one
abbrev pub Apart : {A : Type 0} → (A → A → Type 0) → List A → Type 0
Apart R [] = Unit {0}
Apart R (x ∷ xs) = Each (R x) xs × Apart R xs

pub all_pairs : {A : Type 0} (R : A → A → Type 0) (xs : List A) → Apart R xs → AllPairs R xs
all_pairs R [] h = λ i j d less within. absurd (omega (arith, within))
all_pairs R (x ∷ xs) h = AllPairs-cons R x xs (all_of_each (R x) xs h.0) (all_pairs R xs h.1)

pub pairs_apart : {A : Type 0} (R : A → A → Type 0) (xs : List A) → AllPairs R xs → Apart R xs
pairs_apart R [] h = tt
pairs_apart R (x ∷ xs) h = (
  each_of_all (R x) xs (λ k d within. h 0 (suc k) d (omega arith) (omega (arith, within))),
  pairs_apart R xs (λ i j d less within. h (suc i) (suc j) d (omega (arith, less)) (omega (arith, within))),
)

-- another relation that follows for members
pub apart_more : {A : Type 0} (R S : A → A → Type 0) (xs : List A) → ((x y : A) → Stands x xs → Stands y xs → R x y → S x y) → Apart R xs → Apart S xs
apart_more R S [] more h = tt
apart_more R S (x ∷ xs) more h = (
  each_where (S x) xs (λ y s. more x y (inl refl) (inr s) (each_stands (R x) xs y h.0 s)),
  apart_more R S xs (λ y z s t. more y z (inr s) (inr t)) h.1,
)

pub apart_mapped : {A B : Type 0} (R : B → B → Type 0) (f : A → B) (xs : List A) → Apart (λ x y. R (f x) (f y)) xs → Apart R (map f xs)
apart_mapped R f [] h = tt
apart_mapped R f (x ∷ xs) h = (each_mapped (R (f x)) f xs h.0, apart_mapped R f xs h.1)

pub apart_of_mapped : {A B : Type 0} (R : B → B → Type 0) (f : A → B) (xs : List A) → Apart R (map f xs) → Apart (λ x y. R (f x) (f y)) xs
apart_of_mapped R f [] h = tt
apart_of_mapped R f (x ∷ xs) h = (each_map (R (f x)) f xs h.0, apart_of_mapped R f xs h.1)

pub apart_filtered : {A : Type 0} (R : A → A → Type 0) (test : A → Bool) (xs : List A) → Apart R xs → Apart R (filter test xs)
apart_filtered R test [] h = tt
apart_filtered R test (x ∷ xs) h = of_test (test x) (apart_filtered R test xs h.1)
  where
    of_test : (t : Bool) → Apart R (filter test xs) → Apart R (cond t (x ∷ filter test xs) (filter test xs))
    of_test true rest = (each_filtered (R x) test xs h.0, rest)
    of_test false rest = rest

pub apart_joined : {A : Type 0} (R : A → A → Type 0) (xs ys : List A) → Apart R xs → Apart R ys → Each (λ x. Each (R x) ys) xs → Apart R (xs ++ ys)
apart_joined R [] ys h k across = k
apart_joined R (x ∷ xs) ys h k across = (each_joined (R x) xs ys h.0 across.0, apart_joined R xs ys h.1 k across.1)

across_flat : {A B : Type 0} (R : B → B → Type 0) (f : A → List B) (u : B) (ys : List A) → Each (λ y. Each (R u) (f y)) ys → Each (R u) (flat_map f ys)
across_flat R f u [] h = tt
across_flat R f u (y ∷ ys) h = each_joined (R u) (f y) (flat_map f ys) h.0 (across_flat R f u ys h.1)

-- lists that are apart each, and each from each other
pub apart_flat : {A B : Type 0} (R : B → B → Type 0) (f : A → List B) (xs : List A) → Each (λ x. Apart R (f x)) xs
    → Apart (λ x y. (u v : B) → Stands u (f x) → Stands v (f y) → R u v) xs → Apart R (flat_map f xs)
apart_flat R f [] h across = tt
apart_flat R f (x ∷ xs) h across =
    apart_joined R (f x) (flat_map f xs) h.0 (apart_flat R f xs h.1 across.1)
    (each_where _ (f x) (λ u s. across_flat R f u xs (each_more _ _ xs (λ y k. each_where (R u) (f y) (λ v r. k u v s r)) across.0)))

-- rising numbers
above : (from bound count : ℕ) → bound < from → Each (λ n. bound ≢ n) (range_with_len from count)
above from bound zero less = tt
above from bound (suc count) less = (λ same. absurd (omega (arith, same, less)), above (from + 1) bound count (omega (arith, less)))

pub range_apart : (from count : ℕ) → Apart (λ n m. n ≢ m) (range_with_len from count)
range_apart from zero = tt
range_apart from (suc count) = (above (from + 1) from count (omega arith), range_apart (from + 1) count)
