-- Ends that move outward, and their sums.
use Rattle.std.proofs.Common.{◌≡◌, ℕ, ◌≤◌, true, ℤ, int_lt, int_le, sym, refl, ap, ap₂, ◌∙◌, arith, inl, inr}
use Rattle.std.proofs.lemmas.Bool.{cases_Bool, and_from}
use borrow.Author.Differences.{true_is_le}
use Rattle.num_ends.specs.Decimal.{Decimal, number_at, aligned, is_less, is_at_most, sum_of}
use Rattle.num_ends.specs.declared.ends.End.{End}
use Rattle.num_ends.specs.declared.ends.End.TheVariants.{NegInf, Excl, Incl, PosInf}
use Rattle.num_ends.specs.Ends.{Interval, is_above, is_below, has, is_inhabited, lower_covers, upper_covers, is_within}
use Rattle.num_ends.specs.Arithmetic.{top_number, bottom_number, top, bottom, outward_lower, outward_upper, end_at, lower_at, upper_at, outward_of, end_places, larger_places, lower_sum, upper_sum, outward_lower_sum, outward_upper_sum, interval_sum, HasPlaces}
use Rattle.num_ends.proofs.DecimalOrder.{less_at, most_at, less_is_most, most_refl, no_place_more, lt_le}
use Rattle.num_ends.proofs.Members.{lower_covers_trans, upper_covers_trans, above_covered, below_covered, has_parts, has_from, inhabited_has, has_inhabited, inhabited_wider}
use Rattle.num_ends.proofs.Operations.{sum_less_most, sum_most_less, sum_most}

-- ---- decimals with one count of places are in the order of their numbers

pub same_less : (a b : Decimal) → a.p ≡ b.p → is_less a b ≡ int_lt a.n b.n
same_less a b e = less_at a.p a b (omega arith) (omega arith) ∙ ap₂ int_lt (no_place_more a.p a refl) (no_place_more a.p b (sym e))

pub same_most : (a b : Decimal) → a.p ≡ b.p → is_at_most a b ≡ int_le a.n b.n
same_most a b e = most_at a.p a b (omega arith) (omega arith) ∙ ap₂ int_le (no_place_more a.p a refl) (no_place_more a.p b (sym e))

-- ---- outward ends cover

pub outward_lower_covers : (l : End) → lower_covers (outward_lower l) l ≡ true
outward_lower_covers NegInf = refl
outward_lower_covers (Excl d) =
    elim (cases_Bool (int_lt d.n bottom_number)) [
      | inl t ↦ rw t refl
      | inr f ↦ elim (cases_Bool (int_le top_number d.n)) [
        | inl u ↦ rw (f, u) (same_most (top d.p) d refl ∙ u)
        | inr g ↦ rw (f, g) (most_refl d)
      ]
    ]
outward_lower_covers (Incl d) =
    elim (cases_Bool (int_lt d.n bottom_number)) [
      | inl t ↦ rw t refl
      | inr f ↦ elim (cases_Bool (int_lt top_number d.n)) [
        | inl u ↦ rw (f, u) (same_most (top d.p) d refl ∙ lt_le top_number d.n u)
        | inr g ↦ rw (f, g) (most_refl d)
      ]
    ]
outward_lower_covers PosInf = refl

pub outward_upper_covers : (u : End) → upper_covers (outward_upper u) u ≡ true
outward_upper_covers NegInf = refl
outward_upper_covers (Excl d) =
    elim (cases_Bool (int_lt top_number d.n)) [
      | inl t ↦ rw t refl
      | inr f ↦ elim (cases_Bool (int_le d.n bottom_number)) [
        | inl u ↦ rw (f, u) (same_most d (bottom d.p) refl ∙ u)
        | inr g ↦ rw (f, g) (most_refl d)
      ]
    ]
outward_upper_covers (Incl d) =
    elim (cases_Bool (int_lt top_number d.n)) [
      | inl t ↦ rw t refl
      | inr f ↦ elim (cases_Bool (int_lt d.n bottom_number)) [
        | inl u ↦ rw (f, u) (same_most d (bottom d.p) refl ∙ lt_le d.n bottom_number u)
        | inr g ↦ rw (f, g) (most_refl d)
      ]
    ]
outward_upper_covers PosInf = refl

-- ---- an end at more places has its value

le_itself : (x : ℤ) → int_le x x ≡ true
le_itself x = sym (true_is_le x x (omega arith))

pub aligned_least : (q : ℕ) (d : Decimal) → d.p ≤ q → is_at_most (aligned q d) d ≡ true
aligned_least q d h =
    most_at q (aligned q d) d (omega arith) h ∙ ap (λ (x : ℤ). int_le x (number_at q d)) (no_place_more q (aligned q d) refl) ∙ le_itself (number_at q d)

pub aligned_most : (q : ℕ) (d : Decimal) → d.p ≤ q → is_at_most d (aligned q d) ≡ true
aligned_most q d h =
    most_at q d (aligned q d) h (omega arith) ∙ ap (λ (x : ℤ). int_le (number_at q d) x) (no_place_more q (aligned q d) refl) ∙ le_itself (number_at q d)

pub lower_at_covers : (q : ℕ) (l : End) → end_places l ≤ q → lower_covers (lower_at q l) l ≡ true
lower_at_covers q NegInf h = refl
lower_at_covers q (Excl d) h = lower_covers_trans (lower_at q (Excl d)) (Excl (aligned q d)) (Excl d) (outward_lower_covers (Excl (aligned q d))) (aligned_least q d h)
lower_at_covers q (Incl d) h = lower_covers_trans (lower_at q (Incl d)) (Incl (aligned q d)) (Incl d) (outward_lower_covers (Incl (aligned q d))) (aligned_least q d h)
lower_at_covers q PosInf h = refl

pub upper_at_covers : (q : ℕ) (u : End) → end_places u ≤ q → upper_covers (upper_at q u) u ≡ true
upper_at_covers q NegInf h = refl
upper_at_covers q (Excl d) h = upper_covers_trans (upper_at q (Excl d)) (Excl (aligned q d)) (Excl d) (outward_upper_covers (Excl (aligned q d))) (aligned_most q d h)
upper_at_covers q (Incl d) h = upper_covers_trans (upper_at q (Incl d)) (Incl (aligned q d)) (Incl d) (outward_upper_covers (Incl (aligned q d))) (aligned_most q d h)
upper_at_covers q PosInf h = refl

pub outward_around : (q : ℕ) (i : Interval) → end_places i.0 ≤ q → end_places i.1 ≤ q → is_within i (outward_of q i) ≡ true
outward_around q i h k = and_from (lower_covers (lower_at q i.0) i.0) (upper_covers (upper_at q i.1) i.1) (lower_at_covers q i.0 h) (upper_at_covers q i.1 k)

pub outward_inhabited : (q : ℕ) (i : Interval) → end_places i.0 ≤ q → end_places i.1 ≤ q → is_inhabited i.0 i.1 ≡ true → is_inhabited (outward_of q i).0 (outward_of q i).1 ≡ true
outward_inhabited q i h k m = inhabited_wider i (outward_of q i) (outward_around q i h k) m

-- ---- sums

lower_sum_above : (l k : End) (a b : Decimal) → is_above l a ≡ true → is_above k b ≡ true → is_above (lower_sum l k) (sum_of a b) ≡ true
lower_sum_above NegInf k a b h m = refl
lower_sum_above (Excl x) NegInf a b h m = refl
lower_sum_above (Excl x) (Excl y) a b h m = sum_less_most x y a b h (less_is_most y b m)
lower_sum_above (Excl x) (Incl y) a b h m = sum_less_most x y a b h m
lower_sum_above (Excl x) PosInf a b h m = refl
lower_sum_above (Incl x) NegInf a b h m = refl
lower_sum_above (Incl x) (Excl y) a b h m = sum_most_less x y a b h m
lower_sum_above (Incl x) (Incl y) a b h m = sum_most x y a b h m
lower_sum_above (Incl x) PosInf a b h m = refl
lower_sum_above PosInf k a b h m = refl

upper_sum_below : (u v : End) (a b : Decimal) → is_below u a ≡ true → is_below v b ≡ true → is_below (upper_sum u v) (sum_of a b) ≡ true
upper_sum_below NegInf v a b h m = refl
upper_sum_below (Excl x) NegInf a b h m = refl
upper_sum_below (Excl x) (Excl y) a b h m = sum_less_most a b x y h (less_is_most b y m)
upper_sum_below (Excl x) (Incl y) a b h m = sum_less_most a b x y h m
upper_sum_below (Excl x) PosInf a b h m = refl
upper_sum_below (Incl x) NegInf a b h m = refl
upper_sum_below (Incl x) (Excl y) a b h m = sum_most_less a b x y h m
upper_sum_below (Incl x) (Incl y) a b h m = sum_most a b x y h m
upper_sum_below (Incl x) PosInf a b h m = refl
upper_sum_below PosInf v a b h m = refl

pub sum_above : (l k : End) (a b : Decimal) → is_above l a ≡ true → is_above k b ≡ true → is_above (outward_lower_sum l k) (sum_of a b) ≡ true
sum_above l k a b h m =
    let q = larger_places l k in
    let x = above_covered (lower_at q l) l a (lower_at_covers q l (omega arith)) h in
    let y = above_covered (lower_at q k) k b (lower_at_covers q k (omega arith)) m in
    above_covered (outward_lower_sum l k) (lower_sum (lower_at q l) (lower_at q k)) (sum_of a b)
    (outward_lower_covers (lower_sum (lower_at q l) (lower_at q k))) (lower_sum_above (lower_at q l) (lower_at q k) a b x y)

pub sum_below : (u v : End) (a b : Decimal) → is_below u a ≡ true → is_below v b ≡ true → is_below (outward_upper_sum u v) (sum_of a b) ≡ true
sum_below u v a b h m =
    let q = larger_places u v in
    let x = below_covered (upper_at q u) u a (upper_at_covers q u (omega arith)) h in
    let y = below_covered (upper_at q v) v b (upper_at_covers q v (omega arith)) m in
    below_covered (outward_upper_sum u v) (upper_sum (upper_at q u) (upper_at q v)) (sum_of a b)
    (outward_upper_covers (upper_sum (upper_at q u) (upper_at q v))) (upper_sum_below (upper_at q u) (upper_at q v) a b x y)

pub sum_has : (i j : Interval) (a b : Decimal) → has i a ≡ true → has j b ≡ true → has (interval_sum i j) (sum_of a b) ≡ true
sum_has i j a b h k =
    let p = has_parts i a h in
    let q = has_parts j b k in
    has_from (interval_sum i j) (sum_of a b) (sum_above i.0 j.0 a b p.0 q.0) (sum_below i.1 j.1 a b p.1 q.1)

pub sum_inhabited : (i j : Interval) → is_inhabited i.0 i.1 ≡ true → is_inhabited j.0 j.1 ≡ true → is_inhabited (interval_sum i j).0 (interval_sum i j).1 ≡ true
sum_inhabited i j h k =
    let a = inhabited_has i h in
    let b = inhabited_has j k in
    has_inhabited (interval_sum i j) (sum_of a.0 b.0) (sum_has i j a.0 b.0 a.1 b.1)

-- ---- places

pub outward_lower_places : (q : ℕ) (l : End) → HasPlaces q l → HasPlaces q (outward_lower l)
outward_lower_places q NegInf h = tt
outward_lower_places q (Excl d) h =
    elim (cases_Bool (int_lt d.n bottom_number)) [
      | inl t ↦ rw t tt
      | inr f ↦ elim (cases_Bool (int_le top_number d.n)) [ inl u ↦ rw (f, u) h | inr g ↦ rw (f, g) h ]
    ]
outward_lower_places q (Incl d) h =
    elim (cases_Bool (int_lt d.n bottom_number)) [
      | inl t ↦ rw t tt
      | inr f ↦ elim (cases_Bool (int_lt top_number d.n)) [ inl u ↦ rw (f, u) h | inr g ↦ rw (f, g) h ]
    ]
outward_lower_places q PosInf h = tt

pub outward_upper_places : (q : ℕ) (u : End) → HasPlaces q u → HasPlaces q (outward_upper u)
outward_upper_places q NegInf h = tt
outward_upper_places q (Excl d) h =
    elim (cases_Bool (int_lt top_number d.n)) [
      | inl t ↦ rw t tt
      | inr f ↦ elim (cases_Bool (int_le d.n bottom_number)) [ inl u ↦ rw (f, u) h | inr g ↦ rw (f, g) h ]
    ]
outward_upper_places q (Incl d) h =
    elim (cases_Bool (int_lt top_number d.n)) [
      | inl t ↦ rw t tt
      | inr f ↦ elim (cases_Bool (int_lt d.n bottom_number)) [ inl u ↦ rw (f, u) h | inr g ↦ rw (f, g) h ]
    ]
outward_upper_places q PosInf h = tt

pub end_at_places : (q : ℕ) (e : End) → HasPlaces q (end_at q e)
end_at_places q NegInf = tt
end_at_places q (Excl d) = refl
end_at_places q (Incl d) = refl
end_at_places q PosInf = tt

pub lower_at_places : (q : ℕ) (l : End) → HasPlaces q (lower_at q l)
lower_at_places q l = outward_lower_places q (end_at q l) (end_at_places q l)

pub upper_at_places : (q : ℕ) (u : End) → HasPlaces q (upper_at q u)
upper_at_places q u = outward_upper_places q (end_at q u) (end_at_places q u)
