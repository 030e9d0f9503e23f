-- Wider intervals have wider sums, differences and products.
use Rattle.std.proofs.Common.{◌≡◌, ℕ, ◌-◌, ◌^◌, ◌≤◌, max, ◌+ℤ◌, true, ℤ, int_lt, int_le, refl, sym, ap, ap₂, ◌∙◌, subst, ◌⊎◌, inl, inr, true≢false, arith}
use Rattle.std.proofs.lemmas.Bool.{cases_Bool, and_from, and_parts}
use Rattle.num_ends.specs.Decimal.{Decimal, aligned, number_at, sum_of}
use Rattle.num_ends.specs.declared.ends.End.{End}
use Rattle.num_ends.specs.declared.ends.End.TheVariants.{NegInf, Excl, Incl, PosInf}
use Rattle.num_ends.specs.Ends.{Interval, is_inhabited, lower_covers, upper_covers, lower_hull, upper_hull, is_within}
use Rattle.num_ends.specs.Arithmetic.{HasPlaces, end_at, lower_at, upper_at, outward_lower, outward_upper, outward_of, top_number, bottom_number, end_places, larger_places, lower_sum, upper_sum, outward_lower_sum, outward_upper_sum, interval_sum, mirrored_end, mirrored, negative_of, interval_difference}
use Rattle.num_ends.specs.Laws.{PlacesUpTo, BothPlaces, FitsLower, FitsUpper}
use Rattle.num_ends.proofs.DecimalOrder.{less_is_most}
use Rattle.num_ends.proofs.Members.{lower_covers_refl, lower_covers_trans, upper_covers_trans, lower_hull_second, upper_hull_second, inhabited_wider}
use Rattle.num_ends.proofs.Operations.{sum_less_most, sum_most_less, sum_most, neg_scaled}
use Rattle.num_ends.proofs.OutwardSteps.{aligned_least, aligned_most, end_at_places, lower_at_places}
use Rattle.num_ends.proofs.Clips.{EndLevel, level_of_places, lower_hull_outward, upper_hull_outward, hull_first, covers_mirrored, outward_mirrored}
use Rattle.num_ends.proofs.Known.{lower_closed, lower_open, upper_closed, upper_open}
use Rattle.std.proofs.Math.IntN.{neg_ℤ-+ℤ}
use Rattle.num_ends.proofs.Mirrors.{end_twice, mirrored_inhabited}

-- ---- moving outward

pub outward_lower_wider : (P : ℕ) (x y : End) → EndLevel P x → EndLevel P y → lower_covers x y ≡ true → lower_covers (outward_lower x) (outward_lower y) ≡ true
outward_lower_wider P x y lx ly h =
    let same : lower_hull (outward_lower x) (outward_lower y) ≡ outward_lower x = sym (lower_hull_outward P x y lx ly) ∙ ap outward_lower (hull_first x y h) in
    subst (λ (e : End). lower_covers e (outward_lower y) ≡ true) same (lower_hull_second (outward_lower x) (outward_lower y))

upper_first : (a b : End) → upper_covers a b ≡ true → upper_hull a b ≡ a
upper_first a b h = rw h refl

pub outward_upper_wider : (P : ℕ) (x y : End) → EndLevel P x → EndLevel P y → upper_covers x y ≡ true → upper_covers (outward_upper x) (outward_upper y) ≡ true
outward_upper_wider P x y lx ly h =
    let same : upper_hull (outward_upper x) (outward_upper y) ≡ outward_upper x = sym (upper_hull_outward P x y lx ly) ∙ ap outward_upper (upper_first x y h) in
    subst (λ (e : End). upper_covers e (outward_upper y) ≡ true) same (upper_hull_second (outward_upper x) (outward_upper y))

-- an end at more places is as far out as it was
end_at_lower : (q : ℕ) (e : End) → end_places e ≤ q → (lower_covers (end_at q e) e ≡ true) × (lower_covers e (end_at q e) ≡ true)
end_at_lower q NegInf h = (refl, refl)
end_at_lower q (Excl d) h = (aligned_least q d h, aligned_most q d h)
end_at_lower q (Incl d) h = (aligned_least q d h, aligned_most q d h)
end_at_lower q PosInf h = (refl, refl)

end_at_upper : (q : ℕ) (e : End) → end_places e ≤ q → (upper_covers (end_at q e) e ≡ true) × (upper_covers e (end_at q e) ≡ true)
end_at_upper q NegInf h = (refl, refl)
end_at_upper q (Excl d) h = (aligned_most q d h, aligned_least q d h)
end_at_upper q (Incl d) h = (aligned_most q d h, aligned_least q d h)
end_at_upper q PosInf h = (refl, refl)

pub lower_at_wider : (q : ℕ) (x y : End) → end_places x ≤ q → end_places y ≤ q → lower_covers x y ≡ true → lower_covers (lower_at q x) (lower_at q y) ≡ true
lower_at_wider q x y hx hy h =
    outward_lower_wider q (end_at q x) (end_at q y) (level_of_places q (end_at q x) (end_at_places q x)) (level_of_places q (end_at q y) (end_at_places q y))
    (lower_covers_trans (end_at q x) x (end_at q y) (end_at_lower q x hx).0 (lower_covers_trans x y (end_at q y) h (end_at_lower q y hy).1))

pub upper_at_wider : (q : ℕ) (x y : End) → end_places x ≤ q → end_places y ≤ q → upper_covers x y ≡ true → upper_covers (upper_at q x) (upper_at q y) ≡ true
upper_at_wider q x y hx hy h =
    outward_upper_wider q (end_at q x) (end_at q y) (level_of_places q (end_at q x) (end_at_places q x)) (level_of_places q (end_at q y) (end_at_places q y))
    (upper_covers_trans (end_at q x) x (end_at q y) (end_at_upper q x hx).0 (upper_covers_trans x y (end_at q y) h (end_at_upper q y hy).1))

pub outward_wider : (q : ℕ) (i j : Interval) → PlacesUpTo q i → PlacesUpTo q j → is_within i j ≡ true → is_within (outward_of q i) (outward_of q j) ≡ true
outward_wider q i j hi hj w =
    let o = and_parts (lower_covers j.0 i.0) (upper_covers j.1 i.1) w in
    and_from (lower_covers (lower_at q j.0) (lower_at q i.0)) (upper_covers (upper_at q j.1) (upper_at q i.1))
    (lower_at_wider q j.0 i.0 hj.lower hi.lower o.0) (upper_at_wider q j.1 i.1 hj.upper hi.upper o.1)

-- ---- sums

-- a lower end is infinite below or finite, an upper end infinite above or finite
abbrev pub IsLower : End → Type 0
IsLower NegInf = Unit {0}
IsLower (Excl d) = Unit {0}
IsLower (Incl d) = Unit {0}
IsLower PosInf = ⊥

lower_sum_wider : (x y a b : End) → IsLower a → IsLower b → lower_covers x a ≡ true → lower_covers y b ≡ true → lower_covers (lower_sum x y) (lower_sum a b) ≡ true
lower_sum_wider NegInf y a b la lb h k = refl
lower_sum_wider (Excl x) NegInf a b la lb h k = refl
lower_sum_wider (Excl x) (Excl y) NegInf b la lb h k = cc
lower_sum_wider (Excl x) (Excl y) (Excl a) NegInf la lb h k = cc
lower_sum_wider (Excl x) (Excl y) (Excl a) (Excl b) la lb h k = sum_most x y a b h k
lower_sum_wider (Excl x) (Excl y) (Excl a) (Incl b) la lb h k = sum_most x y a b h (less_is_most y b k)
lower_sum_wider (Excl x) (Excl y) (Excl a) PosInf la lb h k = absurd lb
lower_sum_wider (Excl x) (Excl y) (Incl a) NegInf la lb h k = cc
lower_sum_wider (Excl x) (Excl y) (Incl a) (Excl b) la lb h k = sum_most x y a b (less_is_most x a h) k
lower_sum_wider (Excl x) (Excl y) (Incl a) (Incl b) la lb h k = sum_less_most x y a b h (less_is_most y b k)
lower_sum_wider (Excl x) (Excl y) (Incl a) PosInf la lb h k = absurd lb
lower_sum_wider (Excl x) (Excl y) PosInf b la lb h k = absurd la
lower_sum_wider (Excl x) (Incl y) NegInf b la lb h k = cc
lower_sum_wider (Excl x) (Incl y) (Excl a) NegInf la lb h k = cc
lower_sum_wider (Excl x) (Incl y) (Excl a) (Excl b) la lb h k = sum_most x y a b h k
lower_sum_wider (Excl x) (Incl y) (Excl a) (Incl b) la lb h k = sum_most x y a b h k
lower_sum_wider (Excl x) (Incl y) (Excl a) PosInf la lb h k = absurd lb
lower_sum_wider (Excl x) (Incl y) (Incl a) NegInf la lb h k = cc
lower_sum_wider (Excl x) (Incl y) (Incl a) (Excl b) la lb h k = sum_most x y a b (less_is_most x a h) k
lower_sum_wider (Excl x) (Incl y) (Incl a) (Incl b) la lb h k = sum_less_most x y a b h k
lower_sum_wider (Excl x) (Incl y) (Incl a) PosInf la lb h k = absurd lb
lower_sum_wider (Excl x) (Incl y) PosInf b la lb h k = absurd la
lower_sum_wider (Excl x) PosInf a b la lb h k = refl
lower_sum_wider (Incl x) NegInf a b la lb h k = refl
lower_sum_wider (Incl x) (Excl y) NegInf b la lb h k = cc
lower_sum_wider (Incl x) (Excl y) (Excl a) NegInf la lb h k = cc
lower_sum_wider (Incl x) (Excl y) (Excl a) (Excl b) la lb h k = sum_most x y a b h k
lower_sum_wider (Incl x) (Excl y) (Excl a) (Incl b) la lb h k = sum_most x y a b h (less_is_most y b k)
lower_sum_wider (Incl x) (Excl y) (Excl a) PosInf la lb h k = absurd lb
lower_sum_wider (Incl x) (Excl y) (Incl a) NegInf la lb h k = cc
lower_sum_wider (Incl x) (Excl y) (Incl a) (Excl b) la lb h k = sum_most x y a b h k
lower_sum_wider (Incl x) (Excl y) (Incl a) (Incl b) la lb h k = sum_most_less x y a b h k
lower_sum_wider (Incl x) (Excl y) (Incl a) PosInf la lb h k = absurd lb
lower_sum_wider (Incl x) (Excl y) PosInf b la lb h k = absurd la
lower_sum_wider (Incl x) (Incl y) NegInf b la lb h k = cc
lower_sum_wider (Incl x) (Incl y) (Excl a) NegInf la lb h k = cc
lower_sum_wider (Incl x) (Incl y) (Excl a) (Excl b) la lb h k = sum_most x y a b h k
lower_sum_wider (Incl x) (Incl y) (Excl a) (Incl b) la lb h k = sum_most x y a b h k
lower_sum_wider (Incl x) (Incl y) (Excl a) PosInf la lb h k = absurd lb
lower_sum_wider (Incl x) (Incl y) (Incl a) NegInf la lb h k = cc
lower_sum_wider (Incl x) (Incl y) (Incl a) (Excl b) la lb h k = sum_most x y a b h k
lower_sum_wider (Incl x) (Incl y) (Incl a) (Incl b) la lb h k = sum_most x y a b h k
lower_sum_wider (Incl x) (Incl y) (Incl a) PosInf la lb h k = absurd lb
lower_sum_wider (Incl x) (Incl y) PosInf b la lb h k = absurd la
lower_sum_wider (Incl x) PosInf a b la lb h k = refl
lower_sum_wider PosInf y a b la lb h k = refl

lower_sum_infinite : (e : End) → lower_sum e NegInf ≡ NegInf
lower_sum_infinite NegInf = refl
lower_sum_infinite (Excl d) = refl
lower_sum_infinite (Incl d) = refl
lower_sum_infinite PosInf = refl

lower_sum_places : (q : ℕ) (x y : End) → HasPlaces q x → HasPlaces q y → HasPlaces q (lower_sum x y)
lower_sum_places q NegInf y h k = tt
lower_sum_places q (Excl x) NegInf h k = tt
lower_sum_places q (Excl x) (Excl y) h k = omega arith
lower_sum_places q (Excl x) (Incl y) h k = omega arith
lower_sum_places q (Excl x) PosInf h k = tt
lower_sum_places q (Incl x) NegInf h k = tt
lower_sum_places q (Incl x) (Excl y) h k = omega arith
lower_sum_places q (Incl x) (Incl y) h k = omega arith
lower_sum_places q (Incl x) PosInf h k = tt
lower_sum_places q PosInf y h k = tt

-- an end inside one that is not infinite has the places
inner_places : (p : ℕ) (x a : End) → HasPlaces p a → IsLower a → lower_covers x a ≡ true → (x ≡ NegInf) ⊎ (end_places a ≡ p)
inner_places p NegInf a hp la h = inl refl
inner_places p (Excl x) NegInf hp la h = cc
inner_places p (Excl x) (Excl a) hp la h = inr hp
inner_places p (Excl x) (Incl a) hp la h = inr hp
inner_places p (Excl x) PosInf hp la h = absurd la
inner_places p (Incl x) NegInf hp la h = cc
inner_places p (Incl x) (Excl a) hp la h = inr hp
inner_places p (Incl x) (Incl a) hp la h = inr hp
inner_places p (Incl x) PosInf hp la h = absurd la
inner_places p PosInf NegInf hp la h = cc
inner_places p PosInf (Excl a) hp la h = cc
inner_places p PosInf (Incl a) hp la h = cc
inner_places p PosInf PosInf hp la h = absurd la

outward_stays_lower : (e : End) → IsLower e → IsLower (outward_lower e)
outward_stays_lower NegInf h = tt
outward_stays_lower (Excl d) h =
    elim (cases_Bool (int_lt d.n bottom_number)) [
      | inl t ↦ rw t tt
      | inr f ↦ elim (cases_Bool (int_le top_number d.n)) [ inl u ↦ rw (f, u) tt | inr g ↦ rw (f, g) tt ]
    ]
outward_stays_lower (Incl d) h =
    elim (cases_Bool (int_lt d.n bottom_number)) [
      | inl t ↦ rw t tt
      | inr f ↦ elim (cases_Bool (int_lt top_number d.n)) [ inl u ↦ rw (f, u) tt | inr g ↦ rw (f, g) tt ]
    ]
outward_stays_lower PosInf h = absurd h

end_at_stays_lower : (q : ℕ) (e : End) → IsLower e → IsLower (end_at q e)
end_at_stays_lower q NegInf h = tt
end_at_stays_lower q (Excl d) h = tt
end_at_stays_lower q (Incl d) h = tt
end_at_stays_lower q PosInf h = absurd h

-- at one count of places
level_sum_wider : (P : ℕ) (x y a b : End) → end_places x ≤ P → end_places y ≤ P → end_places a ≤ P → end_places b ≤ P → IsLower a → IsLower b
    → lower_covers x a ≡ true → lower_covers y b ≡ true
    → lower_covers (outward_lower (lower_sum (lower_at P x) (lower_at P y))) (outward_lower (lower_sum (lower_at P a) (lower_at P b))) ≡ true
level_sum_wider P x y a b hx hy ha hb la lb h k =
    let s = lower_sum (lower_at P x) (lower_at P y) in
    let t = lower_sum (lower_at P a) (lower_at P b) in
    outward_lower_wider P s t
    (level_of_places P s (lower_sum_places P (lower_at P x) (lower_at P y) (lower_at_places P x) (lower_at_places P y)))
    (level_of_places P t (lower_sum_places P (lower_at P a) (lower_at P b) (lower_at_places P a) (lower_at_places P b)))
    (lower_sum_wider (lower_at P x) (lower_at P y) (lower_at P a) (lower_at P b)
    (outward_stays_lower (end_at P a) (end_at_stays_lower P a la)) (outward_stays_lower (end_at P b) (end_at_stays_lower P b lb))
    (lower_at_wider P x a hx ha h) (lower_at_wider P y b hy hb k))

pub outward_lower_sum_wider : (p q : ℕ) (x y a b : End) → HasPlaces p x → HasPlaces q y → HasPlaces p a → HasPlaces q b → IsLower x → IsLower y → IsLower a → IsLower b
    → lower_covers x a ≡ true → lower_covers y b ≡ true → lower_covers (outward_lower_sum x y) (outward_lower_sum a b) ≡ true
outward_lower_sum_wider p q x y a b hx hy ha hb lx ly la lb h k =
    elim (inner_places p x x hx lx (lower_covers_refl x)) [
      | inl e ↦ first_infinite e
      | inr ex ↦ elim (inner_places q y y hy ly (lower_covers_refl y)) [
        | inl e ↦ second_infinite e
        | inr ey ↦ elim (inner_places p x a ha la h) [
          | inl e ↦ first_infinite e
          | inr ea ↦ elim (inner_places q y b hb lb k) [
            | inl e ↦ second_infinite e
            | inr eb ↦
                let outer : larger_places x y ≡ max p q = ap₂ max ex ey in
                let inner : larger_places a b ≡ max p q = ap₂ max ea eb in
                ap₂ lower_covers
                (ap (λ (n : ℕ). outward_lower (lower_sum (lower_at n x) (lower_at n y))) outer)
                (ap (λ (n : ℕ). outward_lower (lower_sum (lower_at n a) (lower_at n b))) inner)
                ∙ level_sum_wider (max p q) x y a b (omega arith) (omega arith) (omega arith) (omega arith) la lb h k
          ]
        ]
      ]
    ]
  where
    first_infinite : x ≡ NegInf → lower_covers (outward_lower_sum x y) (outward_lower_sum a b) ≡ true
    first_infinite e = ap (λ (s : End). lower_covers s (outward_lower_sum a b)) (ap (λ (z : End). outward_lower_sum z y) e)

    second_infinite : y ≡ NegInf → lower_covers (outward_lower_sum x y) (outward_lower_sum a b) ≡ true
    second_infinite e =
        ap (λ (s : End). lower_covers s (outward_lower_sum a b))
        (ap (λ (z : End). outward_lower_sum x z) e ∙ ap outward_lower (lower_sum_infinite (lower_at (larger_places x NegInf) x)))

-- ---- upper ends, mirrored

sum_negatives : (a b : Decimal) → sum_of (negative_of a) (negative_of b) ≡ negative_of (sum_of a b)
sum_negatives a b =
    let c = max a.p b.p in
    ap (λ (n : ℤ). record { n = n; p = c })
    (ap₂ (λ (x y : ℤ). x +ℤ y) (neg_scaled a.n (10 ^ (c - a.p))) (neg_scaled b.n (10 ^ (c - b.p))) ∙ sym (neg_ℤ-+ℤ (number_at c a) (number_at c b)))

sum_mirrored : (x y : End) → lower_sum (mirrored_end x) (mirrored_end y) ≡ mirrored_end (upper_sum x y)
sum_mirrored NegInf NegInf = refl
sum_mirrored NegInf (Excl b) = refl
sum_mirrored NegInf (Incl b) = refl
sum_mirrored NegInf PosInf = refl
sum_mirrored (Excl a) NegInf = refl
sum_mirrored (Excl a) (Excl b) = ap Excl (sum_negatives a b)
sum_mirrored (Excl a) (Incl b) = ap Excl (sum_negatives a b)
sum_mirrored (Excl a) PosInf = refl
sum_mirrored (Incl a) NegInf = refl
sum_mirrored (Incl a) (Excl b) = ap Excl (sum_negatives a b)
sum_mirrored (Incl a) (Incl b) = ap Incl (sum_negatives a b)
sum_mirrored (Incl a) PosInf = refl
sum_mirrored PosInf NegInf = refl
sum_mirrored PosInf (Excl b) = refl
sum_mirrored PosInf (Incl b) = refl
sum_mirrored PosInf PosInf = refl

places_mirrored : (e : End) → end_places (mirrored_end e) ≡ end_places e
places_mirrored NegInf = refl
places_mirrored (Excl d) = refl
places_mirrored (Incl d) = refl
places_mirrored PosInf = refl

has_places_mirrored : (p : ℕ) (e : End) → HasPlaces p e → HasPlaces p (mirrored_end e)
has_places_mirrored p NegInf h = tt
has_places_mirrored p (Excl d) h = h
has_places_mirrored p (Incl d) h = h
has_places_mirrored p PosInf h = tt

aligned_mirrored : (q : ℕ) (d : Decimal) → aligned q (negative_of d) ≡ negative_of (aligned q d)
aligned_mirrored q d = ap (λ (n : ℤ). record { n = n; p = q }) (neg_scaled d.n (10 ^ (q - d.p)))

end_at_mirrored : (q : ℕ) (e : End) → end_at q (mirrored_end e) ≡ mirrored_end (end_at q e)
end_at_mirrored q NegInf = refl
end_at_mirrored q (Excl d) = ap Excl (aligned_mirrored q d)
end_at_mirrored q (Incl d) = ap Incl (aligned_mirrored q d)
end_at_mirrored q PosInf = refl

at_mirrored : (q : ℕ) (e : End) → lower_at q (mirrored_end e) ≡ mirrored_end (upper_at q e)
at_mirrored q e = ap outward_lower (end_at_mirrored q e) ∙ sym (outward_mirrored (end_at q e))

outward_sum_mirrored : (u v : End) → outward_lower_sum (mirrored_end u) (mirrored_end v) ≡ mirrored_end (outward_upper_sum u v)
outward_sum_mirrored u v =
    let q = larger_places u v in
    ap (λ (n : ℕ). outward_lower (lower_sum (lower_at n (mirrored_end u)) (lower_at n (mirrored_end v)))) (ap₂ max (places_mirrored u) (places_mirrored v))
    ∙ ap outward_lower (ap₂ lower_sum (at_mirrored q u) (at_mirrored q v) ∙ sum_mirrored (upper_at q u) (upper_at q v))
    ∙ sym (outward_mirrored (upper_sum (upper_at q u) (upper_at q v)))

pub outward_upper_sum_wider : (p q : ℕ) (x y a b : End) → HasPlaces p x → HasPlaces q y → HasPlaces p a → HasPlaces q b
    → IsLower (mirrored_end x) → IsLower (mirrored_end y) → IsLower (mirrored_end a) → IsLower (mirrored_end b)
    → upper_covers x a ≡ true → upper_covers y b ≡ true → upper_covers (outward_upper_sum x y) (outward_upper_sum a b) ≡ true
outward_upper_sum_wider p q x y a b hx hy ha hb lx ly la lb h k =
    sym (covers_mirrored (outward_upper_sum x y) (outward_upper_sum a b))
    ∙ sym (ap₂ lower_covers (outward_sum_mirrored x y) (outward_sum_mirrored a b))
    ∙ outward_lower_sum_wider p q (mirrored_end x) (mirrored_end y) (mirrored_end a) (mirrored_end b)
    (has_places_mirrored p x hx) (has_places_mirrored q y hy) (has_places_mirrored p a ha) (has_places_mirrored q b hb) lx ly la lb
    (covers_mirrored x a ∙ h) (covers_mirrored y b ∙ k)

-- ---- whole intervals

lower_of_inhabited : (l u : End) → is_inhabited l u ≡ true → IsLower l
lower_of_inhabited NegInf u h = tt
lower_of_inhabited (Excl a) u h = tt
lower_of_inhabited (Incl a) u h = tt
lower_of_inhabited PosInf u h = absurd (true≢false (sym h))

upper_of_inhabited : (l u : End) → is_inhabited l u ≡ true → IsLower (mirrored_end u)
upper_of_inhabited l u h = lower_of_inhabited (mirrored_end u) (mirrored_end l) (mirrored_inhabited l u ∙ h)

pub sum_wider : (p q : ℕ) (i j m n : Interval) → BothPlaces p i m → BothPlaces q j n → is_inhabited i.0 i.1 ≡ true → is_inhabited j.0 j.1 ≡ true → is_within i m ≡ true → is_within j n ≡ true
    → is_within (interval_sum i j) (interval_sum m n) ≡ true
sum_wider p q i j m n f g hi hj w x =
    let o = and_parts (lower_covers m.0 i.0) (upper_covers m.1 i.1) w in
    let r = and_parts (lower_covers n.0 j.0) (upper_covers n.1 j.1) x in
    let hm = inhabited_wider i m w hi in
    let hn = inhabited_wider j n x hj in
    and_from (lower_covers (interval_sum m n).0 (interval_sum i j).0) (upper_covers (interval_sum m n).1 (interval_sum i j).1)
    (outward_lower_sum_wider p q m.0 n.0 i.0 j.0 f.outer_lower g.outer_lower f.inner_lower g.inner_lower
    (lower_of_inhabited m.0 m.1 hm) (lower_of_inhabited n.0 n.1 hn) (lower_of_inhabited i.0 i.1 hi) (lower_of_inhabited j.0 j.1 hj) o.0 r.0)
    (outward_upper_sum_wider p q m.1 n.1 i.1 j.1 f.outer_upper g.outer_upper f.inner_upper g.inner_upper
    (upper_of_inhabited m.0 m.1 hm) (upper_of_inhabited n.0 n.1 hn) (upper_of_inhabited i.0 i.1 hi) (upper_of_inhabited j.0 j.1 hj) o.1 r.1)

pub upper_covers_mirrored : (k y : End) → upper_covers (mirrored_end k) (mirrored_end y) ≡ lower_covers k y
upper_covers_mirrored k y = sym (covers_mirrored (mirrored_end k) (mirrored_end y)) ∙ ap₂ lower_covers (end_twice k) (end_twice y)

mirrored_wider : (j n : Interval) → is_within j n ≡ true → is_within (mirrored j) (mirrored n) ≡ true
mirrored_wider j n x =
    let r = and_parts (lower_covers n.0 j.0) (upper_covers n.1 j.1) x in
    and_from (lower_covers (mirrored_end n.1) (mirrored_end j.1)) (upper_covers (mirrored_end n.0) (mirrored_end j.0))
    (covers_mirrored n.1 j.1 ∙ r.1) (upper_covers_mirrored n.0 j.0 ∙ r.0)

both_mirrored : (q : ℕ) (j n : Interval) → BothPlaces q j n → BothPlaces q (mirrored j) (mirrored n)
both_mirrored q j n g = record {
  inner_lower = has_places_mirrored q j.1 g.inner_upper;
  inner_upper = has_places_mirrored q j.0 g.inner_lower;
  outer_lower = has_places_mirrored q n.1 g.outer_upper;
  outer_upper = has_places_mirrored q n.0 g.outer_lower;
}

pub difference_wider : (p q : ℕ) (i j m n : Interval) → BothPlaces p i m → BothPlaces q j n → is_inhabited i.0 i.1 ≡ true → is_inhabited j.0 j.1 ≡ true → is_within i m ≡ true → is_within j n ≡ true
    → is_within (interval_difference i j) (interval_difference m n) ≡ true
difference_wider p q i j m n f g hi hj w x =
    sum_wider p q i (mirrored j) m (mirrored n) f (both_mirrored q j n g) hi (mirrored_inhabited j.0 j.1 ∙ hj) w (mirrored_wider j n x)

-- ---- ends that fit stay where they are

pub lower_kept : (q : ℕ) (l : End) → FitsLower q l → lower_at q l ≡ end_at q l
lower_kept q NegInf h = refl
lower_kept q (Excl d) h = lower_open (aligned q d) h.0 h.1
lower_kept q (Incl d) h = lower_closed (aligned q d) h
lower_kept q PosInf h = refl

pub upper_kept : (q : ℕ) (u : End) → FitsUpper q u → upper_at q u ≡ end_at q u
upper_kept q NegInf h = refl
upper_kept q (Excl d) h = upper_open (aligned q d) h.0 h.1
upper_kept q (Incl d) h = upper_closed (aligned q d) h
upper_kept q PosInf h = refl
