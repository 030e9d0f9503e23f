-- Moving ends outward one by one and taking the least, or taking the least first, comes to the same.
use Rattle.std.proofs.Common.{◌≡◌, ℕ, ◌+◌, ◌≤◌, Bool, true, false, cond, ◌||◌, ℤ, pos, neg_ℤ, int_lt, int_le, refl, sym, ap, ap₂, ◌∙◌, subst, ◌⊎◌, inl, inr, arith}
use Rattle.std.proofs.lemmas.Int.{ints}
use Rattle.std.proofs.lemmas.Bool.{cases_Bool, cond-true, cond-false}
use borrow.Author.Differences.{true_is_lt, true_is_le, false_is_lt, false_is_le}
use Rattle.num_ends.specs.Decimal.{Decimal, origin, is_less, is_at_most}
use Rattle.num_ends.specs.declared.ends.End.{End}
use Rattle.num_ends.specs.declared.ends.End.TheVariants.{NegInf, Excl, Incl, PosInf}
use Rattle.num_ends.specs.Ends.{Interval, lower_covers, upper_covers, lower_hull, upper_hull}
use Rattle.num_ends.specs.Arithmetic.{top_number, bottom_number, top, outward_lower, outward_upper, mirrored_end, negative_of, HasPlaces, ProductPlaces, end_places, is_closed_zero, is_open_zero, is_negative_end, infinite_product, exact_product, end_product, least_product, greatest_product}
use Rattle.num_ends.proofs.Operations.{IsZero, zero_less, less_zero, zero_at_most, at_most_zero, neg_lt, neg_le, less_negative, most_negative}
use Rattle.num_ends.proofs.OutwardSteps.{same_less, same_most}
use Rattle.num_ends.proofs.Mirrors.{end_twice}

-- a decimal with P places, or 0
abbrev pub Level : ℕ → Decimal → Type 0
Level P d = (d.p ≡ P) ⊎ IsZero d

level_less : (P : ℕ) (a b : Decimal) → Level P a → Level P b → is_less a b ≡ int_lt a.n b.n
level_less P a b (inl e) (inl f) = same_less a b (e ∙ sym f)
level_less P a b (inl e) (inr z) = less_zero a b z ∙ ap (λ (n : ℤ). int_lt a.n n) (sym z)
level_less P a b (inr z) y = zero_less a b z ∙ ap (λ (n : ℤ). int_lt n b.n) (sym z)

level_most : (P : ℕ) (a b : Decimal) → Level P a → Level P b → is_at_most a b ≡ int_le a.n b.n
level_most P a b (inl e) (inl f) = same_most a b (e ∙ sym f)
level_most P a b (inl e) (inr z) = at_most_zero a b z ∙ ap (λ (n : ℤ). int_le a.n n) (sym z)
level_most P a b (inr z) y = zero_at_most a b z ∙ ap (λ (n : ℤ). int_le n b.n) (sym z)

-- an end at that level
abbrev pub EndLevel : ℕ → End → Type 0
EndLevel P NegInf = Unit {0}
EndLevel P (Excl d) = Level P d
EndLevel P (Incl d) = Level P d
EndLevel P PosInf = Unit {0}

-- ---- a finite end, with its decimal, below, in or above the range

record Finite (P : ℕ) (x : End) (c : Decimal) : Type 0 where
  infinite : lower_covers x NegInf ≡ false
  under_top : int_lt c.n top_number ≡ true → lower_covers x (Incl (top P)) ≡ true
  top_over : int_lt c.n top_number ≡ true → lower_covers (Incl (top P)) x ≡ false
  below_end : lower_covers x PosInf ≡ true
  above_end : lower_covers PosInf x ≡ false
  low : int_lt c.n bottom_number ≡ true → outward_lower x ≡ NegInf
  high : int_le top_number c.n ≡ true → outward_lower x ≡ Incl (top P)
  middle : int_lt c.n bottom_number ≡ false → int_lt c.n top_number ≡ true → outward_lower x ≡ x

le_from_lt : (x y : ℤ) → int_lt x y ≡ true → int_le x y ≡ true
le_from_lt x y h = sym (true_is_le x y (omega (arith, ints)))

not_le : (x y : ℤ) → int_lt x y ≡ true → int_le y x ≡ false
not_le x y h = sym (false_is_le y x (omega (arith, ints)))

not_lt_below : (x : ℤ) → int_le top_number x ≡ true → int_lt x bottom_number ≡ false
not_lt_below x h = sym (false_is_lt x bottom_number (omega (arith, ints)))

not_lt_top : (x : ℤ) → int_lt x top_number ≡ true → int_lt top_number x ≡ false
not_lt_top x h = sym (false_is_lt top_number x (omega (arith, ints)))

le_top_cases : (x : ℤ) → int_le top_number x ≡ true → (int_lt top_number x ≡ true) ⊎ (x ≡ top_number)
le_top_cases x h = elim (cases_Bool (int_lt top_number x)) [ inl t ↦ inl t | inr f ↦ inr (omega (arith, ints)) ]

-- a decimal past the top is no 0
high_places : (P : ℕ) (c : Decimal) → Level P c → int_le top_number c.n ≡ true → c.p ≡ P
high_places P c (inl e) h = e
high_places P c (inr z) h = absurd (none c.n z h)
  where
    none : (n : ℤ) → n ≡ pos 0 → int_le top_number n ≡ true → ⊥
    none n e m = omega (arith, ints)

open_finite : (P : ℕ) (c : Decimal) → Level P c → Finite P (Excl c) c
open_finite P c l = record {
  infinite = refl;
  under_top = λ h. level_less P c (top P) l (inl refl) ∙ h;
  top_over = λ h. level_most P (top P) c (inl refl) l ∙ not_le c.n top_number h;
  below_end = refl;
  above_end = refl;
  low = λ h. rw h refl;
  high = λ h. rw (not_lt_below c.n h, h) (ap (λ (p : ℕ). Incl (top p)) (high_places P c l h));
  middle = λ f h. rw (f, not_le c.n top_number h) refl;
}

closed_finite : (P : ℕ) (c : Decimal) → Level P c → Finite P (Incl c) c
closed_finite P c l = record {
  infinite = refl;
  under_top = λ h. level_most P c (top P) l (inl refl) ∙ le_from_lt c.n top_number h;
  top_over = λ h. level_most P (top P) c (inl refl) l ∙ not_le c.n top_number h;
  below_end = refl;
  above_end = refl;
  low = λ h. rw h refl;
  high = λ h. closed_high h (le_top_cases c.n h);
  middle = λ f h. rw (f, not_lt_top c.n h) refl;
}
  where
    whole : (n : ℤ) (p : ℕ) → n ≡ top_number → p ≡ P → outward_lower (Incl (record { n = n; p = p })) ≡ Incl (top P)
    whole n p e f = ap₂ (λ (m : ℤ) (q : ℕ). outward_lower (Incl (record { n = m; p = q }))) e f

    closed_high : int_le top_number c.n ≡ true → (int_lt top_number c.n ≡ true) ⊎ (c.n ≡ top_number) → outward_lower (Incl c) ≡ Incl (top P)
    closed_high h (inl t) = rw (not_lt_below c.n h, t) (ap (λ (p : ℕ). Incl (top p)) (high_places P c l h))
    closed_high h (inr e) = whole c.n c.p e (high_places P c l h)

data Place (c : Decimal) : Type 0 where
  Low : int_lt c.n bottom_number ≡ true → Place c
  High : int_le top_number c.n ≡ true → Place c
  Middle : int_lt c.n bottom_number ≡ false → int_lt c.n top_number ≡ true → Place c

place_of : (c : Decimal) → Place c
place_of c =
    elim (cases_Bool (int_lt c.n bottom_number)) [
      | inl t ↦ Low t
      | inr f ↦ elim (cases_Bool (int_le top_number c.n)) [
        | inl u ↦ High u
        | inr g ↦ Middle f (under c.n g)
      ]
    ]
  where
    under : (x : ℤ) → int_le top_number x ≡ false → int_lt x top_number ≡ true
    under x g = sym (true_is_lt x top_number (omega (arith, ints)))

pub hull_first : (a b : End) → lower_covers a b ≡ true → lower_hull a b ≡ a
hull_first a b h = rw h refl

hull_second : (a b : End) → lower_covers a b ≡ false → lower_hull a b ≡ b
hull_second a b h = rw h refl

hull_same : (a b e : End) → a ≡ e → b ≡ e → lower_hull a b ≡ e
hull_same a b e x y = elim (cases_Bool (lower_covers a b)) [ inl t ↦ hull_first a b t ∙ x | inr f ↦ hull_second a b f ∙ y ]

not_le_le : (x y : ℤ) → int_le x y ≡ false → int_le y x ≡ true
not_le_le x y h = sym (true_is_le y x (omega (arith, ints)))

not_lt_le : (x y : ℤ) → int_lt x y ≡ false → int_le y x ≡ true
not_lt_le x y h = sym (true_is_le y x (omega (arith, ints)))

-- a finite end stays finite, or is infinite below
moved : (P : ℕ) (x : End) (c : Decimal) → Finite P x c → (lower_covers PosInf (outward_lower x) ≡ false) × (lower_covers (outward_lower x) PosInf ≡ true)
moved P x c f = go (place_of c)
  where
    go : Place c → (lower_covers PosInf (outward_lower x) ≡ false) × (lower_covers (outward_lower x) PosInf ≡ true)
    go (Low h) = (ap (lower_covers PosInf) (f.low h), ap (λ (e : End). lower_covers e PosInf) (f.low h))
    go (High h) = (ap (lower_covers PosInf) (f.high h), ap (λ (e : End). lower_covers e PosInf) (f.high h))
    go (Middle h i) = (ap (lower_covers PosInf) (f.middle h i) ∙ f.above_end, ap (λ (e : End). lower_covers e PosInf) (f.middle h i) ∙ f.below_end)

-- a finite end and an infinite one
before_infinite : (P : ℕ) (x : End) (c : Decimal) → Finite P x c → outward_lower (lower_hull x PosInf) ≡ lower_hull (outward_lower x) PosInf
before_infinite P x c f = ap outward_lower (hull_first x PosInf f.below_end) ∙ sym (hull_first (outward_lower x) PosInf (moved P x c f).1)

past_infinite : (P : ℕ) (x : End) (c : Decimal) → Finite P x c → outward_lower (lower_hull PosInf x) ≡ lower_hull PosInf (outward_lower x)
past_infinite P x c f = ap outward_lower (hull_second PosInf x f.above_end) ∙ sym (hull_second PosInf (outward_lower x) (moved P x c f).0)

after_infinite : (P : ℕ) (x : End) (c : Decimal) → Finite P x c → outward_lower (lower_hull x NegInf) ≡ lower_hull (outward_lower x) NegInf
after_infinite P x c f = ap outward_lower (hull_second x NegInf f.infinite) ∙ sym (go (place_of c))
  where
    go : Place c → lower_hull (outward_lower x) NegInf ≡ NegInf
    go (Low h) = ap (λ (e : End). lower_hull e NegInf) (f.low h)
    go (High h) = ap (λ (e : End). lower_hull e NegInf) (f.high h)
    go (Middle h i) = ap (λ (e : End). lower_hull e NegInf) (f.middle h i) ∙ hull_second x NegInf f.infinite

-- two finite ends
hull_finite : (P : ℕ) (x y : End) (c d : Decimal) → Finite P x c → Finite P y d
    → (lower_covers x y ≡ true → int_le c.n d.n ≡ true) → (lower_covers x y ≡ false → int_le d.n c.n ≡ true)
    → outward_lower (lower_hull x y) ≡ lower_hull (outward_lower x) (outward_lower y)
hull_finite P x y c d fx fy up down = go (place_of c) (place_of d) (cases_Bool (lower_covers x y))
  where
    takes_first : lower_covers x y ≡ true → outward_lower (lower_hull x y) ≡ outward_lower x
    takes_first t = ap outward_lower (hull_first x y t)

    takes_second : lower_covers x y ≡ false → outward_lower (lower_hull x y) ≡ outward_lower y
    takes_second f = ap outward_lower (hull_second x y f)

    clash : (m n : ℤ) → int_lt m n ≡ true → int_le n m ≡ true → ⊥
    clash m n h k = omega (arith, ints)

    low_high : (m n : ℤ) → int_lt m bottom_number ≡ true → int_le top_number n ≡ true → int_le n m ≡ true → ⊥
    low_high m n h k o = omega (arith, ints)

    low_middle : (m n : ℤ) → int_lt m bottom_number ≡ true → int_lt n bottom_number ≡ false → int_le n m ≡ true → ⊥
    low_middle m n h k o = omega (arith, ints)

    middle_high : (m n : ℤ) → int_lt m top_number ≡ true → int_le top_number n ≡ true → int_le n m ≡ true → ⊥
    middle_high m n h k o = omega (arith, ints)

    go : Place c → Place d → (lower_covers x y ≡ true) ⊎ (lower_covers x y ≡ false) → outward_lower (lower_hull x y) ≡ lower_hull (outward_lower x) (outward_lower y)
    go (Low h) (Low k) (inl t) = takes_first t ∙ fx.low h ∙ sym (hull_same (outward_lower x) (outward_lower y) NegInf (fx.low h) (fy.low k))
    go (Low h) (Low k) (inr f) = takes_second f ∙ fy.low k ∙ sym (hull_same (outward_lower x) (outward_lower y) NegInf (fx.low h) (fy.low k))
    go (High h) (High k) (inl t) = takes_first t ∙ fx.high h ∙ sym (hull_same (outward_lower x) (outward_lower y) (Incl (top P)) (fx.high h) (fy.high k))
    go (High h) (High k) (inr f) = takes_second f ∙ fy.high k ∙ sym (hull_same (outward_lower x) (outward_lower y) (Incl (top P)) (fx.high h) (fy.high k))
    go (Middle h i) (Middle k j) (inl t) = takes_first t ∙ sym (ap₂ lower_hull (fx.middle h i) (fy.middle k j) ∙ hull_first x y t ∙ sym (fx.middle h i))
    go (Middle h i) (Middle k j) (inr f) = takes_second f ∙ sym (ap₂ lower_hull (fx.middle h i) (fy.middle k j) ∙ hull_second x y f ∙ sym (fy.middle k j))
    go (Low h) (High k) (inl t) = takes_first t ∙ fx.low h ∙ sym (ap (λ (e : End). lower_hull e (outward_lower y)) (fx.low h))
    go (Low h) (High k) (inr f) = absurd (low_high c.n d.n h k (down f))
    go (Low h) (Middle k j) (inl t) = takes_first t ∙ fx.low h ∙ sym (ap (λ (e : End). lower_hull e (outward_lower y)) (fx.low h))
    go (Low h) (Middle k j) (inr f) = absurd (low_middle c.n d.n h k (down f))
    go (High h) (Low k) (inl t) = absurd (low_high d.n c.n k h (up t))
    go (High h) (Low k) (inr f) = takes_second f ∙ fy.low k ∙ sym (ap₂ lower_hull (fx.high h) (fy.low k))
    go (Middle h i) (Low k) (inl t) = absurd (low_middle d.n c.n k h (up t))
    go (Middle h i) (Low k) (inr f) = takes_second f ∙ fy.low k ∙ sym (ap₂ lower_hull (fx.middle h i) (fy.low k) ∙ hull_second x NegInf fx.infinite)
    go (Middle h i) (High k) (inl t) = takes_first t ∙ sym (ap₂ lower_hull (fx.middle h i) (fy.high k) ∙ hull_first x (Incl (top P)) (fx.under_top i) ∙ sym (fx.middle h i))
    go (Middle h i) (High k) (inr f) = absurd (middle_high c.n d.n i k (down f))
    go (High h) (Middle k j) (inl t) = absurd (middle_high d.n c.n j h (up t))
    go (High h) (Middle k j) (inr f) = takes_second f ∙ sym (ap₂ lower_hull (fx.high h) (fy.middle k j) ∙ hull_second (Incl (top P)) y (fy.top_over j) ∙ sym (fy.middle k j))

-- of any two ends at one level
pub lower_hull_outward : (P : ℕ) (x y : End) → EndLevel P x → EndLevel P y → outward_lower (lower_hull x y) ≡ lower_hull (outward_lower x) (outward_lower y)
lower_hull_outward P NegInf y lx ly = refl
lower_hull_outward P (Excl c) NegInf lx ly = after_infinite P (Excl c) c (open_finite P c lx)
lower_hull_outward P (Excl c) (Excl d) lx ly =
    hull_finite P (Excl c) (Excl d) c d (open_finite P c lx) (open_finite P d ly)
    (λ t. sym (level_most P c d lx ly) ∙ t) (λ f. not_le_le c.n d.n (sym (level_most P c d lx ly) ∙ f))
lower_hull_outward P (Excl c) (Incl d) lx ly =
    hull_finite P (Excl c) (Incl d) c d (open_finite P c lx) (closed_finite P d ly)
    (λ t. le_from_lt c.n d.n (sym (level_less P c d lx ly) ∙ t)) (λ f. not_lt_le c.n d.n (sym (level_less P c d lx ly) ∙ f))
lower_hull_outward P (Excl c) PosInf lx ly = before_infinite P (Excl c) c (open_finite P c lx)
lower_hull_outward P (Incl c) NegInf lx ly = after_infinite P (Incl c) c (closed_finite P c lx)
lower_hull_outward P (Incl c) (Excl d) lx ly =
    hull_finite P (Incl c) (Excl d) c d (closed_finite P c lx) (open_finite P d ly)
    (λ t. sym (level_most P c d lx ly) ∙ t) (λ f. not_le_le c.n d.n (sym (level_most P c d lx ly) ∙ f))
lower_hull_outward P (Incl c) (Incl d) lx ly =
    hull_finite P (Incl c) (Incl d) c d (closed_finite P c lx) (closed_finite P d ly)
    (λ t. sym (level_most P c d lx ly) ∙ t) (λ f. not_le_le c.n d.n (sym (level_most P c d lx ly) ∙ f))
lower_hull_outward P (Incl c) PosInf lx ly = before_infinite P (Incl c) c (closed_finite P c lx)
lower_hull_outward P PosInf NegInf lx ly = refl
lower_hull_outward P PosInf (Excl d) lx ly = past_infinite P (Excl d) d (open_finite P d ly)
lower_hull_outward P PosInf (Incl d) lx ly = past_infinite P (Incl d) d (closed_finite P d ly)
lower_hull_outward P PosInf PosInf lx ly = refl

pub lower_hull_level : (P : ℕ) (x y : End) → EndLevel P x → EndLevel P y → EndLevel P (lower_hull x y)
lower_hull_level P x y lx ly = elim (cases_Bool (lower_covers x y)) [ inl t ↦ subst (EndLevel P) (sym (hull_first x y t)) lx | inr f ↦ subst (EndLevel P) (sym (hull_second x y f)) ly ]

-- ---- the same for upper ends, mirrored

pub covers_mirrored : (u v : End) → lower_covers (mirrored_end u) (mirrored_end v) ≡ upper_covers u v
covers_mirrored NegInf NegInf = refl
covers_mirrored NegInf (Excl b) = refl
covers_mirrored NegInf (Incl b) = refl
covers_mirrored NegInf PosInf = refl
covers_mirrored (Excl a) NegInf = refl
covers_mirrored (Excl a) (Excl b) = most_negative b a
covers_mirrored (Excl a) (Incl b) = less_negative b a
covers_mirrored (Excl a) PosInf = refl
covers_mirrored (Incl a) NegInf = refl
covers_mirrored (Incl a) (Excl b) = most_negative b a
covers_mirrored (Incl a) (Incl b) = most_negative b a
covers_mirrored (Incl a) PosInf = refl
covers_mirrored PosInf NegInf = refl
covers_mirrored PosInf (Excl b) = refl
covers_mirrored PosInf (Incl b) = refl
covers_mirrored PosInf PosInf = refl

pub hull_mirrored : (u v : End) → mirrored_end (upper_hull u v) ≡ lower_hull (mirrored_end u) (mirrored_end v)
hull_mirrored u v =
    elim (cases_Bool (upper_covers u v)) [
      | inl t ↦ rw (covers_mirrored u v, t) refl
      | inr f ↦ rw (covers_mirrored u v, f) refl
    ]

open_mirrored : (d : Decimal) → mirrored_end (outward_upper (Excl d)) ≡ outward_lower (Excl (negative_of d))
open_mirrored d = rw (neg_lt top_number d.n, neg_le d.n bottom_number) (pick (int_lt top_number d.n) (int_le d.n bottom_number))
  where
    pick : (s t : Bool) → mirrored_end (cond s PosInf (cond t (Incl (record { n = bottom_number; p = d.p })) (Excl d))) ≡ cond s NegInf (cond t (Incl (top d.p)) (Excl (negative_of d)))
    pick true t = refl
    pick false true = refl
    pick false false = refl

closed_mirrored : (d : Decimal) → mirrored_end (outward_upper (Incl d)) ≡ outward_lower (Incl (negative_of d))
closed_mirrored d = rw (neg_lt top_number d.n, neg_lt d.n bottom_number) (pick (int_lt top_number d.n) (int_lt d.n bottom_number))
  where
    pick : (s t : Bool) → mirrored_end (cond s PosInf (cond t (Incl (record { n = bottom_number; p = d.p })) (Incl d))) ≡ cond s NegInf (cond t (Incl (top d.p)) (Incl (negative_of d)))
    pick true t = refl
    pick false true = refl
    pick false false = refl

pub outward_mirrored : (u : End) → mirrored_end (outward_upper u) ≡ outward_lower (mirrored_end u)
outward_mirrored NegInf = refl
outward_mirrored (Excl d) = open_mirrored d
outward_mirrored (Incl d) = closed_mirrored d
outward_mirrored PosInf = refl

level_mirrored : (P : ℕ) (d : Decimal) → Level P d → Level P (negative_of d)
level_mirrored P d (inl e) = inl e
level_mirrored P d (inr z) = inr (ap neg_ℤ z)

end_level_mirrored : (P : ℕ) (u : End) → EndLevel P u → EndLevel P (mirrored_end u)
end_level_mirrored P NegInf l = tt
end_level_mirrored P (Excl d) l = level_mirrored P d l
end_level_mirrored P (Incl d) l = level_mirrored P d l
end_level_mirrored P PosInf l = tt

pub upper_hull_outward : (P : ℕ) (x y : End) → EndLevel P x → EndLevel P y → outward_upper (upper_hull x y) ≡ upper_hull (outward_upper x) (outward_upper y)
upper_hull_outward P x y lx ly =
    sym (end_twice (outward_upper (upper_hull x y)))
    ∙ ap mirrored_end
    (outward_mirrored (upper_hull x y)
    ∙ ap outward_lower (hull_mirrored x y)
    ∙ lower_hull_outward P (mirrored_end x) (mirrored_end y) (end_level_mirrored P x lx) (end_level_mirrored P y ly)
    ∙ ap₂ lower_hull (sym (outward_mirrored x)) (sym (outward_mirrored y))
    ∙ sym (hull_mirrored (outward_upper x) (outward_upper y)))
    ∙ end_twice (upper_hull (outward_upper x) (outward_upper y))

pub upper_hull_level : (P : ℕ) (x y : End) → EndLevel P x → EndLevel P y → EndLevel P (upper_hull x y)
upper_hull_level P x y lx ly = elim (cases_Bool (upper_covers x y)) [ inl t ↦ rw t lx | inr f ↦ rw f ly ]

-- ---- products of intervals

pub level_of_places : (P : ℕ) (e : End) → HasPlaces P e → EndLevel P e
level_of_places P NegInf h = tt
level_of_places P (Excl d) h = inl h
level_of_places P (Incl d) h = inl h
level_of_places P PosInf h = tt

infinite_level : (P : ℕ) (s t : Bool) → EndLevel P (infinite_product s t)
infinite_level P true true = tt
infinite_level P true false = tt
infinite_level P false true = tt
infinite_level P false false = tt

exact_level : (p q : ℕ) (a b : End) → HasPlaces p a → HasPlaces q b → EndLevel (p + q) (exact_product a b)
exact_level p q NegInf b h k = infinite_level (p + q) true (is_negative_end b)
exact_level p q (Excl x) NegInf h k = infinite_level (p + q) (int_lt x.n (pos 0)) true
exact_level p q (Excl x) (Excl y) h k = inl (omega arith)
exact_level p q (Excl x) (Incl y) h k = inl (omega arith)
exact_level p q (Excl x) PosInf h k = infinite_level (p + q) (int_lt x.n (pos 0)) false
exact_level p q (Incl x) NegInf h k = infinite_level (p + q) (int_lt x.n (pos 0)) true
exact_level p q (Incl x) (Excl y) h k = inl (omega arith)
exact_level p q (Incl x) (Incl y) h k = inl (omega arith)
exact_level p q (Incl x) PosInf h k = infinite_level (p + q) (int_lt x.n (pos 0)) false
exact_level p q PosInf b h k = infinite_level (p + q) false (is_negative_end b)

pub product_level : (p q : ℕ) (a b : End) → HasPlaces p a → HasPlaces q b → EndLevel (p + q) (end_product a b)
product_level p q a b h k =
    elim (cases_Bool (is_closed_zero a || is_closed_zero b)) [
      | inl t ↦ subst (EndLevel (p + q)) (sym (cond-true (is_closed_zero a || is_closed_zero b) (Incl origin) (cond (is_open_zero a || is_open_zero b) (Excl origin) (exact_product a b)) t)) (inr refl)
      | inr f ↦ elim (cases_Bool (is_open_zero a || is_open_zero b)) [
        | inl u ↦ subst (EndLevel (p + q)) (sym (cond-false (is_closed_zero a || is_closed_zero b) (Incl origin) (cond (is_open_zero a || is_open_zero b) (Excl origin) (exact_product a b)) f ∙ cond-true (is_open_zero a || is_open_zero b) (Excl origin) (exact_product a b) u)) (inr refl)
        | inr g ↦ subst (EndLevel (p + q)) (sym (cond-false (is_closed_zero a || is_closed_zero b) (Incl origin) (cond (is_open_zero a || is_open_zero b) (Excl origin) (exact_product a b)) f ∙ cond-false (is_open_zero a || is_open_zero b) (Excl origin) (exact_product a b) g)) (exact_level p q a b h k)
      ]
    ]

pub least_outward : (i j : Interval) → ProductPlaces i j → outward_lower (least_product i j) ≡
    lower_hull (lower_hull (outward_lower (end_product i.0 j.0)) (outward_lower (end_product i.0 j.1))) (lower_hull (outward_lower (end_product i.1 j.0)) (outward_lower (end_product i.1 j.1)))
least_outward i j w =
    let P = w.first + w.second in
    let ll = product_level w.first w.second i.0 j.0 w.first_lower w.second_lower in
    let lu = product_level w.first w.second i.0 j.1 w.first_lower w.second_upper in
    let ul = product_level w.first w.second i.1 j.0 w.first_upper w.second_lower in
    let uu = product_level w.first w.second i.1 j.1 w.first_upper w.second_upper in
    lower_hull_outward P (lower_hull (end_product i.0 j.0) (end_product i.0 j.1)) (lower_hull (end_product i.1 j.0) (end_product i.1 j.1))
    (lower_hull_level P (end_product i.0 j.0) (end_product i.0 j.1) ll lu) (lower_hull_level P (end_product i.1 j.0) (end_product i.1 j.1) ul uu)
    ∙ ap₂ lower_hull (lower_hull_outward P (end_product i.0 j.0) (end_product i.0 j.1) ll lu) (lower_hull_outward P (end_product i.1 j.0) (end_product i.1 j.1) ul uu)

pub greatest_outward : (i j : Interval) → ProductPlaces i j → outward_upper (greatest_product i j) ≡
    upper_hull (upper_hull (outward_upper (end_product i.0 j.0)) (outward_upper (end_product i.0 j.1))) (upper_hull (outward_upper (end_product i.1 j.0)) (outward_upper (end_product i.1 j.1)))
greatest_outward i j w =
    let P = w.first + w.second in
    let ll = product_level w.first w.second i.0 j.0 w.first_lower w.second_lower in
    let lu = product_level w.first w.second i.0 j.1 w.first_lower w.second_upper in
    let ul = product_level w.first w.second i.1 j.0 w.first_upper w.second_lower in
    let uu = product_level w.first w.second i.1 j.1 w.first_upper w.second_upper in
    upper_hull_outward P (upper_hull (end_product i.0 j.0) (end_product i.0 j.1)) (upper_hull (end_product i.1 j.0) (end_product i.1 j.1))
    (upper_hull_level P (end_product i.0 j.0) (end_product i.0 j.1) ll lu) (upper_hull_level P (end_product i.1 j.0) (end_product i.1 j.1) ul uu)
    ∙ ap₂ upper_hull (upper_hull_outward P (end_product i.0 j.0) (end_product i.0 j.1) ll lu) (upper_hull_outward P (end_product i.1 j.0) (end_product i.1 j.1) ul uu)

places_below : (p : ℕ) (e : End) → HasPlaces p e → end_places e ≤ p
places_below p NegInf h = omega arith
places_below p (Excl d) h = omega arith
places_below p (Incl d) h = omega arith
places_below p PosInf h = omega arith

-- all four products have few places
pub record FewPlaces (i j : Interval) : Type 0 where
  pub lower_lower : end_places i.0 + end_places j.0 ≤ 18
  pub lower_upper : end_places i.0 + end_places j.1 ≤ 18
  pub upper_lower : end_places i.1 + end_places j.0 ≤ 18
  pub upper_upper : end_places i.1 + end_places j.1 ≤ 18

pub few_products : (i j : Interval) → ProductPlaces i j → FewPlaces i j
few_products i j w =
    let a = places_below w.first i.0 w.first_lower in
    let b = places_below w.first i.1 w.first_upper in
    let c = places_below w.second j.0 w.second_lower in
    let d = places_below w.second j.1 w.second_upper in
    record { lower_lower = omega (arith, w.few); lower_upper = omega (arith, w.few); upper_lower = omega (arith, w.few); upper_upper = omega (arith, w.few) }
