-- Ends of exact decimals, by what is known of them.
use Rattle.std.proofs.Common.{◌≡◌, ℕ, ◌<◌, ◌^◌, Bool, true, false, cond, ℤ, pos, negsuc, neg_ℤ, ◌+ℤ◌, ◌*ℤ◌, int_lt, int_le, Result, MatchResult, max, ◌+◌, sym, refl, ap₂, ◌∙◌, subst, arith, inl, inr, not, ◌*◌, suc, le-ltb, zero-le}
use Rattle.std.proofs.lemmas.Bool.{cases_lt}
use Rattle.std.proofs.lemmas.Int.{ints}
use Rattle.std.proofs.lemmas.Bool.{cases_Bool}
use borrow.Author.Differences.{up, down, true_is_lt, true_is_le, false_is_lt}
use Rattle.num_ends.specs.Decimal.{Decimal, InRange, aligned, number_at, sum_of, product_of}
use Rattle.num_ends.specs.declared.faults.Range.{Range}
use Rattle.num_ends.specs.declared.ends.End.TheVariants.{NegInf, Excl, Incl, PosInf}
use Rattle.num_ends.specs.Arithmetic.{top_number, bottom_number, top, bottom, outward_lower, outward_upper}
use Rattle.num_ends.specs.Inside.{IsKnown, end_of}
use Rattle.num_ends.proofs.DecimalOrder.{no_place_more}
use Rattle.num_ends.proofs.Operations.{number_sign_back}

not_past_bottom : (z : ℤ) → InRange z → int_lt z bottom_number ≡ false
not_past_bottom (pos n) h = refl
not_past_bottom (negsuc n) h = sym (false_is_lt (negsuc n) bottom_number (omega arith))

not_past_top : (z : ℤ) → InRange z → int_lt top_number z ≡ false
not_past_top (pos n) h = sym (false_is_lt top_number (pos n) (omega arith))
not_past_top (negsuc n) h = refl

past_bottom : (z : ℤ) → (InRange z → ⊥) → int_lt z (pos 0) ≡ true → int_lt z bottom_number ≡ true
past_bottom z h k =
    elim (cases_Bool (int_lt z bottom_number)) [ inl t ↦ t | inr f ↦ absurd (h (within z k f)) ]
  where
    within : (x : ℤ) → int_lt x (pos 0) ≡ true → int_lt x bottom_number ≡ false → InRange x
    within (pos n) m f = absurd (omega (arith, ints))
    within (negsuc n) m f = omega (arith, ints)

past_top : (z : ℤ) → (InRange z → ⊥) → int_lt z (pos 0) ≡ false → int_lt top_number z ≡ true
past_top z h k =
    elim (cases_Bool (int_lt top_number z)) [ inl t ↦ t | inr f ↦ absurd (h (within z k f)) ]
  where
    within : (x : ℤ) → int_lt x (pos 0) ≡ false → int_lt top_number x ≡ false → InRange x
    within (pos n) m f = omega (arith, ints)
    within (negsuc n) m f = cc

top_not_bottom : (z : ℤ) → int_lt top_number z ≡ true → int_lt z bottom_number ≡ false
top_not_bottom z h = sym (false_is_lt z bottom_number (omega (arith, ints)))

bottom_not_top : (z : ℤ) → int_lt z bottom_number ≡ true → int_lt top_number z ≡ false
bottom_not_top z h = sym (false_is_lt top_number z (omega (arith, ints)))

lt_le_top : (z : ℤ) → int_lt top_number z ≡ true → int_le top_number z ≡ true
lt_le_top z h = sym (true_is_le top_number z (omega (arith, ints)))

lt_le_bottom : (z : ℤ) → int_lt z bottom_number ≡ true → int_le z bottom_number ≡ true
lt_le_bottom z h = sym (true_is_le z bottom_number (omega (arith, ints)))

-- ---- lower ends

pub lower_closed : (d : Decimal) → InRange d.n → outward_lower (Incl d) ≡ Incl d
lower_closed d h = rw (not_past_bottom d.n h, not_past_top d.n h) refl

pub lower_open : (d : Decimal) → InRange d.n → int_le top_number d.n ≡ false → outward_lower (Excl d) ≡ Excl d
lower_open d h k = rw (not_past_bottom d.n h, k) refl

pub lower_open_top : (d : Decimal) → InRange d.n → int_le top_number d.n ≡ true → outward_lower (Excl d) ≡ Incl (top d.p)
lower_open_top d h k = rw (not_past_bottom d.n h, k) refl

pub lower_under : (closed : Bool) (d : Decimal) → (InRange d.n → ⊥) → int_lt d.n (pos 0) ≡ true → outward_lower (end_of closed d) ≡ NegInf
lower_under true d h k = rw (past_bottom d.n h k) refl
lower_under false d h k = rw (past_bottom d.n h k) refl

pub lower_over : (closed : Bool) (d : Decimal) → (InRange d.n → ⊥) → int_lt d.n (pos 0) ≡ false → outward_lower (end_of closed d) ≡ Incl (top d.p)
lower_over true d h k = let t = past_top d.n h k in rw (top_not_bottom d.n t, t) refl
lower_over false d h k = let t = past_top d.n h k in rw (top_not_bottom d.n t, lt_le_top d.n t) refl

-- ---- upper ends

pub upper_closed : (d : Decimal) → InRange d.n → outward_upper (Incl d) ≡ Incl d
upper_closed d h = rw (not_past_top d.n h, not_past_bottom d.n h) refl

pub upper_open : (d : Decimal) → InRange d.n → int_le d.n bottom_number ≡ false → outward_upper (Excl d) ≡ Excl d
upper_open d h k = rw (not_past_top d.n h, k) refl

pub upper_open_bottom : (d : Decimal) → InRange d.n → int_le d.n bottom_number ≡ true → outward_upper (Excl d) ≡ Incl (bottom d.p)
upper_open_bottom d h k = rw (not_past_top d.n h, k) refl

pub upper_over : (closed : Bool) (d : Decimal) → (InRange d.n → ⊥) → int_lt d.n (pos 0) ≡ false → outward_upper (end_of closed d) ≡ PosInf
upper_over true d h k = rw (past_top d.n h k) refl
upper_over false d h k = rw (past_top d.n h k) refl

pub upper_under : (closed : Bool) (d : Decimal) → (InRange d.n → ⊥) → int_lt d.n (pos 0) ≡ true → outward_upper (end_of closed d) ≡ Incl (bottom d.p)
upper_under true d h k = let t = past_bottom d.n h k in rw (bottom_not_top d.n t, t) refl
upper_under false d h k = let t = past_bottom d.n h k in rw (bottom_not_top d.n t, lt_le_bottom d.n t) refl

-- ---- what the operations find

-- the sign of an aligned number is that of the decimal
aligned_sign : (q : ℕ) (d : Decimal) → int_lt d.n (pos 0) ≡ int_lt (number_at q d) (pos 0)
aligned_sign q d = sym (number_sign_back d q)

pub aligned_known : (q : ℕ) (d : Decimal) (found : Result Decimal Range) (negative : Bool)
    → MatchResult found (λ x. (x ≡ aligned q d) × InRange (number_at q d)) (λ fault. InRange (number_at q d) → ⊥) → negative ≡ int_lt d.n (pos 0)
    → IsKnown (aligned q d) found negative
aligned_known q d found negative h e = record { value = h; sign = λ out. e ∙ aligned_sign q d }

size_below : (z : ℤ) → up z < 2 ^ 127 → down z < 2 ^ 127 → InRange z
size_below (pos n) h k = h
size_below (negsuc n) h k = k

sum_is : (a b : Decimal) (p : ℕ) → a.p ≡ p → b.p ≡ p → sum_of a b ≡ record { n = a.n +ℤ b.n; p = a.p }
sum_is a b p e f =
    let c = max a.p b.p in
    let places : c ≡ a.p = omega arith in
    ap₂ (λ (n : ℤ) (q : ℕ). record { n = n; p = q })
    (ap₂ (λ (x y : ℤ). x +ℤ y) (no_place_more c a (omega arith)) (no_place_more c b (omega arith))) places

sum_sign : (x y : ℤ) → InRange x → InRange y → (InRange (x +ℤ y) → ⊥) → int_lt x (pos 0) ≡ int_lt (x +ℤ y) (pos 0)
sum_sign (pos a) (pos b) h k out = false_from_sum a b
  where
    false_from_sum : (m n : ℕ) → int_lt (pos m) (pos 0) ≡ int_lt (pos (m + n)) (pos 0)
    false_from_sum m n = sym (false_is_lt (pos m) (pos 0) (omega arith)) ∙ false_is_lt (pos (m + n)) (pos 0) (omega arith)
sum_sign (pos a) (negsuc b) h k out = absurd (out (mixed a b h k))
  where
    mixed : (m n : ℕ) → InRange (pos m) → InRange (negsuc n) → InRange (pos m +ℤ negsuc n)
    mixed m n u v = size_below (pos m +ℤ negsuc n) (omega (arith, ints)) (omega (arith, ints))
sum_sign (negsuc a) (pos b) h k out = absurd (out (mixed a b h k))
  where
    mixed : (m n : ℕ) → InRange (negsuc m) → InRange (pos n) → InRange (negsuc m +ℤ pos n)
    mixed m n u v = size_below (negsuc m +ℤ pos n) (omega (arith, ints)) (omega (arith, ints))
sum_sign (negsuc a) (negsuc b) h k out = refl

pub sum_known : (a b : Decimal) (p : ℕ) (found : Result Decimal Range) (negative : Bool) → a.p ≡ p → b.p ≡ p → InRange a.n → InRange b.n
    → MatchResult found (λ x. (x ≡ record { n = a.n +ℤ b.n; p = a.p }) × InRange (a.n +ℤ b.n)) (λ fault. InRange (a.n +ℤ b.n) → ⊥) → negative ≡ int_lt a.n (pos 0)
    → IsKnown (sum_of a b) found negative
sum_known a b p found negative e f h k m s = subst (λ (x : Decimal). IsKnown x found negative) (sym (sum_is a b p e f)) (record { value = m; sign = λ out. s ∙ sum_sign a.n b.n h k out })

pub sum_places : (a b : Decimal) (p : ℕ) → a.p ≡ p → b.p ≡ p → (sum_of a b).p ≡ p
sum_places a b p e f = omega arith

negative_product : (m n : ℕ) → (InRange (neg_ℤ (pos (m * n))) → ⊥) → true ≡ int_lt (neg_ℤ (pos (m * n))) (pos 0)
negative_product m n out =
    elim (cases_lt 0 (m * n)) [
      | inl h ↦ true_is_lt (neg_ℤ (pos (m * n))) (pos 0) (omega (arith, ints))
      | inr h ↦ absurd (out (size_below (neg_ℤ (pos (m * n))) (omega (arith, ints)) (omega (arith, ints))))
    ]

-- the sign of a product that leaves the range, by the signs of its factors
pub product_sign : (x y : ℤ) → (InRange (x *ℤ y) → ⊥) → cond (int_lt x (pos 0)) (not (int_lt y (pos 0))) (int_lt y (pos 0)) ≡ int_lt (x *ℤ y) (pos 0)
product_sign (pos a) (pos b) out = rw (le-ltb a 0 zero-le, le-ltb b 0 zero-le, le-ltb (a * b) 0 zero-le) refl
product_sign (pos a) (negsuc b) out = rw (le-ltb a 0 zero-le) (negative_product a (suc b) out)
product_sign (negsuc a) (pos b) out = rw (le-ltb b 0 zero-le) (negative_product (suc a) b out)
product_sign (negsuc a) (negsuc b) out = sym (le-ltb (suc a * suc b) 0 zero-le)

pub product_known : (a b : Decimal) (p : ℕ) (found : Result Decimal Range) (negative : Bool) → p ≡ a.p + b.p
    → MatchResult found (λ x. (x ≡ record { n = a.n *ℤ b.n; p = p }) × InRange (a.n *ℤ b.n)) (λ fault. InRange (a.n *ℤ b.n) → ⊥)
    → ((InRange (a.n *ℤ b.n) → ⊥) → negative ≡ int_lt (a.n *ℤ b.n) (pos 0))
    → IsKnown (product_of a b) found negative
product_known a b p found negative e m s = subst (λ (q : ℕ). IsKnown (record { n = a.n *ℤ b.n; p = q }) found negative) e (record { value = m; sign = s })
