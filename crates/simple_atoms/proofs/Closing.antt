-- Repetitions are the least number of gains that close the gap.
use Rattle.std.proofs.Common.{if◌then◌else◌, ◌≡◌, ℕ, zero, suc, ◌+◌, ◌-◌, ◌*◌, ◌/◌, ◌^◌, ◌<◌, ◌≤◌, ◌&&◌, ◌||◌, min, Bool, true, false, Some, None, ℤ, pos, negsuc, neg_ℤ, ◌+ℤ◌, ◌*ℤ◌, int_lt, int_le, unsigned_abs, refl, sym, ap, ap₂, ◌∙◌, subst, arith, zero-mul, mul_comm, inl, inr, List}
use Rattle.std.proofs.lemmas.Int.{ints}
use Rattle.std.proofs.lemmas.Bool.{cases_Bool}
use Rattle.std.proofs.Math.IntN.{*ℤ_comm}
use Rattle.std.proofs.Math.Nat.{mul-le-mul_right, one-le-pow}
use Rattle.std.proofs.lemmas.Nat.{div-add-mod'}
use borrow.Author.Differences.{true_is_lt, false_is_lt, true_is_le, false_is_le}
use Rattle.num_ends.specs.Decimal.{Decimal, common_places, number_at, origin, is_at_most, sum_of}
use Rattle.num_ends.specs.Range.{operands_fit}
use Rattle.num_ends.proofs.DecimalOrder.{scaled_lt, scaled_twice}
use Rattle.num_ends.proofs.Operations.{zero_less, zero_at_most}
use Rattle.simple_atoms.specs.declared.linear.Linear.{Linear}
use Rattle.simple_atoms.specs.declared.linear.TheConstants.{FAR}
use Rattle.simple_atoms.specs.Repetitions.{closes, helps, is_passing, repetitions, size_of, sizes_of, steps_of, steps_over, times, IsLeastClosing}
use Rattle.simple_atoms.specs.Forms.{Term}
use Rattle.simple_atoms.specs.Values.{is_met}

-- ---- whole numbers

passed : (a b : ℕ) → 0 < b → a < (a / b + 1) * b
passed a b h = omega (arith, div-add-mod' a b)

not_passed : (a b k : ℕ) → k < a / b + 1 → k * b ≤ a
not_passed a b k h =
    let within : k ≤ a / b = omega arith in
    omega (arith, mul-le-mul_right b within, div-add-mod' a b)

reached : (a b : ℕ) → 0 < b → a ≤ ((a - 1) / b + 1) * b
reached a b h = omega (arith, passed (a - 1) b h)

not_reached : (a b k : ℕ) → 0 < a → k < (a - 1) / b + 1 → k * b < a
not_reached a b k some h = omega (arith, not_passed (a - 1) b k h)

-- ---- signs

sign_kept : (n : ℤ) (k : ℕ) → 0 < k → int_lt (pos 0) (n *ℤ pos k) ≡ int_lt (pos 0) n
sign_kept n k h = ap (λ (z : ℤ). int_lt z (n *ℤ pos k)) (ap pos (sym (zero-mul k))) ∙ scaled_lt (pos 0) n k h

sign_kept_back : (n : ℤ) (k : ℕ) → 0 < k → int_lt (n *ℤ pos k) (pos 0) ≡ int_lt n (pos 0)
sign_kept_back n k h = ap (λ (z : ℤ). int_lt (n *ℤ pos k) z) (ap pos (sym (zero-mul k))) ∙ scaled_lt n (pos 0) k h

not_positive : (n : ℤ) → int_lt (pos 0) n ≡ false → n ≡ neg_ℤ (pos (unsigned_abs n))
not_positive (pos zero) h = refl
not_positive (pos (suc n)) h = absurd (omega (arith, ints))
not_positive (negsuc n) h = refl

is_positive : (n : ℤ) → int_lt (pos 0) n ≡ true → (n ≡ pos (unsigned_abs n)) × (0 < unsigned_abs n)
is_positive (pos n) h = (refl, omega (arith, ints))
is_positive (negsuc n) h = cc

some_size : (n : ℤ) → int_lt n (pos 0) ≡ true → 0 < unsigned_abs n
some_size (pos n) h = absurd (omega (arith, ints))
some_size (negsuc n) h = omega arith

size_scaled : (n : ℤ) (k : ℕ) → unsigned_abs (n *ℤ pos k) ≡ unsigned_abs n * k
size_scaled (pos n) k = refl
size_scaled (negsuc n) k = size_negative (suc n * k)
  where
    size_negative : (m : ℕ) → unsigned_abs (neg_ℤ (pos m)) ≡ m
    size_negative zero = refl
    size_negative (suc m) = refl

gains_less : (a b m : ℕ) → a < m * b → int_lt (pos 0) (neg_ℤ (pos a) +ℤ pos (m * b)) ≡ true
gains_less a b m h = sym (true_is_lt (pos 0) (neg_ℤ (pos a) +ℤ pos (m * b)) (omega (arith, ints)))

gains_not_less : (a b m : ℕ) → m * b ≤ a → int_lt (pos 0) (neg_ℤ (pos a) +ℤ pos (m * b)) ≡ false
gains_not_less a b m h = sym (false_is_lt (pos 0) (neg_ℤ (pos a) +ℤ pos (m * b)) (omega (arith, ints)))

gains_most : (a b m : ℕ) → a ≤ m * b → int_le (pos 0) (neg_ℤ (pos a) +ℤ pos (m * b)) ≡ true
gains_most a b m h = sym (true_is_le (pos 0) (neg_ℤ (pos a) +ℤ pos (m * b)) (omega (arith, ints)))

gains_not_most : (a b m : ℕ) → m * b < a → int_le (pos 0) (neg_ℤ (pos a) +ℤ pos (m * b)) ≡ false
gains_not_most a b m h = sym (false_is_le (pos 0) (neg_ℤ (pos a) +ℤ pos (m * b)) (omega (arith, ints)))

-- ---- decimals

-- the numbers of value and gain at the larger of their counts of places
abbrev value_number : Decimal → Decimal → ℤ
value_number value gain = number_at (common_places value gain) value

abbrev gain_number : Decimal → Decimal → ℤ
gain_number value gain = number_at (common_places value gain) gain

factor_positive : (k : ℕ) → 0 < 10 ^ k
factor_positive k = one-le-pow k 10 (omega arith)

gains_number : (q m : ℕ) (gain : Decimal) → number_at q (times m gain) ≡ number_at q gain *ℤ pos m
gains_number q m gain = ap (λ (z : ℤ). z *ℤ pos (10 ^ (q - gain.p))) (*ℤ_comm (pos m) gain.n) ∙ turned gain.n m (10 ^ (q - gain.p))
  where
    turned : (x : ℤ) (j k : ℕ) → (x *ℤ pos j) *ℤ pos k ≡ (x *ℤ pos k) *ℤ pos j
    turned x j k = scaled_twice x j k ∙ ap (λ (n : ℕ). x *ℤ pos n) (mul_comm j k) ∙ sym (scaled_twice x k j)

-- the value after so many gains, where the value isn't above 0 and the gain is
after_gains : (value gain : Decimal) (m : ℕ) → int_lt (pos 0) value.n ≡ false → int_lt (pos 0) gain.n ≡ true
    → (sum_of value (times m gain)).n ≡ neg_ℤ (pos (unsigned_abs (value_number value gain))) +ℤ pos (m * unsigned_abs (gain_number value gain))
after_gains value gain m h k =
    let q = common_places value gain in
    let b = unsigned_abs (gain_number value gain) in
    ap₂ (λ (x y : ℤ). x +ℤ y)
    (not_positive (value_number value gain) (sign_kept value.n (10 ^ (q - value.p)) (factor_positive (q - value.p)) ∙ h))
    (gains_number q m gain
    ∙ ap (λ (z : ℤ). z *ℤ pos m) (is_positive (gain_number value gain) (sign_kept gain.n (10 ^ (q - gain.p)) (factor_positive (q - gain.p)) ∙ k)).0
    ∙ ap pos (mul_comm b m))

-- the sizes of value and gain, of which so many are to be compared
sizes_compared : (value gain : Decimal) (m : ℕ) → is_at_most (size_of value) (times m (size_of gain))
    ≡ int_le (pos (unsigned_abs (value_number value gain))) (pos (m * unsigned_abs (gain_number value gain)))
sizes_compared value gain m =
    let q = common_places value gain in
    ap₂ int_le
    (ap pos (sym (size_scaled value.n (10 ^ (q - value.p)))))
    (gains_number q m (size_of gain) ∙ ap pos (ap (λ (n : ℕ). n * m) (sym (size_scaled gain.n (10 ^ (q - gain.p)))) ∙ mul_comm (unsigned_abs (gain_number value gain)) m))

size_most : (a c : ℕ) → a ≤ c → int_le (pos a) (pos c) ≡ true
size_most a c h = sym (true_is_le (pos a) (pos c) (omega (arith, ints)))

size_not_most : (a c : ℕ) → c < a → int_le (pos a) (pos c) ≡ false
size_not_most a c h = sym (false_is_le (pos a) (pos c) (omega (arith, ints)))

value_size : (value gain : Decimal) → 0 < unsigned_abs value.n → 0 < unsigned_abs (value_number value gain)
value_size value gain h =
    let k = 10 ^ (common_places value gain - value.p) in
    omega (arith, size_scaled value.n k, mul-le-mul_right k h, factor_positive (common_places value gain - value.p))

gain_size : (value gain : Decimal) → 0 < unsigned_abs gain.n → 0 < unsigned_abs (gain_number value gain)
gain_size value gain h =
    let k = 10 ^ (common_places value gain - gain.p) in
    omega (arith, size_scaled gain.n k, mul-le-mul_right k h, factor_positive (common_places value gain - gain.p))

-- ---- the least number

least_cut : (f : Linear) (value gain : Decimal) (s m : ℕ) → m ≡ min FAR s → 1 ≤ s → closes f value gain s ≡ true
    → ((k : ℕ) → k < s → closes f value gain k ≡ false) → IsLeastClosing f value gain m
least_cut f value gain s m is some closed fewer = record {
  some = omega arith;
  closing = λ near. let same : m ≡ s = omega arith in subst (λ (n : ℕ). closes f value gain n ≡ true) (sym same) closed;
  least = λ k below. fewer k (omega arith);
}

-- a form that is to be 0
least_equal : (strict : Bool) (terms : List Term) (constant value gain : Decimal) (m : ℕ)
    → 0 < unsigned_abs value.n → 0 < unsigned_abs gain.n
    → m ≡ min FAR (steps_over false (unsigned_abs (value_number value gain)) (unsigned_abs (gain_number value gain)))
    → IsLeastClosing (record { strict = strict; equal = true; terms = terms; constant = constant }) value gain m
least_equal strict terms constant value gain m sv sg is =
    let a = unsigned_abs (value_number value gain) in
    let b = unsigned_abs (gain_number value gain) in
    let pa : 0 < a = value_size value gain sv in
    let pb : 0 < b = gain_size value gain sg in
    least_cut (record { strict = strict; equal = true; terms = terms; constant = constant }) value gain ((a - 1) / b + 1) m is (omega arith)
    (sizes_compared value gain ((a - 1) / b + 1) ∙ size_most a (((a - 1) / b + 1) * b) (reached a b pb))
    (λ k below. sizes_compared value gain k ∙ size_not_most a (k * b) (not_reached a b k pa below))

-- one that is to be above 0
least_strict : (terms : List Term) (constant value gain : Decimal) (m : ℕ)
    → int_lt (pos 0) value.n ≡ false → int_lt (pos 0) gain.n ≡ true
    → m ≡ min FAR (steps_over true (unsigned_abs (value_number value gain)) (unsigned_abs (gain_number value gain)))
    → IsLeastClosing (record { strict = true; equal = false; terms = terms; constant = constant }) value gain m
least_strict terms constant value gain m sv sg is =
    let a = unsigned_abs (value_number value gain) in
    let b = unsigned_abs (gain_number value gain) in
    let pb : 0 < b = gain_size value gain (is_positive gain.n sg).1 in
    least_cut (record { strict = true; equal = false; terms = terms; constant = constant }) value gain (a / b + 1) m is (omega arith)
    (zero_less origin (sum_of value (times (a / b + 1) gain)) refl ∙ ap (int_lt (pos 0)) (after_gains value gain (a / b + 1) sv sg) ∙ gains_less a b (a / b + 1) (passed a b pb))
    (λ k below. zero_less origin (sum_of value (times k gain)) refl ∙ ap (int_lt (pos 0)) (after_gains value gain k sv sg) ∙ gains_not_less a b k (not_passed a b k below))

-- one that is to be at least 0
least_reaching : (terms : List Term) (constant value gain : Decimal) (m : ℕ)
    → int_lt value.n (pos 0) ≡ true → int_lt (pos 0) gain.n ≡ true
    → m ≡ min FAR (steps_over false (unsigned_abs (value_number value gain)) (unsigned_abs (gain_number value gain)))
    → IsLeastClosing (record { strict = false; equal = false; terms = terms; constant = constant }) value gain m
least_reaching terms constant value gain m sv sg is =
    let a = unsigned_abs (value_number value gain) in
    let b = unsigned_abs (gain_number value gain) in
    let pa : 0 < a = value_size value gain (some_size value.n sv) in
    let pb : 0 < b = gain_size value gain (is_positive gain.n sg).1 in
    let below_zero : int_lt (pos 0) value.n ≡ false = negative_not_positive value.n sv in
    least_cut (record { strict = false; equal = false; terms = terms; constant = constant }) value gain ((a - 1) / b + 1) m is (omega arith)
    (zero_at_most origin (sum_of value (times ((a - 1) / b + 1) gain)) refl ∙ ap (int_le (pos 0)) (after_gains value gain ((a - 1) / b + 1) below_zero sg) ∙ gains_most a b ((a - 1) / b + 1) (reached a b pb))
    (λ k below. zero_at_most origin (sum_of value (times k gain)) refl ∙ ap (int_le (pos 0)) (after_gains value gain k below_zero sg) ∙ gains_not_most a b k (not_reached a b k pa below))
  where
    negative_not_positive : (n : ℤ) → int_lt n (pos 0) ≡ true → int_lt (pos 0) n ≡ false
    negative_not_positive n h = sym (false_is_lt (pos 0) n (omega (arith, ints)))

-- ---- all forms

some_one : {C : Type 0} (a b : C) → Some a ≡ Some b → a ≡ b
some_one a b h = cc

both_sizes : (value gain : Decimal) → operands_fit value gain ≡ true → sizes_of value gain ≡ Some (unsigned_abs (value_number value gain), unsigned_abs (gain_number value gain))
unfolding sizes_of
both_sizes value gain e = rw e refl

-- a gain that helps, and how often
given_steps : (f : Linear) (value gain : Decimal) (m : ℕ) → operands_fit value gain ≡ true → repetitions f value gain ≡ Some m
    → (helps f value gain ≡ true) × (m ≡ min FAR (steps_over (is_passing f) (unsigned_abs (value_number value gain)) (unsigned_abs (gain_number value gain))))
given_steps f value gain m fits h =
    elim (cases_Bool (helps f value gain)) [
      | inl e ↦ (e, sym (some_one (steps_of f (sizes_of value gain)) m (rw e at h)) ∙ ap (steps_of f) (both_sizes value gain fits))
      | inr e ↦ absurd (none_some m (rw e at h))
    ]
  where
    none_some : (m : ℕ) → None ≡ Some m → ⊥
    none_some m e = cc

sized : (n : ℤ) → (n ≡ pos 0 → ⊥) → 0 < unsigned_abs n
sized (pos zero) h = absurd (h refl)
sized (pos (suc n)) h = omega arith
sized (negsuc n) h = omega arith

no_value : (g : ℤ) → int_lt (pos 0) (pos 0) && int_lt (pos 0) g || int_lt (pos 0) (pos 0) && int_lt g (pos 0) ≡ true → ⊥
no_value g h = cc

no_gain : (x y : Bool) → x && int_lt (pos 0) (pos 0) || y && int_lt (pos 0) (pos 0) ≡ true → ⊥
no_gain true true h = cc
no_gain true false h = cc
no_gain false true h = cc
no_gain false false h = cc

-- neither is 0
value_moves : (v g : ℤ) → int_lt v (pos 0) && int_lt (pos 0) g || int_lt (pos 0) v && int_lt g (pos 0) ≡ true → (0 < unsigned_abs v) × (0 < unsigned_abs g)
value_moves v g h = (
  sized v (λ e. no_value g (subst (λ (z : ℤ). int_lt z (pos 0) && int_lt (pos 0) g || int_lt (pos 0) z && int_lt g (pos 0) ≡ true) e h)),
  sized g (λ e. no_gain (int_lt v (pos 0)) (int_lt (pos 0) v) (subst (λ (z : ℤ). int_lt v (pos 0) && int_lt (pos 0) z || int_lt (pos 0) v && int_lt z (pos 0) ≡ true) e h)),
)

pub least_closing : (f : Linear) (value gain : Decimal) (m : ℕ) → is_met f value ≡ false → operands_fit value gain ≡ true
    → repetitions f value gain ≡ Some m → IsLeastClosing f value gain m
least_closing f value gain m unmet fits h =
    let given = given_steps f value gain m fits h in
    by_flags f.equal f.strict f.terms f.constant unmet given.0 given.1
  where
    below : (n : ℤ) → int_le (pos 0) n ≡ false → int_lt n (pos 0) ≡ true
    below n e = sym (true_is_lt n (pos 0) (omega (arith, ints)))

    by_flags : (equal strict : Bool) (terms : List Term) (constant : Decimal)
        → is_met (record { strict = strict; equal = equal; terms = terms; constant = constant }) value ≡ false
        → helps (record { strict = strict; equal = equal; terms = terms; constant = constant }) value gain ≡ true
        → m ≡ min FAR (steps_over (is_passing (record { strict = strict; equal = equal; terms = terms; constant = constant })) (unsigned_abs (value_number value gain)) (unsigned_abs (gain_number value gain)))
        → IsLeastClosing (record { strict = strict; equal = equal; terms = terms; constant = constant }) value gain m
    by_flags true true terms constant out help is = let sizes = value_moves value.n gain.n help in least_equal true terms constant value gain m sizes.0 sizes.1 is
    by_flags true false terms constant out help is = let sizes = value_moves value.n gain.n help in least_equal false terms constant value gain m sizes.0 sizes.1 is
    by_flags false true terms constant out help is = least_strict terms constant value gain m (sym (zero_less origin value refl) ∙ out) help is
    by_flags false false terms constant out help is = least_reaching terms constant value gain m (below value.n (sym (zero_at_most origin value refl) ∙ out)) help is

-- a gain that helps isn't 0
pub helping_gain : (f : Linear) (value gain : Decimal) (gap size : ℕ) → helps f value gain ≡ true → Some (gap, size) ≡ sizes_of value gain → 0 < size
unfolding sizes_of
helping_gain f value gain gap size help is =
    elim (cases_Bool (operands_fit value gain)) [
      | inl fits ↦ subst (λ (n : ℕ). 0 < n) (sym (ap (λ (s : ℕ × ℕ). s.1) (some_one (gap, size) (unsigned_abs (value_number value gain), unsigned_abs (gain_number value gain)) (rw fits at is)))) (gain_size value gain (moves f.equal help))
      | inr out ↦ absurd (some_none (gap, size) (rw out at is))
    ]
  where
    some_none : (s : ℕ × ℕ) → Some s ≡ None → ⊥
    some_none s e = cc

    moves : (equal : Bool) → (if equal then int_lt value.n (pos 0) && int_lt (pos 0) gain.n || int_lt (pos 0) value.n && int_lt gain.n (pos 0) else int_lt (pos 0) gain.n) ≡ true → 0 < unsigned_abs gain.n
    moves true h = (value_moves value.n gain.n h).1
    moves false h = (is_positive gain.n h).1
