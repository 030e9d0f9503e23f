-- A bound moved by twice the half of a constant.
use Rattle.std.proofs.Common.{◌≡◌, ℕ, ◌+◌, ◌-◌, ◌*◌, ◌^◌, ◌<◌, ◌≤◌, ℤ, pos, negsuc, ◌*ℤ◌, ◌+ℤ◌, Option, Some, None, MatchOption, unsigned_abs, sym, refl, ap, ap₂, ◌∙◌, subst, arith}
use Rattle.std.proofs.lemmas.Int.{ints, unsigned_abs-mul}
use Rattle.std.proofs.lemmas.Nat.{pow-add}
use Rattle.std.proofs.Math.Nat.{le-mul_of_pos_right, one-le-pow}
use borrow.Author.Differences.{up, down, same_in}
use Rattle.num_ends.specs.Decimal.{Decimal, InRange, IsDec, common_places, number_at, product_of, sum_of}
use Rattle.num_ends.specs.Arithmetic.{SumFits}
use Rattle.num_ends.proofs.DecimalOrder.{scaled_twice}
use Rattle.num_ends.proofs.Operations.{scaled_sum}
use Rattle.box_model.specs.Demands.{half}
use Rattle.box_model.proofs.Numbers.{at_places, number_same}

-- ---- sizes

size_up : (n : ℤ) (b : ℕ) → unsigned_abs n < b → up n < b + down n
size_up (pos a) b h = omega arith
size_up (negsuc a) b h = omega arith

size_down : (n : ℤ) (b : ℕ) → unsigned_abs n < b → down n < b + up n
size_down (pos a) b h = omega arith
size_down (negsuc a) b h = omega arith

size_from : (n : ℤ) (b : ℕ) → up n < b + down n → down n < b + up n → unsigned_abs n < b
size_from (pos a) b h k = omega arith
size_from (negsuc a) b h k = omega arith

half_in : (a h : ℤ) (b : ℕ) → unsigned_abs a < b → unsigned_abs (a +ℤ (h +ℤ h)) < b → unsigned_abs h < b
half_in a h b k l =
    size_from h b (omega (arith, ints, size_up a b k, size_down a b k, size_up (a +ℤ (h +ℤ h)) b l, size_down (a +ℤ (h +ℤ h)) b l))
    (omega (arith, ints, size_up a b k, size_down a b k, size_up (a +ℤ (h +ℤ h)) b l, size_down (a +ℤ (h +ℤ h)) b l))

middle_in : (a h : ℤ) (b : ℕ) → unsigned_abs a < b → unsigned_abs (a +ℤ (h +ℤ h)) < b → unsigned_abs (a +ℤ h) < b
middle_in a h b k l =
    size_from (a +ℤ h) b (omega (arith, ints, size_up a b k, size_down a b k, size_up (a +ℤ (h +ℤ h)) b l, size_down (a +ℤ (h +ℤ h)) b l))
    (omega (arith, ints, size_up a b k, size_down a b k, size_up (a +ℤ (h +ℤ h)) b l, size_down (a +ℤ (h +ℤ h)) b l))

-- ---- sums

pub sum_more : (a c : Decimal) → c.p ≤ a.p → sum_of a c ≡ at_places a.p (a.n +ℤ number_at a.p c)
sum_more a c h =
    let most : common_places a c ≡ a.p = omega arith in
    ap (λ (m : ℕ). at_places m (number_at m a +ℤ number_at m c)) most ∙ ap (λ (n : ℤ). at_places a.p (n +ℤ number_at a.p c)) (number_same a.p a refl)

sum_fits : (a c : Decimal) → c.p ≤ a.p → InRange a.n → InRange (number_at a.p c) → InRange (a.n +ℤ number_at a.p c) → SumFits a c
sum_fits a c h k l m =
    let most : common_places a c ≡ a.p = omega arith in
    record {
      operands = record {
        first = subst (λ (q : ℕ). InRange (number_at q a)) (sym most) (subst InRange (sym (number_same a.p a refl)) k);
        second = subst (λ (q : ℕ). InRange (number_at q c)) (sym most) l;
      };
      result = subst (λ (d : Decimal). InRange d.n) (sym (sum_more a c h)) m;
    }

sum_in : (a c : Decimal) → c.p ≤ a.p → SumFits a c → InRange (a.n +ℤ number_at a.p c)
sum_in a c h fits = subst (λ (d : Decimal). InRange d.n) (sum_more a c h) fits.result

-- ---- the moved bound

abbrev pub IsMoved : Decimal → Decimal → Option Decimal → Type 0
IsMoved bound c r =
    MatchOption r (InRange (bound.n +ℤ number_at bound.p c) → ⊥) (λ d. (d ≡ record { n = bound.n +ℤ number_at bound.p c; p = bound.p }) × InRange (bound.n +ℤ number_at bound.p c))

-- at equal places
pub moved_here : (bound c : Decimal) (r : Option Decimal) → c.p ≡ bound.p → InRange bound.n → InRange c.n → MatchOption r (SumFits bound c → ⊥) (λ d. (d ≡ sum_of bound c) × SumFits bound c) → IsMoved bound c r
moved_here bound c None e h k outside = λ (l : InRange (bound.n +ℤ number_at bound.p c)). outside (sum_fits bound c (omega arith) h (subst InRange (sym (number_same bound.p c e)) k) l)
moved_here bound c (Some d) e h k is = (is.0 ∙ sum_more bound c (omega arith), sum_in bound c (omega arith) is.1)

module _ (bound c : Decimal) (less : c.p < bound.p) (few : bound.p ≤ 18) (inside : InRange bound.n) where
  abbrev h : Decimal
  h = product_of c half

  abbrev k : ℕ
  k = bound.p - h.p

  -- twice the half is the whole
  twice : number_at bound.p h +ℤ number_at bound.p h ≡ number_at bound.p c
  twice =
      let places : bound.p - c.p ≡ 1 + k = omega arith in
      let ten : (c.n *ℤ pos 5) +ℤ (c.n *ℤ pos 5) ≡ c.n *ℤ pos 10 = same_in _ _ (omega (arith, ints)) in
      sym (scaled_sum (c.n *ℤ pos 5) (c.n *ℤ pos 5) (10 ^ k))
      ∙ ap (λ (m : ℤ). m *ℤ pos (10 ^ k)) ten
      ∙ scaled_twice c.n 10 (10 ^ k)
      ∙ ap (λ (m : ℕ). c.n *ℤ pos m) (sym (pow-add 10 1 k))
      ∙ ap (λ (m : ℕ). c.n *ℤ pos (10 ^ m)) (sym places)

  whole : InRange (bound.n +ℤ number_at bound.p c) → InRange (bound.n +ℤ (number_at bound.p h +ℤ number_at bound.p h))
  whole l = subst (λ (m : ℤ). InRange (bound.n +ℤ m)) (sym twice) l

  half_at : InRange (bound.n +ℤ number_at bound.p c) → InRange (number_at bound.p h)
  half_at l = half_in bound.n (number_at bound.p h) (2 ^ 127) inside (whole l)

  pub no_half : (IsDec h → ⊥) → InRange (bound.n +ℤ number_at bound.p c) → ⊥
  no_half outside l =
      let size : unsigned_abs (number_at bound.p h) ≡ unsigned_abs h.n * 10 ^ k = unsigned_abs-mul h.n (pos (10 ^ k)) in
      let one : 1 ≤ 10 ^ k = one-le-pow k 10 (omega arith) in
      let most : unsigned_abs h.n ≤ unsigned_abs h.n * 10 ^ k = le-mul_of_pos_right (unsigned_abs h.n) one in
      outside (record { in_range = omega (arith, size, most, half_at l); few_places = omega arith })

  halfway : Decimal
  halfway = sum_of bound h

  pub no_halfway : (SumFits bound h → ⊥) → InRange (bound.n +ℤ number_at bound.p c) → ⊥
  no_halfway outside l =
      outside (sum_fits bound h (omega arith) inside (half_at l) (middle_in bound.n (number_at bound.p h) (2 ^ 127) inside (whole l)))

  pub moved_twice : (d : Decimal) (r : Option Decimal) → d ≡ sum_of bound h → SumFits bound h → MatchOption r (SumFits d h → ⊥) (λ e. (e ≡ sum_of d h) × SumFits d h) → IsMoved bound c r
  moved_twice d r is fits then' =
      let at : d ≡ at_places bound.p (bound.n +ℤ number_at bound.p h) = is ∙ sum_more bound h (omega arith) in
      finish r (subst (λ (x : Decimal). MatchOption r (SumFits x h → ⊥) (λ e. (e ≡ sum_of x h) × SumFits x h)) at then')
    where
      grouped : (bound.n +ℤ number_at bound.p h) +ℤ number_at bound.p h ≡ bound.n +ℤ number_at bound.p c
      grouped = same_in _ _ (omega (arith, ints)) ∙ ap (λ (x : ℤ). bound.n +ℤ x) twice

      finish : (r : Option Decimal) → MatchOption r (SumFits (at_places bound.p (bound.n +ℤ number_at bound.p h)) h → ⊥) (λ e. (e ≡ sum_of (at_places bound.p (bound.n +ℤ number_at bound.p h)) h) × SumFits (at_places bound.p (bound.n +ℤ number_at bound.p h)) h) → IsMoved bound c r
      finish None outside = λ (l : InRange (bound.n +ℤ number_at bound.p c)).
          outside (sum_fits (at_places bound.p (bound.n +ℤ number_at bound.p h)) h (omega arith) (sum_in bound h (omega arith) fits) (half_at l) (subst InRange (sym grouped) l))
      finish (Some e) is' =
          (is'.0 ∙ sum_more (at_places bound.p (bound.n +ℤ number_at bound.p h)) h (omega arith) ∙ ap (at_places bound.p) grouped, subst InRange grouped (sum_in (at_places bound.p (bound.n +ℤ number_at bound.p h)) h (omega arith) is'.1))
