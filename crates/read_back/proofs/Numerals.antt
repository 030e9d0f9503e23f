-- The text of a decimal is a numeral of it.
use Rattle.std.proofs.Common.{◌≡◌, ℕ, zero, suc, ◌+◌, ◌-◌, ◌*◌, ◌/◌, ◌%◌, ◌^◌, ◌<◌, ◌≤◌, List, [], ◌∷◌, ◌++◌, length, replicate, All, codes, decimal, Bool, true, false, cond, int_lt, ℤ, pos, negsuc, neg_ℤ, unsigned_abs, refl, sym, ap, ap₂, ◌∙◌, arith, length-append, mul_comm}
use Rattle.std.specs.Char.{IsAsciiDigit, digit_value}
use Rattle.std.specs.Str.Parse.{AllDigits, digits_value, digits_value_after}
use Rattle.std.proofs.lemmas.Bool.Decides.{nat_tests}
use Rattle.std.proofs.lemmas.Fmt.{decimal_is_IsNumeral_wide, length-decimal-le_wide}
use Rattle.std.proofs.lemmas.List.{length-replicate}
use Rattle.std.proofs.lemmas.List.Elements.{All-nil, All-cons, All-append}
use Rattle.std.proofs.lemmas.Str.Parse.{tells_digits}
use Rattle.std.proofs.lemmas.Nat.{pow-add}
use Rattle.std.proofs.Math.Nat.{div-add-mod, div-le_self, mod-lt, one-le-pow}
use Rattle.num_ends.specs.Decimal.{Decimal, InRange}
use Rattle.num_ends.specs.Texts.{IsNumeral, places_text, trimmed_text}
use Rattle.num_ends.proofs.Numerals.{value_append}

-- ---- values

shifted : (n d l v : ℕ) → (n * 10 + d) * l + v ≡ n * (10 * l) + (d * l + v)
shifted n d l v = grind arith

nothing_first : (x : ℕ) → 0 * 10 + x ≡ x
nothing_first x = omega arith

pub value_behind : (n : ℕ) (ds : List ℕ) → digits_value_after 10 n ds ≡ n * 10 ^ length ds + digits_value 10 ds
value_behind n [] = omega arith
value_behind n (c ∷ cs) =
    at (digit_value c) (value_behind (n * 10 + digit_value c) cs) (value_behind (digit_value c) cs)
    ∙ ap (λ (w : ℕ). n * 10 ^ suc (length cs) + digits_value_after 10 w cs) (sym (nothing_first (digit_value c)))
  where
    at : (d : ℕ) → digits_value_after 10 (n * 10 + d) cs ≡ (n * 10 + d) * 10 ^ length cs + digits_value 10 cs
        → digits_value_after 10 d cs ≡ d * 10 ^ length cs + digits_value 10 cs
        → digits_value_after 10 (n * 10 + d) cs ≡ n * 10 ^ suc (length cs) + digits_value_after 10 d cs
    at d first second =
        let one : 1 + length cs ≡ suc (length cs) = omega arith in
        first ∙ shifted n d (10 ^ length cs) (digits_value 10 cs)
        ∙ ap₂ (λ (t w : ℕ). n * t + w) (sym (pow-add 10 1 (length cs)) ∙ ap (λ (k : ℕ). 10 ^ k) one) (sym second)

zeros_first : (k : ℕ) (ds : List ℕ) → digits_value 10 (replicate k 48 ++ ds) ≡ digits_value 10 ds
zeros_first zero ds = refl
zeros_first (suc k) ds = zeros_first k ds

digits_are : (ds : List ℕ) → AllDigits 10 ds → All IsAsciiDigit ds
digits_are [] h = All-nil IsAsciiDigit
digits_are (c ∷ cs) h =
    let parts = tells_digits.parts c cs h in
    All-cons IsAsciiDigit c cs parts.0 (digits_are cs parts.1)

zeros_are : (k : ℕ) → All IsAsciiDigit (replicate k 48)
zeros_are zero = All-nil IsAsciiDigit
zeros_are (suc k) = All-cons IsAsciiDigit 48 (replicate k 48) (omega arith, omega arith) (zeros_are k)

-- ---- the text

sign_back : (n : ℤ) → n ≡ cond (int_lt n (pos 0)) (neg_ℤ (pos (unsigned_abs n))) (pos (unsigned_abs n))
sign_back (pos a) = grind (arith, nat_tests)
sign_back (negsuc a) = refl

smaller : (n k : ℕ) → n < 2 ^ 127 → n / 10 ^ k < 10 ^ 64
smaller n k h = omega (arith, div-le_self n (10 ^ k))

module _ (n : ℤ) (fits : InRange n) where
  abbrev whole : ℕ → List ℕ
  whole p = decimal (unsigned_abs n / 10 ^ p)

  numeral_with : (p : ℕ) (fraction : List ℕ) (pointed : Bool) → places_text p (unsigned_abs n) ≡ cond pointed (codes "." ++ fraction) []
      → All IsAsciiDigit fraction → (pointed ≡ false → fraction ≡ []) → p ≡ length fraction → digits_value_after 10 (unsigned_abs n / 10 ^ p) fraction ≡ unsigned_abs n
      → IsNumeral (trimmed_text (record { n = n; p = p })) (record { n = n; p = p })
  numeral_with p fraction pointed is digits no_point count value =
      let own = decimal_is_IsNumeral_wide (unsigned_abs n / 10 ^ p) (smaller (unsigned_abs n) p fits) in
      let all : digits_value 10 (whole p ++ fraction) ≡ unsigned_abs n =
      value_append 0 (whole p) fraction ∙ ap (λ (v : ℕ). digits_value_after 10 v fraction) own.1 ∙ value in
      record {
        negative = int_lt n (pos 0);
        whole = whole p;
        fraction = fraction;
        pointed = pointed;
        spelled = ap (λ (t : List ℕ). cond (int_lt n (pos 0)) (codes "-") [] ++ whole p ++ t) is;
        all_digits = All-append IsAsciiDigit (whole p) fraction (digits_are (whole p) own.0.1) digits;
        some_digit = λ e. absurd (omega (arith, e, length-append (whole p) fraction, own.0.0));
        no_point = no_point;
        number = sign_back n ∙ ap (λ (v : ℕ). cond (int_lt n (pos 0)) (neg_ℤ (pos v)) (pos v)) (sym all);
        places = count;
      }

  pub numeral_at : (p : ℕ) → IsNumeral (trimmed_text (record { n = n; p = p })) (record { n = n; p = p })
  numeral_at zero = numeral_with zero [] false refl (All-nil IsAsciiDigit) (λ e. refl) refl (omega arith)
  numeral_at (suc p) =
      let t = 10 ^ suc p in
      let m = unsigned_abs n % t in
      let few : m < t = mod-lt (unsigned_abs n) {m = t} (one-le-pow (suc p) 10 (omega arith)) in
      let own = decimal_is_IsNumeral_wide m (omega (arith, div-add-mod (unsigned_abs n) t)) in
      let short : length (decimal m) ≤ suc p = length-decimal-le_wide (suc p) m (omega arith) few (omega (arith, div-add-mod (unsigned_abs n) t)) in
      let zeros : List ℕ = replicate (suc p - length (decimal m)) 48 in
      let count : suc p ≡ length (zeros ++ decimal m) =
      omega (arith, length-append zeros (decimal m), length-replicate {A = ℕ} (suc p - length (decimal m)) 48) in
      numeral_with (suc p) (zeros ++ decimal m) true refl
      (All-append IsAsciiDigit zeros (decimal m) (zeros_are (suc p - length (decimal m))) (digits_are (decimal m) own.0.1))
      (λ e. cc) count
      (value_behind (unsigned_abs n / t) (zeros ++ decimal m)
      ∙ ap₂ (λ (l v : ℕ). unsigned_abs n / t * 10 ^ l + v) (sym count) (zeros_first (suc p - length (decimal m)) (decimal m) ∙ own.1)
      ∙ omega (arith, div-add-mod (unsigned_abs n) t, mul_comm t (unsigned_abs n / t)))

-- the text of a decimal in range, as its number and places stand, is a numeral of it
pub numeral_of : (d : Decimal) → InRange d.n → IsNumeral (trimmed_text d) d
numeral_of d fits = numeral_at d.n fits d.p
