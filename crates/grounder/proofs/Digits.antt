-- The digits of a code read back from the end.
use Rattle.std.proofs.Common.{◌≡◌, ◌<◌, ◌≤◌, ◌+◌, ◌-◌, ◌*◌, ◌/◌, ◌%◌, ◌^◌, ◌++◌, ℕ, zero, suc, true, List, [], ◌∷◌, length, take, refl, sym, ap, ap₂, subst, ◌∙◌, arith, leb-true}
use Rattle.std.specs.Prelude.{nat_le, nat_lt}
use Rattle.std.specs.List.{list_all}
use Rattle.std.proofs.Math.Nat.{div-lt_iff_lt-mul, mul_assoc, pow-suc}
use Rattle.std.proofs.lemmas.List.{append-nil}
use Rattle.pddl_meaning.proofs.Bounds.{both_true}
use Rattle.static_facts.specs.Codes.{code_of, is_codable, with_digits}
use Rattle.static_facts.specs.internal.Keys.{digit_at}
use Rattle.ground_meaning.proofs.DecodedAtoms.{last_digit}
use Rattle.grounder.specs.internal.Decoded.{before_digits, digit_object, digit_objects, objects_in, symbol_of}

-- ---- one digit

pub fits_whole : (code : ℕ) → code < 2 ^ 128 → code < 2 ^ 32 * 4096 ^ 8
fits_whole code h = h

-- what is left after the last digit has one digit less
pub fits_next : (digits code : ℕ) → 0 < digits → code < 2 ^ 32 * 4096 ^ digits → code / 4096 < 2 ^ 32 * 4096 ^ (digits - 1)
fits_next zero code some h = absurd (omega (arith, some))
fits_next (suc digits) code some h =
    let one : digits ≡ suc digits - 1 = omega arith in
    let power : 2 ^ 32 * 4096 ^ suc digits ≡ 2 ^ 32 * 4096 ^ digits * 4096 =
    ap (λ (n : ℕ). 2 ^ 32 * n) (pow-suc 4096 digits) ∙ sym (mul_assoc (2 ^ 32) (4096 ^ digits) 4096) in
    let whole : code < 2 ^ 32 * 4096 ^ digits * 4096 = subst (λ (n : ℕ). code < n) power h in
    let base : 0 < 4096 = omega arith in
    subst (λ (n : ℕ). code / 4096 < 2 ^ 32 * 4096 ^ n) one ((div-lt_iff_lt-mul {k = 4096} {x = code} {y = 2 ^ 32 * 4096 ^ digits} base).1 whole)

pub symbol_next : (digits code : ℕ) → 0 < digits → before_digits (digits - 1) (code / 4096) ≡ before_digits digits code
symbol_next zero code some = absurd (omega (arith, some))
symbol_next (suc digits) code some = let one : suc digits - 1 ≡ digits = omega arith in ap (λ (n : ℕ). before_digits n (code / 4096)) one

objects_next : (digits code : ℕ) → 0 < digits → digit_objects digits code ≡ digit_objects (digits - 1) (code / 4096) ++ digit_object (code % 4096)
objects_next zero code some = absurd (omega (arith, some))
objects_next (suc digits) code some =
    let one : digits ≡ suc digits - 1 = omega arith in ap (λ (n : ℕ). digit_objects n (code / 4096) ++ digit_object (code % 4096)) one

pub no_object : (digits code : ℕ) → 0 < digits → code % 4096 ≡ 0 → digit_objects (digits - 1) (code / 4096) ≡ digit_objects digits code
no_object digits code some none =
    sym (objects_next digits code some ∙ ap (λ (d : ℕ). digit_objects (digits - 1) (code / 4096) ++ digit_object d) none ∙ append-nil (digit_objects (digits - 1) (code / 4096)))

object_of_digit : (digit : ℕ) → 0 < digit → digit_object digit ≡ (digit - 1) ∷ []
object_of_digit zero some = absurd (omega (arith, some))
object_of_digit (suc o) some = let one : o ≡ suc o - 1 = omega arith in ap (λ (n : ℕ). n ∷ []) one

pub one_object : (digits code : ℕ) → 0 < digits → 0 < code % 4096
    → digit_objects (digits - 1) (code / 4096) ++ (code % 4096 - 1) ∷ [] ≡ digit_objects digits code
one_object digits code some there =
    sym (objects_next digits code some ∙ ap (λ (os : List ℕ). digit_objects (digits - 1) (code / 4096) ++ os) (object_of_digit (code % 4096) there))

-- ---- all digits

take_digit : (k : ℕ) (os : List ℕ) → take k os ++ digit_object (digit_at os k) ≡ take (suc k) os
take_digit zero [] = refl
take_digit zero (o ∷ os) = let one : o + 1 ≡ suc o = omega arith in ap digit_object one ∙ ap (λ (l : List ℕ). o ∷ l) (nothing os)
  where
    nothing : (l : List ℕ) → [] ≡ take 0 l
    nothing [] = refl
    nothing (x ∷ l) = refl
take_digit (suc k) [] = refl
take_digit (suc k) (o ∷ os) = ap (λ (l : List ℕ). o ∷ l) (take_digit k os)

read_digits : (k n : ℕ) (os : List ℕ) → list_all (λ o. nat_lt o 4095) os ≡ true
    → (before_digits k (with_digits k n os) ≡ n) × (digit_objects k (with_digits k n os) ≡ take k os)
read_digits zero n [] small = (refl, refl)
read_digits zero n (o ∷ os) small = (refl, refl)
read_digits (suc k) n os small =
    let last = last_digit k n os small in
    let rest = read_digits k n os small in (
      ap (before_digits k) last.0 ∙ rest.0,
      ap₂ (λ (c d : ℕ). digit_objects k c ++ digit_object d) last.0 last.1 ∙ ap (λ (l : List ℕ). l ++ digit_object (digit_at os k)) rest.1 ∙ take_digit k os,
    )

all_of : (os : List ℕ) (k : ℕ) → length os ≤ k → take k os ≡ os
all_of [] zero h = refl
all_of [] (suc k) h = refl
all_of (o ∷ os) zero h = absurd (omega (arith, h))
all_of (o ∷ os) (suc k) h = ap (λ (l : List ℕ). o ∷ l) (all_of os k (omega (arith, h)))

-- a code gives back what it is made of
pub read_code : (n : ℕ) (os : List ℕ) → is_codable os ≡ true → (symbol_of (code_of n os) ≡ n) × (objects_in (code_of n os) ≡ os)
unfolding code_of symbol_of objects_in
read_code n os codable =
    let both = both_true (nat_le (length os) 8) (list_all (λ o. nat_lt o 4095) os) codable in
    let read = read_digits 8 n os both.1 in (read.0, read.1 ∙ all_of os 8 (leb-true (length os) 8 both.0))
