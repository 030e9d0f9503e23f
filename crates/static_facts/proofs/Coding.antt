-- Codes digit by digit, and that no two lists of objects have one code.
use Rattle.std.proofs.Common.{◌≡◌, ◌<◌, ◌≤◌, ◌+◌, ◌*◌, ℕ, zero, suc, true, List, [], ◌∷◌, length, drop, refl, sym, ap, ◌∙◌, arith, add-one}
use Rattle.std.specs.Prelude.{nat_lt, ◌^◌}
use Rattle.std.specs.List.{list_all}
use Rattle.std.proofs.lemmas.Bool.{and_parts}
use Rattle.std.proofs.lemmas.Bool.Decides.{Decides-ltb}
use Rattle.std.proofs.Math.Nat.{pow-suc, pow-le-pow_right}
use Rattle.static_facts.specs.Codes.{with_digits}
use Rattle.static_facts.specs.internal.Keys.{digit_at}

-- ---- one more digit

first_digit : (k code : ℕ) (os : List ℕ) → with_digits (suc k) code os ≡ with_digits k (code * 4096 + digit_at os 0) (drop 1 os)
first_digit k code [] = ap (λ (c : ℕ). with_digits k c []) (omega arith)
first_digit k code (o ∷ os) = refl

digit_behind : (k code place : ℕ) (os : List ℕ) → with_digits (suc k) code (drop place os) ≡ with_digits k (code * 4096 + digit_at os place) (drop (suc place) os)
digit_behind k code zero os = first_digit k code os
digit_behind k code (suc place) [] = ap (λ (c : ℕ). with_digits k c []) (omega arith)
digit_behind k code (suc place) (o ∷ os) = digit_behind k code place os

pub next_digit : (k code place : ℕ) (os : List ℕ) → with_digits (suc k) code (drop place os) ≡ with_digits k (code * 4096 + digit_at os place) (drop (place + 1) os)
next_digit k code place os = digit_behind k code place os ∙ ap (λ (i : ℕ). with_digits k (code * 4096 + digit_at os place) (drop i os)) (sym (add-one place))

small_first : (o : ℕ) (os : List ℕ) → list_all (λ o. nat_lt o 4095) (o ∷ os) ≡ true → (o < 4095) × (list_all (λ o. nat_lt o 4095) os ≡ true)
small_first o os h =
    let parts = and_parts (nat_lt o 4095) (list_all (λ o. nat_lt o 4095) os) h in
    ((Decides-ltb o 4095).0 parts.0, parts.1)

pub small_digit : (os : List ℕ) (place : ℕ) → list_all (λ o. nat_lt o 4095) os ≡ true → digit_at os place < 4096
small_digit [] place h = omega arith
small_digit (o ∷ os) zero h = let small = small_first o os h in omega (arith, small.0)
small_digit (o ∷ os) (suc place) h = small_digit os place (small_first o os h).1

-- ---- bounds

pub code_grows : (code digit place : ℕ) → code < 4294967296 * 4096 ^ place → digit < 4096 → code * 4096 + digit < 4294967296 * 4096 ^ (place + 1)
code_grows code digit place h d =
    let step : 4096 ^ (place + 1) ≡ 4096 ^ place * 4096 = ap (λ (n : ℕ). 4096 ^ n) (add-one place) ∙ pow-suc 4096 place in
    omega (arith, step)

pub code_fits : (code digit place : ℕ) → place < 8 → code < 4294967296 * 4096 ^ place → digit < 4096 → code * 4096 + digit < 2 ^ 128
code_fits code digit place within h d =
    let grown = code_grows code digit place h d in
    let below : place + 1 ≤ 8 = omega (arith, within) in
    let positive : 0 < 4096 = omega arith in
    let most : 4096 ^ (place + 1) ≤ 4096 ^ 8 = pow-le-pow_right positive below in
    omega (arith, grown, most)

-- ---- apart

-- a number with a digit behind it has one number and one digit
last_digit : (c d x y : ℕ) → x < 4096 → y < 4096 → c * 4096 + x ≡ d * 4096 + y → (c ≡ d) × (x ≡ y)
last_digit c d x y l m e = (omega arith, omega arith)

pub codes_apart : (k c d : ℕ) (xs ys : List ℕ) → length xs ≤ k → length ys ≤ k → list_all (λ o. nat_lt o 4095) xs ≡ true → list_all (λ o. nat_lt o 4095) ys ≡ true
    → with_digits k c xs ≡ with_digits k d ys → (c ≡ d) × (xs ≡ ys)
codes_apart zero c d [] [] l m s t e = (e, refl)
codes_apart zero c d [] (y ∷ ys) l m s t e = absurd (omega arith)
codes_apart zero c d (x ∷ xs) ys l m s t e = absurd (omega arith)
codes_apart (suc k) c d [] [] l m s t e =
    let rest = codes_apart k (c * 4096) (d * 4096) [] [] (omega arith) (omega arith) refl refl e in
    (omega (arith, rest.0), refl)
codes_apart (suc k) c d [] (y ∷ ys) l m s t e =
    let small = small_first y ys t in
    let rest = codes_apart k (c * 4096) (d * 4096 + (y + 1)) [] ys (omega arith) (omega arith) refl small.1 e in
    let parts = last_digit c d 0 (y + 1) (omega arith) (omega (arith, small.0)) (omega (arith, rest.0)) in
    absurd (omega (arith, parts.1))
codes_apart (suc k) c d (x ∷ xs) [] l m s t e =
    let small = small_first x xs s in
    let rest = codes_apart k (c * 4096 + (x + 1)) (d * 4096) xs [] (omega arith) (omega arith) small.1 refl e in
    let parts = last_digit c d (x + 1) 0 (omega (arith, small.0)) (omega arith) (omega (arith, rest.0)) in
    absurd (omega (arith, parts.1))
codes_apart (suc k) c d (x ∷ xs) (y ∷ ys) l m s t e =
    let left = small_first x xs s in
    let right = small_first y ys t in
    let rest = codes_apart k (c * 4096 + (x + 1)) (d * 4096 + (y + 1)) xs ys (omega arith) (omega arith) left.1 right.1 e in
    let parts = last_digit c d (x + 1) (y + 1) (omega (arith, left.0)) (omega (arith, right.0)) rest.0 in
    let same : x ≡ y = omega (arith, parts.1) in
    (parts.0, ap (λ (o : ℕ). o ∷ xs) same ∙ ap (λ (zs : List ℕ). y ∷ zs) rest.1)
