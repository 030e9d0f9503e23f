-- A word is read as a number exactly where it is a numeral, and a numeral has no letters to fold.
use Rattle.std.proofs.Common.{◌≡◌, ℕ, ℤ, zero, suc, ◌+◌, ◌-◌, ◌<◌, ◌≤◌, ◌^◌, Bool, true, false, cond, ◌&&◌, List, [], ◌∷◌, ◌++◌, map, length, take, drop, All, Some, None, Ok, Err, codes, pos, neg_ℤ, unsigned_abs, refl, sym, ap, ap₂, subst, ◌∙◌, arith, length-drop, append_assoc}
use Rattle.std.specs.Prelude.{bytes_eq, nat_le, nat_lt, not, ◌==◌, if◌then◌else◌}
use Rattle.std.specs.Char.{IsAsciiDigit}
use Rattle.std.specs.List.{list_all, prefix_len}
use Rattle.std.specs.Str.Parse.{digits_value}
use Rattle.std.proofs.lemmas.Bool.Decides.{nat_tests, same_from_decides}
use Rattle.std.proofs.lemmas.List.Elements.{All-nil, All-cons, All-head, All-tail, All-append, All-weaker, All-same}
use Rattle.std.proofs.lemmas.Slice.Eq.{bytes_eq-Decides}
use Rattle.num_ends.specs.Decimal.{Decimal, IsDec, trimmed}
use Rattle.num_ends.specs.Names.{folded, is_digit}
use Rattle.num_ends.specs.Texts.{IsNumeral}
use Rattle.num_ends.specs.Reading.{IsReading}
use Rattle.num_ends.specs.declared.faults.NumFault.{NumFault}
use Rattle.num_ends.specs.declared.faults.NumFault.TheVariants.{NotNumber, TooManyPlaces, Range}
use Rattle.pddl_trees.specs.Words.{starts_minus, without_minus, before_point, digits_of, is_numeral, numeral_value, is_taken, number_in}

pub bytes_eq_back : (xs ys : List ℕ) → bytes_eq xs ys ≡ bytes_eq ys xs
bytes_eq_back xs ys =
    let one = bytes_eq-Decides xs ys in
    let other = bytes_eq-Decides ys xs in
    same_from_decides {P = xs ≡ ys} (bytes_eq xs ys) (bytes_eq ys xs) one (λ e. sym (other.0 e), λ e. other.1 (sym e))

-- ---- a numeral has no letters

abbrev IsLow : ℕ → Type 0
IsLow b = b < 65

front_low : (xs ys : List ℕ) → All IsLow (xs ++ ys) → All IsLow xs
front_low [] ys h = All-nil IsLow
front_low (x ∷ xs) ys h = All-cons IsLow x xs (All-head IsLow x (xs ++ ys) h) (front_low xs ys (All-tail IsLow x (xs ++ ys) h))

back_low : (xs ys : List ℕ) → All IsLow (xs ++ ys) → All IsLow ys
back_low [] ys h = h
back_low (x ∷ xs) ys h = back_low xs ys (All-tail IsLow x (xs ++ ys) h)

numeral_low : (text : List ℕ) (d : Decimal) → IsNumeral text d → All IsLow text
numeral_low text d x =
    let low = All-weaker IsAsciiDigit IsLow (λ b h. omega arith) (x.whole ++ x.fraction) x.all_digits in
    let whole = front_low x.whole x.fraction low in
    let fraction = back_low x.whole x.fraction low in
    All-same IsLow text (cond x.negative (codes "-") [] ++ x.whole ++ cond x.pointed (codes "." ++ x.fraction) []) x.spelled
    (All-append IsLow (cond x.negative (codes "-") [] ++ x.whole) (cond x.pointed (codes "." ++ x.fraction) [])
    (All-append IsLow (cond x.negative (codes "-") []) x.whole (sign x.negative) whole) (tail x.pointed x.fraction fraction))
  where
    sign : (negative : Bool) → All IsLow (cond negative (codes "-") [])
    sign true = All-cons IsLow 45 [] (omega arith) (All-nil IsLow)
    sign false = All-nil IsLow

    tail : (pointed : Bool) (fraction : List ℕ) → All IsLow fraction → All IsLow (cond pointed (codes "." ++ fraction) [])
    tail true fraction h = All-cons IsLow 46 fraction (omega arith) h
    tail false fraction h = All-nil IsLow

folded_byte : (b : ℕ) → b < 65 → folded b ≡ b
folded_byte b h = grind (arith, nat_tests)

folded_byte_back : (b : ℕ) → folded b < 65 → folded b ≡ b
folded_byte_back b h = grind (arith, nat_tests)

folded_low : (word : List ℕ) → All IsLow word → map folded word ≡ word
folded_low [] h = refl
folded_low (b ∷ bs) h =
    ap (λ (x : ℕ). x ∷ map folded bs) (folded_byte b (All-head IsLow b bs h)) ∙ ap (λ (t : List ℕ). b ∷ t) (folded_low bs (All-tail IsLow b bs h))

folded_low_back : (word : List ℕ) → All IsLow (map folded word) → map folded word ≡ word
folded_low_back [] h = refl
folded_low_back (b ∷ bs) h =
    ap (λ (x : ℕ). x ∷ map folded bs) (folded_byte_back b (All-head IsLow (folded b) (map folded bs) h)) ∙ ap (λ (t : List ℕ). b ∷ t) (folded_low_back bs (All-tail IsLow (folded b) (map folded bs) h))

-- ---- the parts of a numeral

abbrev is_no_point : ℕ → Bool
is_no_point b = not (b == 46)

-- digits have no point among them
no_point_in : (whole tail : List ℕ) → All IsAsciiDigit whole → prefix_len is_no_point (whole ++ tail) ≡ length whole + prefix_len is_no_point tail
no_point_in [] tail h = omega arith
no_point_in (b ∷ bs) tail h =
    let digit = All-head IsAsciiDigit b bs h in
    let other : is_no_point b ≡ true = grind (arith, nat_tests) in
    let rest = no_point_in bs tail (All-tail IsAsciiDigit b bs h) in
    rw (other, rest) (omega arith)

-- where the point of a numeral's tail stands
tail_point : (pointed : Bool) (fraction : List ℕ) → prefix_len is_no_point (cond pointed (codes "." ++ fraction) []) ≡ 0
tail_point true fraction = refl
tail_point false fraction = refl

behind_point : (pointed : Bool) (fraction : List ℕ) → (pointed ≡ false → fraction ≡ []) → drop 1 (cond pointed (codes "." ++ fraction) []) ≡ fraction
behind_point true fraction h = refl
behind_point false fraction h = sym (h refl)

point_at : (whole fraction : List ℕ) (pointed : Bool) → All IsAsciiDigit whole → before_point (whole ++ cond pointed (codes "." ++ fraction) []) ≡ length whole
point_at whole fraction pointed h =
    no_point_in whole (cond pointed (codes "." ++ fraction) []) h ∙ ap (λ (n : ℕ). length whole + n) (tail_point pointed fraction) ∙ omega arith

drop_behind : (whole tail : List ℕ) → drop (length whole + 1) (whole ++ tail) ≡ drop 1 tail
drop_behind [] tail = refl
drop_behind (b ∷ bs) tail =
    let e : suc (length bs) + 1 ≡ suc (length bs + 1) = omega arith in
    ap (λ (n : ℕ). drop n (b ∷ (bs ++ tail))) e ∙ drop_behind bs tail

take_front : (whole tail : List ℕ) → take (length whole) (whole ++ tail) ≡ whole
take_front [] tail = refl
take_front (b ∷ bs) tail = ap (λ (t : List ℕ). b ∷ t) (take_front bs tail)

length_fraction : (whole fraction : List ℕ) (pointed : Bool) → (pointed ≡ false → fraction ≡ [])
    → length (whole ++ cond pointed (codes "." ++ fraction) []) - (length whole + 1) ≡ length fraction
length_fraction whole fraction pointed h =
    sym (length-drop (length whole + 1) (whole ++ cond pointed (codes "." ++ fraction) []))
    ∙ ap length (drop_behind whole (cond pointed (codes "." ++ fraction) []) ∙ behind_point pointed fraction h)

-- the digits of an unsigned numeral and its places
record IsCutAs (unsigned whole fraction : List ℕ) : Type 0 where
  digits : digits_of unsigned ≡ whole ++ fraction
  places : length unsigned - (before_point unsigned + 1) ≡ length fraction

cut_as : (whole fraction : List ℕ) (pointed : Bool) → All IsAsciiDigit whole → (pointed ≡ false → fraction ≡ [])
    → IsCutAs (whole ++ cond pointed (codes "." ++ fraction) []) whole fraction
cut_as whole fraction pointed h no_point =
    let tail = cond pointed (codes "." ++ fraction) [] in
    let at = point_at whole fraction pointed h in
    record {
      digits = ap (λ (n : ℕ). take n (whole ++ tail) ++ drop (n + 1) (whole ++ tail)) at
          ∙ ap₂ (λ (x y : List ℕ). x ++ y) (take_front whole tail) (drop_behind whole tail ∙ behind_point pointed fraction no_point);
      places = ap (λ (n : ℕ). length (whole ++ tail) - (n + 1)) at ∙ length_fraction whole fraction pointed no_point;
    }

front_digits : (xs ys : List ℕ) → All IsAsciiDigit (xs ++ ys) → All IsAsciiDigit xs
front_digits [] ys h = All-nil IsAsciiDigit
front_digits (c ∷ cs) ys h = All-cons IsAsciiDigit c cs (All-head IsAsciiDigit c (cs ++ ys) h) (front_digits cs ys (All-tail IsAsciiDigit c (cs ++ ys) h))

-- an unsigned numeral doesn't begin with `-`
no_minus : (whole fraction : List ℕ) (pointed : Bool) → All IsAsciiDigit whole → starts_minus (whole ++ cond pointed (codes "." ++ fraction) []) ≡ false
no_minus [] fraction true h = refl
no_minus [] fraction false h = refl
no_minus (c ∷ cs) fraction pointed h =
    let digit = All-head IsAsciiDigit c cs h in
    grind (arith, nat_tests)

-- what the sign of a numeral leaves
signed_as : (negative : Bool) (whole fraction : List ℕ) (pointed : Bool) → All IsAsciiDigit whole
    → (starts_minus (cond negative (codes "-") [] ++ whole ++ cond pointed (codes "." ++ fraction) []) ≡ negative)
    × (without_minus (cond negative (codes "-") [] ++ whole ++ cond pointed (codes "." ++ fraction) []) ≡ whole ++ cond pointed (codes "." ++ fraction) [])
signed_as true whole fraction pointed h = (refl, refl)
signed_as false whole fraction pointed h =
    let plain = no_minus whole fraction pointed h in
    (plain, ap (λ (b : Bool). if b then drop 1 (whole ++ cond pointed (codes "." ++ fraction) []) else whole ++ cond pointed (codes "." ++ fraction) []) plain)

all_digits_pass : (ds : List ℕ) → All IsAsciiDigit ds → list_all is_digit ds ≡ true
all_digits_pass [] h = refl
all_digits_pass (c ∷ cs) h =
    let digit = All-head IsAsciiDigit c cs h in
    let here : is_digit c ≡ true = grind (arith, nat_tests) in
    let rest = all_digits_pass cs (All-tail IsAsciiDigit c cs h) in
    rw (here, rest) refl

passed_all_digits : (ds : List ℕ) → list_all is_digit ds ≡ true → All IsAsciiDigit ds
passed_all_digits [] h = All-nil IsAsciiDigit
passed_all_digits (c ∷ cs) h =
    let parts = both_true (is_digit c) (list_all is_digit cs) h in
    let here = parts.0 in
    let digit : IsAsciiDigit c = (grind (arith, nat_tests), grind (arith, nat_tests)) in
    All-cons IsAsciiDigit c cs digit (passed_all_digits cs parts.1)
  where
    both_true : (a b : Bool) → a && b ≡ true → (a ≡ true) × (b ≡ true)
    both_true true b h = (refl, h)
    both_true false b h = cc

-- a numeral passes the test, and its value is the one that the test's parts give
pub record IsRead (word : List ℕ) (d : Decimal) : Type 0 where
  pub passes : is_numeral word ≡ true
  pub value : d ≡ numeral_value word

read_as : (word : List ℕ) (d : Decimal) → IsNumeral word d → IsRead word d
read_as word d x =
    let whole_digits = front_digits x.whole x.fraction x.all_digits in
    let tail = cond x.pointed (codes "." ++ x.fraction) [] in
    let signs = signed_as x.negative x.whole x.fraction x.pointed whole_digits in
    let minus : starts_minus word ≡ x.negative = ap starts_minus x.spelled ∙ signs.0 in
    let unsigned : without_minus word ≡ x.whole ++ tail = ap without_minus x.spelled ∙ signs.1 in
    let parts = cut_as x.whole x.fraction x.pointed whole_digits x.no_point in
    let digits : digits_of (without_minus word) ≡ x.whole ++ x.fraction = ap digits_of unsigned ∙ parts.digits in
    let places : length (without_minus word) - (before_point (without_minus word) + 1) ≡ length x.fraction =
    ap (λ (u : List ℕ). length u - (before_point u + 1)) unsigned ∙ parts.places in
    record {
      passes = ap (λ (ds : List ℕ). list_all is_digit ds && nat_lt 0 (length ds)) digits ∙ some_pass (x.whole ++ x.fraction) (all_digits_pass (x.whole ++ x.fraction) x.all_digits) x.some_digit;
      value = ap₂ (λ (n : ℤ) (p : ℕ). record { n = n; p = p })
          (x.number ∙ ap₂ (λ (negative : Bool) (ds : List ℕ). cond negative (neg_ℤ (pos (digits_value 10 ds))) (pos (digits_value 10 ds))) (sym minus) (sym digits))
          (x.places ∙ sym places);
    }
  where
    some_pass : (ds : List ℕ) → list_all is_digit ds ≡ true → (length ds ≡ 0 → ⊥) → list_all is_digit ds && nat_lt 0 (length ds) ≡ true
    some_pass [] h some = absurd (some refl)
    some_pass (c ∷ cs) h some =
        let long : nat_lt 0 (suc (length cs)) ≡ true = grind (arith, nat_tests) in
        ap₂ (λ (a b : Bool). a && b) h long

-- ---- what passes the test is a numeral

split_at_point : (u : List ℕ) → u ≡ take (before_point u) u ++ cond (nat_lt (before_point u) (length u)) (codes "." ++ drop (before_point u + 1) u) []
split_at_point [] = refl
split_at_point (b ∷ bs) = cases (split_at_point bs) (is_no_point b) refl
  where
    longer : (n : ℕ) → bs ≡ take n bs ++ cond (nat_lt n (length bs)) (codes "." ++ drop (n + 1) bs) [] → b ∷ bs ≡ take (1 + n) (b ∷ bs) ++ cond (nat_lt (1 + n) (suc (length bs))) (codes "." ++ drop (1 + n + 1) (b ∷ bs)) []
    longer n rest =
        let one : 1 + n ≡ suc n = omega arith in
        let two : 1 + n + 1 ≡ suc (n + 1) = omega arith in
        let less : nat_lt (1 + n) (suc (length bs)) ≡ nat_lt n (length bs) = grind (arith, nat_tests) in
        ap (λ (t : List ℕ). b ∷ t) rest
        ∙ ap₂ (λ (k : ℕ) (m : ℕ). take k (b ∷ bs) ++ cond (nat_lt n (length bs)) (codes "." ++ drop m (b ∷ bs)) []) (sym one) (sym two)
        ∙ ap (λ (t : Bool). take (1 + n) (b ∷ bs) ++ cond t (codes "." ++ drop (1 + n + 1) (b ∷ bs)) []) (sym less)

    point : b ≡ 46 → b ∷ bs ≡ take 0 (b ∷ bs) ++ cond (nat_lt 0 (suc (length bs))) (codes "." ++ drop (0 + 1) (b ∷ bs)) []
    point e =
        let long : nat_lt 0 (suc (length bs)) ≡ true = grind (arith, nat_tests) in
        ap (λ (k : ℕ). k ∷ bs) e ∙ ap (λ (t : Bool). cond t (46 ∷ bs) []) (sym long)

    cases : bs ≡ take (before_point bs) bs ++ cond (nat_lt (before_point bs) (length bs)) (codes "." ++ drop (before_point bs + 1) bs) [] → (test : Bool) → is_no_point b ≡ test → b ∷ bs ≡ take (before_point (b ∷ bs)) (b ∷ bs) ++ cond (nat_lt (before_point (b ∷ bs)) (length (b ∷ bs))) (codes "." ++ drop (before_point (b ∷ bs) + 1) (b ∷ bs)) []
    cases rest true e =
        let n : before_point (b ∷ bs) ≡ 1 + before_point bs = ap (λ (t : Bool). cond t (1 + before_point bs) 0) e in
        longer (before_point bs) rest ∙ ap (λ (k : ℕ). take k (b ∷ bs) ++ cond (nat_lt k (suc (length bs))) (codes "." ++ drop (k + 1) (b ∷ bs)) []) (sym n)
    cases rest false e =
        let n : before_point (b ∷ bs) ≡ 0 = ap (λ (t : Bool). cond t (1 + before_point bs) 0) e in
        let is_point : b ≡ 46 = grind (arith, nat_tests) in
        point is_point ∙ ap (λ (k : ℕ). take k (b ∷ bs) ++ cond (nat_lt k (suc (length bs))) (codes "." ++ drop (k + 1) (b ∷ bs)) []) (sym n)

no_fraction : (n : ℕ) (u : List ℕ) → nat_lt n (length u) ≡ false → drop (n + 1) u ≡ []
no_fraction n u h =
    let past : length u ≤ n + 1 = grind (arith, nat_tests) in
    dropped_all (n + 1) u past
  where
    dropped_all : (k : ℕ) (xs : List ℕ) → length xs ≤ k → drop k xs ≡ []
    dropped_all zero [] h = refl
    dropped_all (suc k) [] h = refl
    dropped_all zero (x ∷ xs) h = absurd (omega arith)
    dropped_all (suc k) (x ∷ xs) h = dropped_all k xs (omega arith)

with_sign : (word : List ℕ) → word ≡ cond (starts_minus word) (codes "-") [] ++ without_minus word
with_sign [] = refl
with_sign (b ∷ bs) = cases (b == 45) refl
  where
    cases : (test : Bool) → (b == 45) ≡ test → b ∷ bs ≡ cond (b == 45) (codes "-") [] ++ (if b == 45 then bs else b ∷ bs)
    cases true e =
        let minus : b ≡ 45 = grind (arith, nat_tests) in
        ap (λ (k : ℕ). k ∷ bs) minus ∙ ap (λ (t : Bool). cond t (codes "-") [] ++ (if t then bs else b ∷ bs)) (sym e)
    cases false e = ap (λ (t : Bool). cond t (codes "-") [] ++ (if t then bs else b ∷ bs)) (sym e)

numeral_from : (word : List ℕ) → is_numeral word ≡ true → IsNumeral word (numeral_value word)
numeral_from word h =
    let u = without_minus word in
    let n = before_point u in
    let tail = cond (nat_lt n (length u)) (codes "." ++ drop (n + 1) u) [] in
    let parts = both_true (list_all is_digit (digits_of u)) (nat_lt 0 (length (digits_of u))) h in
    let some = parts.1 in
    record {
      negative = starts_minus word;
      whole = take n u;
      fraction = drop (n + 1) u;
      pointed = nat_lt n (length u);
      spelled = with_sign word ∙ ap (λ (t : List ℕ). cond (starts_minus word) (codes "-") [] ++ t) (split_at_point u) ∙ sym (append_assoc (cond (starts_minus word) (codes "-") []) (take n u) tail);
      all_digits = passed_all_digits (digits_of u) parts.0;
      some_digit = some_digits (digits_of u) some;
      no_point = no_fraction n u;
      number = refl;
      places = sym (length-drop (n + 1) u);
    }
  where
    both_true : (a b : Bool) → a && b ≡ true → (a ≡ true) × (b ≡ true)
    both_true true b h = (refl, h)
    both_true false b h = cc

    some_digits : (ds : List ℕ) → nat_lt 0 (length ds) ≡ true → length ds ≡ 0 → ⊥
    some_digits ds h e =
        let none : nat_lt 0 (length ds) ≡ false = ap (nat_lt 0) e in
        cc

-- ---- the answers

-- folding changes nothing in a numeral
unfolded : (word : List ℕ) (d : Decimal) → IsNumeral (map folded word) d → IsNumeral word d
unfolded word d x = subst (λ (t : List ℕ). IsNumeral t d) (folded_low_back word (numeral_low (map folded word) d x)) x

taken : (d : Decimal) → d.p ≤ 9 → IsDec d → is_taken d ≡ true
taken d few x =
    let range = x.in_range in
    let places : nat_le d.p 9 ≡ true = grind (arith, nat_tests) in
    let fits : nat_lt (unsigned_abs d.n) (2 ^ 127) ≡ true = grind (arith, nat_tests) in
    rw (places, fits) refl

not_taken_places : (d : Decimal) → 9 < d.p → is_taken d ≡ false
not_taken_places d many =
    let places : nat_le d.p 9 ≡ false = grind (arith, nat_tests) in
    rw places refl

not_taken_range : (d : Decimal) → d.p ≤ 9 → (IsDec d → ⊥) → is_taken d ≡ false
not_taken_range d few wide = cases (nat_lt (unsigned_abs d.n) (2 ^ 127)) refl
  where
    cases : (test : Bool) → nat_lt (unsigned_abs d.n) (2 ^ 127) ≡ test → is_taken d ≡ false
    cases true e =
        let range : unsigned_abs d.n < 2 ^ 127 = grind (arith, nat_tests) in
        absurd (wide (record { in_range = range; few_places = omega arith }))
    cases false e =
        let places : nat_le d.p 9 ≡ true = grind (arith, nat_tests) in
        rw (places, e) refl

-- the number of a numeral whose value, trimmed, is taken or not
number_of_numeral : (word : List ℕ) (d : Decimal) (test : Bool) → IsRead word d → is_taken (trimmed d) ≡ test → number_in word ≡ cond test (Some (trimmed d)) None
unfolding number_in
number_of_numeral word d test x e =
    let same : numeral_value word ≡ d = sym x.value in
    ap (λ (v : Decimal). if is_numeral word && is_taken (trimmed v) then Some (trimmed v) else None) same
    ∙ ap (λ (b : Bool). if b && is_taken (trimmed d) then Some (trimmed d) else None) x.passes
    ∙ ap (λ (b : Bool). if b then Some (trimmed d) else None) e
    ∙ by_test test
  where
    by_test : (b : Bool) → (if b then Some (trimmed d) else None) ≡ cond b (Some (trimmed d)) None
    by_test true = refl
    by_test false = refl

number_of_other : (word : List ℕ) → is_numeral word ≡ false → number_in word ≡ None
unfolding number_in
number_of_other word e = ap (λ (b : Bool). if b && is_taken (trimmed (numeral_value word)) then Some (trimmed (numeral_value word)) else None) e

number_folded : (word : List ℕ) (d : Decimal) → IsNumeral word d → number_in (map folded word) ≡ number_in word
number_folded word d x = ap number_in (folded_low word (numeral_low word d x))

pub number_read : (word : List ℕ) (d : Decimal) → IsReading word 9 (Ok d) → IsDec d → Some d ≡ number_in (map folded word)
number_read word d (written, numeral, value, places) fits =
    let test : is_taken (trimmed written) ≡ true = ap is_taken (sym value) ∙ taken d places fits in
    sym (number_folded word written numeral ∙ number_of_numeral word written true (read_as word written numeral) test ∙ ap Some (sym value))

pub number_refused : (word : List ℕ) (fault : NumFault) → IsReading word 9 (Err fault) → None ≡ number_in (map folded word)
number_refused word NotNumber none = sym (cases (is_numeral (map folded word)) refl)
  where
    cases : (test : Bool) → is_numeral (map folded word) ≡ test → number_in (map folded word) ≡ None
    cases true e = absurd (none (numeral_value (map folded word)) (unfolded word (numeral_value (map folded word)) (numeral_from (map folded word) e)))
    cases false e = number_of_other (map folded word) e
number_refused word TooManyPlaces (written, numeral, many) =
    sym (number_folded word written numeral ∙ number_of_numeral word written false (read_as word written numeral) (not_taken_places (trimmed written) many))
number_refused word Range (written, numeral, few, wide) =
    sym (number_folded word written numeral ∙ number_of_numeral word written false (read_as word written numeral) (not_taken_range (trimmed written) few wide))
