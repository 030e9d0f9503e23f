-- Numerals: their digits' value, and that a text is one in one way at most.
use Rattle.std.proofs.Common.{◌≡◌, ℕ, zero, suc, ◌+◌, ◌-◌, ◌*◌, ◌/◌, ◌%◌, ◌^◌, ◌<◌, ◌≤◌, List, [], ◌∷◌, ◌++◌, length, take, drop, get_or, All, codes, Bool, true, false, cond, ℤ, pos, neg_ℤ, unsigned_abs, refl, sym, ap, ap₂, ◌∙◌, subst, arith, append_assoc, le_refl, add-one, drop-cons, eqb, eqb-true, eq-eqb, Ok, Err, inl, inr}
use Rattle.std.specs.Char.{IsAsciiDigit, digit_value}
use Rattle.std.specs.Str.Parse.{digits_value, digits_value_after}
use Rattle.std.proofs.lemmas.Int.Digits.{digits_value_push}
use Rattle.std.proofs.lemmas.List.{take_more, take_all}
use Rattle.std.proofs.lemmas.List.Elements.{All-nil, All-cons, All-head, All-tail, All-append, All-get_or, All-same}
use Rattle.std.proofs.lemmas.Bool.{cases_lt}
use Rattle.std.proofs.lemmas.Bool.Decides.{nat_tests}
use Rattle.num_ends.specs.Decimal.{Decimal, IsDec, trimmed, without_zeros}
use Rattle.num_ends.specs.Texts.{IsNumeral}
use Rattle.num_ends.specs.Inside.{NoDigitFirst, NoMinusFirst, IsCut, IsTail, IsParts, decimal_of}
use Rattle.num_ends.specs.Reading.{IsReading}
use Rattle.num_ends.specs.declared.faults.NumFault.TheVariants.{TooManyPlaces, Range}
use Rattle.num_ends.proofs.Zeros.{zero_dropped, digit_kept, negative_zeros}

-- ---- the value of digits

pub value_append : (n : ℕ) (xs ys : List ℕ) → digits_value_after 10 n (xs ++ ys) ≡ digits_value_after 10 (digits_value_after 10 n xs) ys
value_append n [] ys = refl
value_append n (c ∷ cs) ys = value_append (n * 10 + digit_value c) cs ys

pub value_grows : (n : ℕ) (ds : List ℕ) → n ≤ digits_value_after 10 n ds
value_grows n [] = le_refl n
value_grows n (c ∷ cs) = omega (arith, value_grows (n * 10 + digit_value c) cs)

pub value_step : (n : ℕ) (ds : List ℕ) (i : ℕ) → i < length ds
    → digits_value_after 10 n (drop i ds) ≡ digits_value_after 10 (n * 10 + digit_value (get_or ds i 0)) (drop (i + 1) ds)
value_step n ds i h = rw (add-one, drop-cons ds i 0 h) refl

pub digit_value_is : (c : ℕ) → IsAsciiDigit c → digit_value c ≡ c - 48
digit_value_is c h = grind (arith, nat_tests)

-- ---- zeros at a fraction's end

last_digit : (whole fraction : List ℕ) (n : ℕ) → 0 < n → n ≤ length fraction → digits_value 10 (whole ++ take n fraction)
    ≡ digits_value 10 (whole ++ take (n - 1) fraction) * 10 + digit_value (get_or fraction (n - 1) 0)
last_digit whole fraction n h k =
    let one : n - 1 + 1 ≡ n = omega arith in
    let within : n - 1 < length fraction = omega arith in
    ap (λ (i : ℕ). digits_value 10 (whole ++ take i fraction)) (sym one)
    ∙ ap (λ (t : List ℕ). digits_value 10 (whole ++ t)) (take_more fraction (n - 1) 0 within)
    ∙ ap (digits_value 10) (sym (append_assoc whole (take (n - 1) fraction) (get_or fraction (n - 1) 0 ∷ [])))
    ∙ digits_value_push 10 (whole ++ take (n - 1) fraction) (get_or fraction (n - 1) 0)

pub last_zero : (whole fraction : List ℕ) (n : ℕ) → 0 < n → n ≤ length fraction → get_or fraction (n - 1) 0 ≡ 48
    → without_zeros n (pos (digits_value 10 (whole ++ take n fraction))) ≡ without_zeros (n - 1) (pos (digits_value 10 (whole ++ take (n - 1) fraction)))
last_zero whole fraction n h k z =
    let v = digits_value 10 (whole ++ take (n - 1) fraction) in
    let w = digits_value 10 (whole ++ take n fraction) in
    let e : w ≡ v * 10 = last_digit whole fraction n h k ∙ ap (λ (c : ℕ). v * 10 + digit_value c) z ∙ omega arith in
    let even : w % 10 ≡ 0 = omega arith in
    let down : w / 10 ≡ v = omega arith in
    zero_dropped n w h even ∙ ap (λ (m : ℕ). without_zeros (n - 1) (pos m)) down

pub last_kept : (whole fraction : List ℕ) (n : ℕ) → 0 < n → n ≤ length fraction → IsAsciiDigit (get_or fraction (n - 1) 0) → (get_or fraction (n - 1) 0 ≡ 48 → ⊥)
    → without_zeros n (pos (digits_value 10 (whole ++ take n fraction))) ≡ record { n = pos (digits_value 10 (whole ++ take n fraction)); p = n }
last_kept whole fraction n h k d z =
    let c = get_or fraction (n - 1) 0 in
    let v = digits_value 10 (whole ++ take (n - 1) fraction) in
    let w = digits_value 10 (whole ++ take n fraction) in
    let e : w ≡ v * 10 + (c - 48) = last_digit whole fraction n h k ∙ ap (λ (m : ℕ). v * 10 + m) (digit_value_is c d) in
    let odd : w % 10 ≡ 0 → ⊥ = λ x. z (omega arith) in
    digit_kept n w (λ x. omega arith) odd

-- the trimmed value of a numeral by the zeros that its digits lose
pub trimmed_reading : (negative : Bool) (whole fraction : List ℕ) (m q : ℕ) → without_zeros (length fraction) (pos (digits_value 10 (whole ++ fraction))) ≡ record { n = pos m; p = q }
    → trimmed (decimal_of negative whole fraction) ≡ record { n = cond negative (neg_ℤ (pos m)) (pos m); p = q }
unfolding trimmed
trimmed_reading true whole fraction m q e = negative_zeros (length fraction) (digits_value 10 (whole ++ fraction)) m q e
trimmed_reading false whole fraction m q e = e

-- ---- one text, one decimal

digits_split : (a b r s : List ℕ) → All IsAsciiDigit a → All IsAsciiDigit b → NoDigitFirst r → NoDigitFirst s → a ++ r ≡ b ++ s → (a ≡ b) × (r ≡ s)
digits_split [] [] r s da db nr ns e = (refl, e)
digits_split [] (c ∷ cs) r s da db nr ns e =
    let first : IsAsciiDigit c → ⊥ = subst NoDigitFirst e nr in
    absurd (first (All-head IsAsciiDigit c cs db))
digits_split (c ∷ cs) [] r s da db nr ns e =
    let first : IsAsciiDigit c → ⊥ = subst NoDigitFirst (sym e) ns in
    absurd (first (All-head IsAsciiDigit c cs da))
digits_split (c ∷ cs) (d ∷ ds) r s da db nr ns e =
    let same : c ≡ d = ap (λ (l : List ℕ). get_or l 0 0) e in
    let rest = digits_split cs ds r s (All-tail IsAsciiDigit c cs da) (All-tail IsAsciiDigit d ds db) nr ns (ap (drop 1) e) in
    (ap₂ (λ (h : ℕ) (t : List ℕ). h ∷ t) same rest.0, rest.1)

sign_split : (n m : Bool) (u v : List ℕ) → (n ≡ false → NoMinusFirst u) → (m ≡ false → NoMinusFirst v) → cond n (codes "-") [] ++ u ≡ cond m (codes "-") [] ++ v → (n ≡ m) × (u ≡ v)
sign_split true true u v hu hv e = (refl, ap (drop 1) e)
sign_split true false u v hu hv e =
    let first : 45 ≡ 45 → ⊥ = subst NoMinusFirst (sym e) (hv refl) in
    absurd (first refl)
sign_split false true u v hu hv e =
    let first : 45 ≡ 45 → ⊥ = subst NoMinusFirst e (hu refl) in
    absurd (first refl)
sign_split false false u v hu hv e = (refl, e)

tail_shape : (pointed : Bool) (rest fraction : List ℕ) → rest ≡ cond pointed (codes "." ++ fraction) [] → NoDigitFirst rest × NoMinusFirst rest
tail_shape true rest fraction e =
    let point : NoDigitFirst (46 ∷ fraction) = λ (h : IsAsciiDigit 46). omega (arith, h.0) in
    let other : NoMinusFirst (46 ∷ fraction) = λ (h : 46 ≡ 45). omega (arith, h) in
    (subst NoDigitFirst (sym e) point, subst NoMinusFirst (sym e) other)
tail_shape false rest fraction e = (subst NoDigitFirst (sym e) tt, subst NoMinusFirst (sym e) tt)

no_minus : (whole rest : List ℕ) → All IsAsciiDigit whole → NoMinusFirst rest → NoMinusFirst (whole ++ rest)
no_minus [] rest d h = h
no_minus (c ∷ cs) rest d h = λ (e : c ≡ 45). omega (arith, (All-head IsAsciiDigit c cs d).0)

front_digits : (xs ys : List ℕ) → All IsAsciiDigit (xs ++ ys) → All IsAsciiDigit xs
front_digits [] ys h = All-nil IsAsciiDigit
front_digits (c ∷ cs) ys h = All-cons IsAsciiDigit c cs (All-head IsAsciiDigit c (cs ++ ys) h) (front_digits cs ys (All-tail IsAsciiDigit c (cs ++ ys) h))

back_digits : (xs ys : List ℕ) → All IsAsciiDigit (xs ++ ys) → All IsAsciiDigit ys
back_digits [] ys h = h
back_digits (c ∷ cs) ys h = back_digits cs ys (All-tail IsAsciiDigit c (cs ++ ys) h)

same_cut : (text : List ℕ) (n m : Bool) (w x r s : List ℕ) → IsCut text n w r → IsCut text m x s → (n ≡ m) × (w ≡ x) × (r ≡ s)
same_cut text n m w x r s a b =
    let signs = sign_split n m (w ++ r) (x ++ s) a.plain b.plain (sym a.spelled ∙ b.spelled) in
    let rest = digits_split w x r s a.all_digits b.all_digits a.stop b.stop signs.1 in
    (signs.0, rest.0, rest.1)

numeral_cut : (text : List ℕ) (d : Decimal) (x : IsNumeral text d) → IsCut text x.negative x.whole (cond x.pointed (codes "." ++ x.fraction) [])
numeral_cut text d x =
    let rest = cond x.pointed (codes "." ++ x.fraction) [] in
    let whole = front_digits x.whole x.fraction x.all_digits in
    let shape = tail_shape x.pointed rest x.fraction refl in
    record {
      spelled = x.spelled ∙ append_assoc (cond x.negative (codes "-") []) x.whole rest;
      plain = λ e. no_minus x.whole rest whole shape.1;
      all_digits = whole;
      stop = shape.0;
    }

-- a numeral's tail is that of the cut
pub numeral_tail : (text : List ℕ) (n : Bool) (w r : List ℕ) → IsCut text n w r → (d : Decimal) (x : IsNumeral text d) → (x.negative ≡ n) × (x.whole ≡ w) × IsTail r x.fraction
numeral_tail text n w r c d x =
    let same = same_cut text x.negative n x.whole w (cond x.pointed (codes "." ++ x.fraction) []) r (numeral_cut text d x) c in (
      same.0,
      same.1,
      record {
        pointed = x.pointed;
        spelled = sym same.2;
        all_digits = back_digits x.whole x.fraction x.all_digits;
        no_point = x.no_point;
      },
    )

pub tail_point : (cs fraction : List ℕ) → IsTail (46 ∷ cs) fraction → fraction ≡ cs
tail_point cs fraction t = point_only t.pointed (t.spelled)
  where
    point_only : (p : Bool) → 46 ∷ cs ≡ cond p (codes "." ++ fraction) [] → fraction ≡ cs
    point_only true e = sym (ap (drop 1) e)
    point_only false e = cc

pub tail_other : (c : ℕ) (cs fraction : List ℕ) → (c ≡ 46 → ⊥) → IsTail (c ∷ cs) fraction → ⊥
tail_other c cs fraction n t = none t.pointed t.spelled
  where
    none : (p : Bool) → c ∷ cs ≡ cond p (codes "." ++ fraction) [] → ⊥
    none true e = n (ap (λ (l : List ℕ). get_or l 0 0) e)
    none false e = cc

tail_unique : (rest f g : List ℕ) → IsTail rest f → IsTail rest g → f ≡ g
tail_unique [] f g s t = empty f s ∙ sym (empty g t)
  where
    gone : (h : List ℕ) (p : Bool) → [] ≡ cond p (codes "." ++ h) [] → (p ≡ false → h ≡ []) → h ≡ []
    gone h true e k = cc
    gone h false e k = k refl

    empty : (h : List ℕ) → IsTail [] h → h ≡ []
    empty h u = gone h u.pointed u.spelled u.no_point
tail_unique (c ∷ cs) f g s t = cases s.pointed s.spelled
  where
    cases : (p : Bool) → c ∷ cs ≡ cond p (codes "." ++ f) [] → f ≡ g
    cases true e =
        let point : c ≡ 46 = ap (λ (l : List ℕ). get_or l 0 0) e in
        tail_point cs f (subst (λ (k : ℕ). IsTail (k ∷ cs) f) point s) ∙ sym (tail_point cs g (subst (λ (k : ℕ). IsTail (k ∷ cs) g) point t))
    cases false e = cc

-- a cut with a tail and some digit makes a numeral
pub numeral_from : (text : List ℕ) (n : Bool) (w r f : List ℕ) → IsCut text n w r → IsTail r f → (length (w ++ f) ≡ 0 → ⊥) → IsNumeral text (decimal_of n w f)
numeral_from text n w r f c t some = record {
  negative = n;
  whole = w;
  fraction = f;
  pointed = t.pointed;
  spelled = c.spelled ∙ ap (λ (z : List ℕ). cond n (codes "-") [] ++ (w ++ z)) t.spelled ∙ sym (append_assoc (cond n (codes "-") []) w (cond t.pointed (codes "." ++ f) []));
  all_digits = All-append IsAsciiDigit w f c.all_digits t.all_digits;
  some_digit = some;
  no_point = t.no_point;
  number = refl;
  places = refl;
}

pub no_tail : (text : List ℕ) (n : Bool) (w r : List ℕ) → IsCut text n w r → ((f : List ℕ) → IsTail r f → ⊥) → (d : Decimal) → IsNumeral text d → ⊥
no_tail text n w r c none d x = none x.fraction (numeral_tail text n w r c d x).2

nothing : (xs : List ℕ) → length xs ≡ 0 → xs ≡ []
nothing [] e = refl
nothing (c ∷ cs) e = absurd (omega arith)

pub no_digit : (text : List ℕ) (n : Bool) (w r f : List ℕ) → IsCut text n w r → IsTail r f → length w ≡ 0 → length f ≡ 0 → (d : Decimal) → IsNumeral text d → ⊥
no_digit text n w r f c t ew ef d x =
    let same = numeral_tail text n w r c d x in
    let whole : x.whole ≡ [] = same.1 ∙ nothing w ew in
    let fraction : x.fraction ≡ [] = tail_unique r x.fraction f same.2 t ∙ nothing f ef in
    x.some_digit (ap₂ (λ (a b : List ℕ). length (a ++ b)) whole fraction)

-- one text writes one decimal at most
pub numeral_unique : (text : List ℕ) (d e : Decimal) → IsNumeral text d → IsNumeral text e → d ≡ e
numeral_unique text d e x y =
    let r = cond x.pointed (codes "." ++ x.fraction) [] in
    let cut = numeral_cut text d x in
    let mine = numeral_tail text x.negative x.whole r cut d x in
    let same = numeral_tail text x.negative x.whole r cut e y in
    let fraction : y.fraction ≡ x.fraction = tail_unique r y.fraction x.fraction same.2 mine.2 in
    decimal_from d x ∙ sym (decimal_from e y ∙ ap₂ (λ (n : Bool) (f : List ℕ). decimal_of n y.whole f) same.0 fraction
    ∙ ap (λ (w : List ℕ). decimal_of x.negative w x.fraction) same.1)
  where
    decimal_from : (a : Decimal) (z : IsNumeral text a) → a ≡ decimal_of z.negative z.whole z.fraction
    decimal_from a z = ap₂ (λ (n : ℤ) (p : ℕ). record { n = n; p = p }) z.number z.places

pub parts_from : (text : List ℕ) (n : Bool) (w r f : List ℕ) → IsCut text n w r → IsTail r f → (w ≡ [] → f ≡ [] → ⊥) → IsParts text n w f
parts_from text n w r f c t some = record {
  numeral = numeral_from text n w r f c t (λ e. some (empty_front w f e) (empty_back w f e));
  whole_digits = c.all_digits;
  fraction_digits = t.all_digits;
}
  where
    empty_front : (xs ys : List ℕ) → length (xs ++ ys) ≡ 0 → xs ≡ []
    empty_front [] ys e = refl
    empty_front (c ∷ cs) ys e = absurd (omega arith)

    empty_back : (xs ys : List ℕ) → length (xs ++ ys) ≡ 0 → ys ≡ []
    empty_back [] [] e = refl
    empty_back [] (c ∷ cs) e = absurd (omega arith)
    empty_back (c ∷ cs) ys e = absurd (omega arith)

-- a text is all digits where its first digits are all of it
pub digits_all : (xs : List ℕ) (n : ℕ) → n ≤ length xs → All IsAsciiDigit (take n xs) → NoDigitFirst (drop n xs)
    → (eqb n (length xs) ≡ true → All IsAsciiDigit xs) × (All IsAsciiDigit xs → eqb n (length xs) ≡ true)
digits_all xs n h front stop = (whole, back)
  where
    whole : eqb n (length xs) ≡ true → All IsAsciiDigit xs
    whole e = All-same IsAsciiDigit xs (take n xs) (sym (take_all n xs (omega (arith, eqb-true n (length xs) e)))) front

    back : All IsAsciiDigit xs → eqb n (length xs) ≡ true
    back all = elim (cases_lt n (length xs)) [
      | inl k ↦
          let first : IsAsciiDigit (get_or xs n 0) → ⊥ = subst NoDigitFirst (drop-cons xs n 0 k) stop in
          absurd (first (All-get_or IsAsciiDigit xs n 0 k all))
      | inr k ↦ eq-eqb n (length xs) (omega arith)
    ]

-- ---- the four answers

-- after the zeros of a fraction are dropped, k places stay
pub record IsKept (w f : List ℕ) (k : ℕ) : Type 0 where
  pub zeros : without_zeros (length f) (pos (digits_value 10 (w ++ f))) ≡ record { n = pos (digits_value 10 (w ++ take k f)); p = k }

abbrev pub kept_value : Bool → List ℕ → List ℕ → ℕ → Decimal
kept_value n w f k = record { n = cond n (neg_ℤ (pos (digits_value 10 (w ++ take k f)))) (pos (digits_value 10 (w ++ take k f))); p = k }

kept_is : (n : Bool) (w f : List ℕ) (k : ℕ) → IsKept w f k → trimmed (decimal_of n w f) ≡ kept_value n w f k
kept_is n w f k h = trimmed_reading n w f (digits_value 10 (w ++ take k f)) k h.zeros

signed_size : (n : Bool) (m : ℕ) → unsigned_abs (cond n (neg_ℤ (pos m)) (pos m)) ≡ m
signed_size true zero = refl
signed_size true (suc m) = refl
signed_size false m = refl

pub reading_ok : (text : List ℕ) (most : ℕ) (n : Bool) (w f : List ℕ) (k : ℕ) (d : Decimal) → IsParts text n w f → IsKept w f k → k ≤ most → d ≡ kept_value n w f k
    → IsReading text most (Ok d)
reading_ok text most n w f k d x h few e = (decimal_of n w f, x.numeral, e ∙ sym (kept_is n w f k h), subst (λ (z : Decimal). z.p ≤ most) (sym e) few)

pub reading_many : (text : List ℕ) (most : ℕ) (n : Bool) (w f : List ℕ) (k : ℕ) → IsParts text n w f → IsKept w f k → most < k → IsReading text most (Err TooManyPlaces)
reading_many text most n w f k x h many = (decimal_of n w f, x.numeral, subst (λ (z : Decimal). most < z.p) (sym (kept_is n w f k h)) many)

reading_range : (text : List ℕ) (most : ℕ) (n : Bool) (w f : List ℕ) (k : ℕ) → IsParts text n w f → IsKept w f k → k ≤ most → (IsDec (kept_value n w f k) → ⊥)
    → IsReading text most (Err Range)
reading_range text most n w f k x h few out = (
  decimal_of n w f,
  x.numeral,
  subst (λ (z : Decimal). z.p ≤ most) (sym (kept_is n w f k h)) few,
  subst (λ (z : Decimal). IsDec z → ⊥) (sym (kept_is n w f k h)) out,
)

pub reading_wide : (text : List ℕ) (most : ℕ) (n : Bool) (w f : List ℕ) (k : ℕ) → IsParts text n w f → IsKept w f k → k ≤ most → 18 < k → IsReading text most (Err Range)
reading_wide text most n w f k x h few wide = reading_range text most n w f k x h few (λ d. omega (arith, d.few_places))

pub reading_large : (text : List ℕ) (most : ℕ) (n : Bool) (w f : List ℕ) (k : ℕ) → IsParts text n w f → IsKept w f k → k ≤ most → 2 ^ 127 ≤ digits_value 10 (w ++ take k f)
    → IsReading text most (Err Range)
reading_large text most n w f k x h few large =
    reading_range text most n w f k x h few (λ d. omega (arith, d.in_range, signed_size n (digits_value 10 (w ++ take k f))))
