-- Numbers and intervals as lines say them: each text says one, and has no blank.
use Rattle.std.proofs.Common.{◌≡◌, ◌≢◌, ℕ, suc, ◌≤◌, ◌&&◌, ℤ, Bool, true, false, not, cond, eqb, List, [], ◌∷◌, ◌++◌, Err, codes, All, IsTrue, refl, sym, ap, ap₂, subst, ◌∙◌, arith, append_assoc, eq-eqb}
use Rattle.std.proofs.lemmas.Bool.{and_parts, both_ways}
use Rattle.std.proofs.lemmas.List.{append_cancel_left}
use Rattle.std.specs.Char.{IsAsciiDigit}
use Rattle.num_ends.specs.Decimal.{Decimal, number_at, trimmed, InRange, IsDec}
use Rattle.num_ends.specs.Ends.{Interval, is_inhabited}
use Rattle.num_ends.specs.Reading.{IsReading}
use Rattle.num_ends.specs.Texts.{IsNumeral}
use Rattle.num_ends.specs.declared.ends.End.{End}
use Rattle.num_ends.specs.declared.ends.End.TheVariants.{NegInf, Excl, Incl, PosInf}
use Rattle.num_ends.specs.declared.faults.NumFault.{NumFault}
use Rattle.num_ends.specs.declared.faults.NumFault.TheVariants.{NotNumber, TooManyPlaces, Range}
use Rattle.num_ends.proofs.Numerals.{numeral_unique}
use Rattle.cert_reader.specs.Parts.{IsWithout}
use Rattle.cert_reader.specs.Spelling.{SpellsDecimal, SpellsInterval, SpellsLower, SpellsNumber, SpellsUpper}
use Rattle.cert_reader.proofs.InParts.{cut_same}

-- ---- texts without a byte

pub without_append : (b : ℕ) (xs ys : List ℕ) → IsWithout b xs → IsWithout b ys → IsWithout b (xs ++ ys)
without_append b [] ys h k = k
without_append b (x ∷ xs) ys h k = (h.0, without_append b xs ys h.1 k)

without_front : (b : ℕ) (xs ys : List ℕ) → IsWithout b (xs ++ ys) → IsWithout b xs
without_front b [] ys h = tt
without_front b (x ∷ xs) ys h = (h.0, without_front b xs ys h.1)

pub without_back : (b : ℕ) (xs ys : List ℕ) → IsWithout b (xs ++ ys) → IsWithout b ys
without_back b [] ys h = h
without_back b (x ∷ xs) ys h = without_back b xs ys h.1

abbrev pub is_without : ℕ → List ℕ → Bool
is_without b [] = true
is_without b (x ∷ xs) = not (eqb x b) && is_without b xs

pub decided : (b : ℕ) (xs : List ℕ) → is_without b xs ≡ true → IsWithout b xs
decided b [] h = tt
decided b (x ∷ xs) h =
    let p = and_parts (not (eqb x b)) (is_without b xs) h in
    (λ e. both_ways true (sym p.0 ∙ ap not (eq-eqb x b e)) refl, decided b xs p.1)

digits_without : (b : ℕ) → ((x : ℕ) → IsAsciiDigit x → x ≢ b) → (xs : List ℕ) → All IsAsciiDigit xs → IsWithout b xs
digits_without b away [] h = tt
digits_without b away (x ∷ xs) h = (away x (h 0 x (omega arith)), digits_without b away xs (λ k d l. h (suc k) d (omega arith)))

-- a byte that no number has
pub record IsForeign (b : ℕ) : Type 0 where
  pub no_digit : (x : ℕ) → IsAsciiDigit x → x ≢ b
  pub no_minus : 45 ≢ b
  pub no_point : 46 ≢ b

pub blank_foreign : IsForeign 32
blank_foreign = record { no_digit = λ x digit e. absurd (omega arith); no_minus = λ e. absurd (omega arith); no_point = λ e. absurd (omega arith) }

pub comma_foreign : IsForeign 44
comma_foreign = record { no_digit = λ x digit e. absurd (omega arith); no_minus = λ e. absurd (omega arith); no_point = λ e. absurd (omega arith) }

letter_foreign : IsForeign 105
letter_foreign = record { no_digit = λ x digit e. absurd (omega arith); no_minus = λ e. absurd (omega arith); no_point = λ e. absurd (omega arith) }

sign_without : (b : ℕ) → IsForeign b → (negative : Bool) → IsWithout b (cond negative (codes "-") [])
sign_without b foreign true = (foreign.no_minus, tt)
sign_without b foreign false = tt

places_without : (b : ℕ) → IsForeign b → (pointed : Bool) (fraction : List ℕ) → IsWithout b fraction → IsWithout b (cond pointed (codes "." ++ fraction) [])
places_without b foreign true fraction h = (foreign.no_point, h)
places_without b foreign false fraction h = tt

numeral_without : (b : ℕ) → IsForeign b → (text : List ℕ) (e : Decimal) → IsNumeral text e → IsWithout b text
numeral_without b foreign text e is =
    let digits : IsWithout b (is.whole ++ is.fraction) = digits_without b foreign.no_digit (is.whole ++ is.fraction) is.all_digits in
    subst (IsWithout b) (sym is.spelled)
    (without_append b (cond is.negative (codes "-") [] ++ is.whole) (cond is.pointed (codes "." ++ is.fraction) [])
    (without_append b (cond is.negative (codes "-") []) is.whole (sign_without b foreign is.negative) (without_front b is.whole is.fraction digits))
    (places_without b foreign is.pointed is.fraction (without_back b is.whole is.fraction digits)))

-- ---- decimals

pub decimal_without : (b : ℕ) → IsForeign b → (places : ℕ) (text : List ℕ) (d : Decimal) → SpellsDecimal places text d → IsWithout b text
decimal_without b foreign places text d h = numeral_without b foreign text h.0 h.1

pub decimal_unique : (places : ℕ) (text : List ℕ) (d f : Decimal) → SpellsDecimal places text d → SpellsDecimal places text f → d ≡ f
decimal_unique places text d f h k = h.2 ∙ ap trimmed (numeral_unique text h.0 k.0 h.1 k.1) ∙ sym k.2

pub not_read : (places : ℕ) (text : List ℕ) (fault : NumFault) → places ≤ 9 → IsReading text places (Err fault) → (d : Decimal) → SpellsDecimal places text d → ⊥
not_read places text NotNumber few h d is = h is.0 is.1
not_read places text TooManyPlaces few h d is =
    let same : d ≡ trimmed h.0 = is.2 ∙ ap trimmed (numeral_unique text is.0 h.0 is.1 h.1) in
    let places_same : d.p ≡ (trimmed h.0).p = ap (λ (x : Decimal). x.p) same in
    absurd (omega (arith, places_same, is.3, h.2))
not_read places text Range few h d is =
    let same : d ≡ trimmed h.0 = is.2 ∙ ap trimmed (numeral_unique text is.0 h.0 is.1 h.1) in
    h.3 (subst IsDec same (record { in_range = is.4; few_places = omega (arith, is.3) }))

-- ---- ends

no_letters : (places : ℕ) (text : List ℕ) (d : Decimal) → SpellsDecimal places text d → IsWithout 105 text
no_letters places text d h = decimal_without 105 letter_foreign places text d h

nil_not_snoc : (xs : List ℕ) (x : ℕ) → [] ≡ xs ++ x ∷ [] → ⊥
nil_not_snoc [] x h = cc
nil_not_snoc (y ∷ xs) x h = cc

last_same : (xs ys : List ℕ) (x y : ℕ) → xs ++ x ∷ [] ≡ ys ++ y ∷ [] → (xs ≡ ys) × (x ≡ y)
last_same [] [] x y h = (refl, cc)
last_same [] (b ∷ ys) x y h = let rest : [] ≡ ys ++ y ∷ [] = cc in absurd (nil_not_snoc ys y rest)
last_same (a ∷ xs) [] x y h = let rest : xs ++ x ∷ [] ≡ [] = cc in absurd (nil_not_snoc xs x (sym rest))
last_same (a ∷ xs) (b ∷ ys) x y h =
    let one : a ≡ b = cc in
    let others : xs ++ x ∷ [] ≡ ys ++ y ∷ [] = cc in
    let rest = last_same xs ys x y others in
    (ap₂ (λ (z : ℕ) (zs : List ℕ). z ∷ zs) one rest.0, rest.1)

pub heads : (x y : ℕ) (xs ys : List ℕ) → x ∷ xs ≡ y ∷ ys → x ≡ y
heads x y xs ys h = cc

pub tails : (x y : ℕ) (xs ys : List ℕ) → x ∷ xs ≡ y ∷ ys → xs ≡ ys
tails x y xs ys h = cc

not_lower_infinite : (places : ℕ) (digits : List ℕ) (d : Decimal) → SpellsDecimal places digits d → digits ≡ codes "-inf" → ⊥
not_lower_infinite places digits d h e =
    let bytes : IsWithout 105 (codes "-inf") = subst (IsWithout 105) e (no_letters places digits d h) in bytes.1.0 refl

not_upper_infinite : (places : ℕ) (digits : List ℕ) (d : Decimal) → SpellsDecimal places digits d → digits ≡ codes "inf" → ⊥
not_upper_infinite places digits d h e =
    let bytes : IsWithout 105 (codes "inf") = subst (IsWithout 105) e (no_letters places digits d h) in bytes.0 refl

pub lower_unique : (places : ℕ) (text : List ℕ) (e f : End) → SpellsLower places text e → SpellsLower places text f → e ≡ f
lower_unique places text NegInf NegInf h k = refl
lower_unique places text NegInf (Excl d) h k = absurd (not_lower_infinite places k.0 d k.2 (tails 40 40 k.0 (codes "-inf") (sym k.1 ∙ h)))
lower_unique places text NegInf (Incl d) h k = absurd (omega (arith, heads 91 40 k.0 (codes "-inf") (sym k.1 ∙ h)))
lower_unique places text NegInf PosInf h k = absurd k
lower_unique places text (Excl d) NegInf h k = absurd (not_lower_infinite places h.0 d h.2 (tails 40 40 h.0 (codes "-inf") (sym h.1 ∙ k)))
lower_unique places text (Excl d) (Excl f) h k =
    let same : h.0 ≡ k.0 = tails 40 40 h.0 k.0 (sym h.1 ∙ k.1) in
    ap Excl (decimal_unique places h.0 d f h.2 (subst (λ (t : List ℕ). SpellsDecimal places t f) (sym same) k.2))
lower_unique places text (Excl d) (Incl f) h k = absurd (omega (arith, heads 40 91 h.0 k.0 (sym h.1 ∙ k.1)))
lower_unique places text (Excl d) PosInf h k = absurd k
lower_unique places text (Incl d) NegInf h k = absurd (omega (arith, heads 91 40 h.0 (codes "-inf") (sym h.1 ∙ k)))
lower_unique places text (Incl d) (Excl f) h k = absurd (omega (arith, heads 91 40 h.0 k.0 (sym h.1 ∙ k.1)))
lower_unique places text (Incl d) (Incl f) h k =
    let same : h.0 ≡ k.0 = tails 91 91 h.0 k.0 (sym h.1 ∙ k.1) in
    ap Incl (decimal_unique places h.0 d f h.2 (subst (λ (t : List ℕ). SpellsDecimal places t f) (sym same) k.2))
lower_unique places text (Incl d) PosInf h k = absurd k
lower_unique places text PosInf f h k = absurd h

pub upper_unique : (places : ℕ) (text : List ℕ) (e f : End) → SpellsUpper places text e → SpellsUpper places text f → e ≡ f
upper_unique places text PosInf PosInf h k = refl
upper_unique places text PosInf (Excl d) h k = absurd (not_upper_infinite places k.0 d k.2 (last_same k.0 (codes "inf") 41 41 (sym k.1 ∙ h)).0)
upper_unique places text PosInf (Incl d) h k = absurd (omega (arith, (last_same k.0 (codes "inf") 93 41 (sym k.1 ∙ h)).1))
upper_unique places text PosInf NegInf h k = absurd k
upper_unique places text (Excl d) PosInf h k = absurd (not_upper_infinite places h.0 d h.2 (last_same h.0 (codes "inf") 41 41 (sym h.1 ∙ k)).0)
upper_unique places text (Excl d) (Excl f) h k =
    let same = last_same h.0 k.0 41 41 (sym h.1 ∙ k.1) in
    ap Excl (decimal_unique places h.0 d f h.2 (subst (λ (t : List ℕ). SpellsDecimal places t f) (sym same.0) k.2))
upper_unique places text (Excl d) (Incl f) h k = absurd (omega (arith, (last_same h.0 k.0 41 93 (sym h.1 ∙ k.1)).1))
upper_unique places text (Excl d) NegInf h k = absurd k
upper_unique places text (Incl d) PosInf h k = absurd (omega (arith, (last_same h.0 (codes "inf") 93 41 (sym h.1 ∙ k)).1))
upper_unique places text (Incl d) (Excl f) h k = absurd (omega (arith, (last_same h.0 k.0 93 41 (sym h.1 ∙ k.1)).1))
upper_unique places text (Incl d) (Incl f) h k =
    let same = last_same h.0 k.0 93 93 (sym h.1 ∙ k.1) in
    ap Incl (decimal_unique places h.0 d f h.2 (subst (λ (t : List ℕ). SpellsDecimal places t f) (sym same.0) k.2))
upper_unique places text (Incl d) NegInf h k = absurd k
upper_unique places text NegInf f h k = absurd h

lower_without : (b : ℕ) → IsForeign b → is_without b (codes "(-inf[") ≡ true → (places : ℕ) (text : List ℕ) (e : End) → SpellsLower places text e → IsWithout b text
lower_without b foreign marks places text NegInf h = subst (IsWithout b) (sym h) (without_front b (codes "(-inf") (codes "[") (decided b (codes "(-inf[") marks))
lower_without b foreign marks places text (Excl d) h =
    subst (IsWithout b) (sym h.1) ((decided b (codes "(-inf[") marks).0, decimal_without b foreign places h.0 d h.2)
lower_without b foreign marks places text (Incl d) h =
    subst (IsWithout b) (sym h.1) ((decided b (codes "(-inf[") marks).1.1.1.1.1.0, decimal_without b foreign places h.0 d h.2)
lower_without b foreign marks places text PosInf h = absurd h

upper_without : (b : ℕ) → IsForeign b → is_without b (codes "inf)") ≡ true → is_without b (codes "]") ≡ true → (places : ℕ) (text : List ℕ) (e : End) → SpellsUpper places text e → IsWithout b text
upper_without b foreign marks bracket places text NegInf h = absurd h
upper_without b foreign marks bracket places text (Excl d) h =
    subst (IsWithout b) (sym h.1) (without_append b h.0 (codes ")") (decimal_without b foreign places h.0 d h.2)
    (without_back b (codes "inf") (codes ")") (decided b (codes "inf)") marks)))
upper_without b foreign marks bracket places text (Incl d) h =
    subst (IsWithout b) (sym h.1) (without_append b h.0 (codes "]") (decimal_without b foreign places h.0 d h.2) (decided b (codes "]") bracket))
upper_without b foreign marks bracket places text PosInf h = subst (IsWithout b) (sym h) (decided b (codes "inf)") marks)

-- ---- intervals

-- the parts of an interval's text are those round its first comma
pub at_comma : (places : ℕ) (text lower upper : List ℕ) (i : Interval) → text ≡ lower ++ 44 ∷ upper → IsWithout 44 lower → (is : SpellsInterval places text i)
    → (is.lower ≡ lower) × (is.upper ≡ upper)
at_comma places text lower upper i cut no_comma is =
    let whole : is.lower ++ 44 ∷ is.upper ≡ lower ++ 44 ∷ upper = sym (append_assoc is.lower (44 ∷ []) is.upper) ∙ sym is.spelled ∙ cut in
    let left : is.lower ≡ lower = cut_same 44 is.lower lower is.upper upper (lower_without 44 comma_foreign refl places is.lower i.0 is.spells_lower) no_comma whole in
    (left, tails 44 44 is.upper upper (append_cancel_left lower (44 ∷ is.upper) (44 ∷ upper) (ap (λ (l : List ℕ). l ++ 44 ∷ is.upper) (sym left) ∙ whole)))

pub interval_unique : (places : ℕ) (text : List ℕ) (i j : Interval) → SpellsInterval places text i → SpellsInterval places text j → i ≡ j
interval_unique places text i j h k =
    let same = at_comma places text k.lower k.upper i (k.spelled ∙ append_assoc k.lower (44 ∷ []) k.upper) (lower_without 44 comma_foreign refl places k.lower j.0 k.spells_lower) h in
    ap₂ (λ (l u : End). (l, u))
    (lower_unique places k.lower i.0 j.0 (subst (λ (t : List ℕ). SpellsLower places t i.0) same.0 h.spells_lower) k.spells_lower)
    (upper_unique places k.upper i.1 j.1 (subst (λ (t : List ℕ). SpellsUpper places t i.1) same.1 h.spells_upper) k.spells_upper)

pub interval_solid : (places : ℕ) (text : List ℕ) (i : Interval) → SpellsInterval places text i → IsWithout 32 text
interval_solid places text i is =
    subst (IsWithout 32) (sym is.spelled)
    (without_append 32 (is.lower ++ codes ",") is.upper
    (without_append 32 is.lower (codes ",") (lower_without 32 blank_foreign refl places is.lower i.0 is.spells_lower) (decided 32 (codes ",") refl))
    (upper_without 32 blank_foreign refl refl places is.upper i.1 is.spells_upper))

-- a text without a comma spells none
pub no_comma : (places : ℕ) (text : List ℕ) → IsWithout 44 text → (i : Interval) → SpellsInterval places text i → ⊥
no_comma places text without i is =
    let bytes : IsWithout 44 (is.lower ++ 44 ∷ is.upper) = subst (IsWithout 44) (is.spelled ∙ append_assoc is.lower (44 ∷ []) is.upper) without in
    (without_back 44 is.lower (44 ∷ is.upper) bytes).0 refl

pub no_lower : (places : ℕ) (text lower upper : List ℕ) → text ≡ lower ++ 44 ∷ upper → IsWithout 44 lower → ((e : End) → SpellsLower places lower e → ⊥)
    → (i : Interval) → SpellsInterval places text i → ⊥
no_lower places text lower upper cut without none i is =
    none i.0 (subst (λ (t : List ℕ). SpellsLower places t i.0) (at_comma places text lower upper i cut without is).0 is.spells_lower)

pub no_upper : (places : ℕ) (text lower upper : List ℕ) → text ≡ lower ++ 44 ∷ upper → IsWithout 44 lower → ((e : End) → SpellsUpper places upper e → ⊥)
    → (i : Interval) → SpellsInterval places text i → ⊥
no_upper places text lower upper cut without none i is =
    none i.1 (subst (λ (t : List ℕ). SpellsUpper places t i.1) (at_comma places text lower upper i cut without is).1 is.spells_upper)

pub nothing_between : (places : ℕ) (text lower upper : List ℕ) (e f : End) → text ≡ lower ++ 44 ∷ upper → IsWithout 44 lower → SpellsLower places lower e → SpellsUpper places upper f
    → is_inhabited e f ≡ false → (i : Interval) → SpellsInterval places text i → ⊥
nothing_between places text lower upper e f cut without below above empty i is =
    let at = at_comma places text lower upper i cut without is in
    let left : i.0 ≡ e = lower_unique places lower i.0 e (subst (λ (t : List ℕ). SpellsLower places t i.0) at.0 is.spells_lower) below in
    let right : i.1 ≡ f = upper_unique places upper i.1 f (subst (λ (t : List ℕ). SpellsUpper places t i.1) at.1 is.spells_upper) above in
    both_ways (is_inhabited e f) empty (sym (ap₂ is_inhabited left right) ∙ is.inhabited)

-- ---- numbers at places

pub number_solid : (places : ℕ) (text : List ℕ) (n : ℤ) → SpellsNumber places text n → IsWithout 32 text
number_solid places text n h = decimal_without 32 blank_foreign places text h.0 h.1

pub number_unique : (places : ℕ) (text : List ℕ) (n m : ℤ) → SpellsNumber places text n → SpellsNumber places text m → n ≡ m
number_unique places text n m h k = h.2 ∙ ap (number_at places) (decimal_unique places text h.0 k.0 h.1 k.1) ∙ sym k.2

-- ---- ends by code

pub no_open_lower : (places : ℕ) (digits : List ℕ) → (digits ≡ codes "-inf" → ⊥) → ((d : Decimal) → SpellsDecimal places digits d → ⊥) → (e : End) → SpellsLower places (40 ∷ digits) e → ⊥
no_open_lower places digits finite none NegInf h = finite (tails 40 40 digits (codes "-inf") h)
no_open_lower places digits finite none (Excl d) h = none d (subst (λ (t : List ℕ). SpellsDecimal places t d) (sym (tails 40 40 digits h.0 h.1)) h.2)
no_open_lower places digits finite none (Incl d) h = absurd (omega (arith, heads 40 91 digits h.0 h.1))
no_open_lower places digits finite none PosInf h = h

pub no_closed_lower : (places : ℕ) (digits : List ℕ) → ((d : Decimal) → SpellsDecimal places digits d → ⊥) → (e : End) → SpellsLower places (91 ∷ digits) e → ⊥
no_closed_lower places digits none NegInf h = absurd (omega (arith, heads 91 40 digits (codes "-inf") h))
no_closed_lower places digits none (Excl d) h = absurd (omega (arith, heads 91 40 digits h.0 h.1))
no_closed_lower places digits none (Incl d) h = none d (subst (λ (t : List ℕ). SpellsDecimal places t d) (sym (tails 91 91 digits h.0 h.1)) h.2)
no_closed_lower places digits none PosInf h = h

pub no_lower_end : (places : ℕ) (text : List ℕ) → ((rest : List ℕ) → text ≡ codes "(" ++ rest → ⊥) → ((rest : List ℕ) → text ≡ codes "[" ++ rest → ⊥) → (e : End) → SpellsLower places text e → ⊥
no_lower_end places text round square NegInf h = round (codes "-inf") h
no_lower_end places text round square (Excl d) h = round h.0 h.1
no_lower_end places text round square (Incl d) h = square h.0 h.1
no_lower_end places text round square PosInf h = h

pub no_open_upper : (places : ℕ) (digits : List ℕ) → (digits ≡ codes "inf" → ⊥) → ((d : Decimal) → SpellsDecimal places digits d → ⊥) → (e : End) → SpellsUpper places (digits ++ 41 ∷ []) e → ⊥
no_open_upper places digits finite none NegInf h = h
no_open_upper places digits finite none (Excl d) h = none d (subst (λ (t : List ℕ). SpellsDecimal places t d) (sym (last_same digits h.0 41 41 h.1).0) h.2)
no_open_upper places digits finite none (Incl d) h = absurd (omega (arith, (last_same digits h.0 41 93 h.1).1))
no_open_upper places digits finite none PosInf h = finite (last_same digits (codes "inf") 41 41 h).0

pub no_closed_upper : (places : ℕ) (digits : List ℕ) → ((d : Decimal) → SpellsDecimal places digits d → ⊥) → (e : End) → SpellsUpper places (digits ++ 93 ∷ []) e → ⊥
no_closed_upper places digits none NegInf h = h
no_closed_upper places digits none (Excl d) h = absurd (omega (arith, (last_same digits h.0 93 41 h.1).1))
no_closed_upper places digits none (Incl d) h = none d (subst (λ (t : List ℕ). SpellsDecimal places t d) (sym (last_same digits h.0 93 93 h.1).0) h.2)
no_closed_upper places digits none PosInf h = absurd (omega (arith, (last_same digits (codes "inf") 93 41 h).1))

pub no_upper_end : (places : ℕ) (text : List ℕ) → ((front : List ℕ) → text ≡ front ++ codes ")" → ⊥) → ((front : List ℕ) → text ≡ front ++ codes "]" → ⊥) → (e : End) → SpellsUpper places text e → ⊥
no_upper_end places text round square NegInf h = h
no_upper_end places text round square (Excl d) h = round h.0 h.1
no_upper_end places text round square (Incl d) h = square h.0 h.1
no_upper_end places text round square PosInf h = round (codes "inf") h

-- ---- intervals and numbers by code

pub nothing_up_to : (places : ℕ) (upper : List ℕ) (from to : End) → SpellsUpper places upper to → is_inhabited from to ≡ false → (other : End) → SpellsUpper places upper other → IsTrue (is_inhabited from other) → ⊥
nothing_up_to places upper from to is empty other same there =
    both_ways (is_inhabited from to) empty (ap (is_inhabited from) (upper_unique places upper to other is same) ∙ there)

pub up_to_end : (places : ℕ) (upper : List ℕ) (from to : End) (i : Interval) → SpellsUpper places upper to → IsTrue (is_inhabited from to) × (i ≡ (from, to))
    → (i.0 ≡ from) × SpellsUpper places upper i.1 × IsTrue (is_inhabited i.0 i.1)
up_to_end places upper from to i is (there, same) = (
  ap (λ (j : Interval). j.0) same,
  subst (λ (j : Interval). SpellsUpper places upper j.1) (sym same) is,
  subst (λ (j : Interval). IsTrue (is_inhabited j.0 j.1)) (sym same) there,
)

module _ (places : ℕ) (lower upper : List ℕ) (from : End) (below : SpellsLower places lower from) (without : IsWithout 44 lower) where
  pub none_between : ((to : End) → SpellsUpper places upper to → IsTrue (is_inhabited from to) → ⊥) → (i : Interval) → SpellsInterval places (lower ++ 44 ∷ upper) i → ⊥
  none_between none i is =
      let at = at_comma places (lower ++ 44 ∷ upper) lower upper i refl without is in
      let left : i.0 ≡ from = lower_unique places lower i.0 from (subst (λ (t : List ℕ). SpellsLower places t i.0) at.0 is.spells_lower) below in
      none i.1 (subst (λ (t : List ℕ). SpellsUpper places t i.1) at.1 is.spells_upper) (subst (λ (e : End). IsTrue (is_inhabited e i.1)) left is.inhabited)

  pub one_between : (i : Interval) → (i.0 ≡ from) × SpellsUpper places upper i.1 × IsTrue (is_inhabited i.0 i.1) → SpellsInterval places (lower ++ 44 ∷ upper) i
  one_between i (same, above, there) = record {
    lower = lower;
    upper = upper;
    spelled = sym (append_assoc lower (44 ∷ []) upper);
    spells_lower = subst (SpellsLower places lower) (sym same) below;
    spells_upper = above;
    inhabited = there;
  }

pub no_lower_between : (places : ℕ) (lower upper : List ℕ) → IsWithout 44 lower → ((e : End) → SpellsLower places lower e → ⊥) → (i : Interval) → SpellsInterval places (lower ++ 44 ∷ upper) i → ⊥
no_lower_between places lower upper without none i is = no_lower places (lower ++ 44 ∷ upper) lower upper refl without none i is

module _ (places : ℕ) (text : List ℕ) (d : Decimal) (spelled : SpellsDecimal places text d) where
  pub no_number : (InRange (number_at places d) → ⊥) → (n : ℤ) → SpellsNumber places text n → ⊥
  no_number out n is =
      out (subst InRange (is.2 ∙ ap (number_at places) (decimal_unique places text is.0 d is.1 spelled)) is.3)

  pub a_number : (n : ℤ) → (n ≡ number_at places d) × InRange n → SpellsNumber places text n
  a_number n (same, fits) = (d, spelled, same, fits)
