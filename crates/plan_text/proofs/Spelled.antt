-- What may stand round a step: read where it is spelled, and spelled where it is read.
use Rattle.std.proofs.Common.{◌≡◌, ℕ, ◌<◌, Bool, true, false, cond, eqb, List, [], ◌∷◌, ◌++◌, length, Option, Some, None, refl, sym, ap, ap₂, ◌∙◌, inl, inr, arith, append_assoc, append-nil}
use Rattle.std.proofs.lemmas.Bool.{cond-true, cond-false, cases_Bool, and_parts, and_from, or_cases, or_left, or_right, eqb-true, eq-eqb, both_ways}
use Rattle.std.proofs.lemmas.Bool.Decides.{nat_tests}
use Rattle.std.proofs.lemmas.List.Folds.{list_all-append}
use Rattle.std.specs.List.{list_all}
use Rattle.std.specs.Option.{option_map_or}
use Rattle.num_ends.specs.Names.{is_digit}
use Rattle.plan_text.specs.Plans.{is_space, IsBlank, IsDigits, IsNumber, IsMarkedNumber, MayPrecede, MayFollow}
use Rattle.plan_text.specs.internal.Reading.{front, past, behind_digits, behind_places, behind_number, is_blank, is_mark, is_marked_number, may_precede, is_bracketed, may_follow}
use Rattle.plan_text.proofs.Fronts.{begins, front_and_past, front_passes, past_here, nothing_past}

-- ---- options and tests that answer

pub bind_some : {A B : Type 0} (o : Option A) (f : A → Option B) (y : B) → option_map_or f o None ≡ Some y → (x : A) × (o ≡ Some x) × (f x ≡ Some y)
bind_some None f y e = absurd (none_some y e)
  where
    none_some : {B : Type 0} (y : B) → None ≡ Some y → ⊥
    none_some y e = cc
bind_some (Some x) f y e = (x, refl, e)

pub bind_true : {A : Type 0} (o : Option A) (f : A → Bool) → option_map_or f o false ≡ true → (x : A) × (o ≡ Some x) × (f x ≡ true)
bind_true None f e = absurd (both_ways false refl e)
bind_true (Some x) f e = (x, refl, e)

pub cond_some : {A : Type 0} (b : Bool) (o : Option A) (y : A) → cond b o None ≡ Some y → (b ≡ true) × (o ≡ Some y)
cond_some true o y e = (refl, e)
cond_some false o y e = absurd (none_some y e)
  where
    none_some : {A : Type 0} (y : A) → None ≡ Some y → ⊥
    none_some y e = cc

pub same_some : {A : Type 0} (x y : A) → Some x ≡ Some y → x ≡ y
same_some x y e = cc

-- ---- bytes of one kind

pub all_through : (p q : ℕ → Bool) → ((b : ℕ) → p b ≡ true → q b ≡ true) → (xs : List ℕ) → list_all p xs ≡ true → list_all q xs ≡ true
all_through p q through [] all = refl
all_through p q through (x ∷ xs) all =
    let both = and_parts (p x) (list_all p xs) all in
    and_from (q x) (list_all q xs) (through x both.0) (all_through p q through xs both.1)

pub all_joined : (p : ℕ → Bool) (xs ys : List ℕ) → list_all p xs ≡ true → list_all p ys ≡ true → list_all p (xs ++ ys) ≡ true
all_joined p xs ys first second = list_all-append p xs ys ∙ and_from (list_all p xs) (list_all p ys) first second

space_no_digit : (b : ℕ) → is_space b ≡ true → is_digit b ≡ false
space_no_digit b is = grind (arith, nat_tests)

space_no_point : (b : ℕ) → is_space b ≡ true → eqb b 46 ≡ false
space_no_point b is = grind (arith, nat_tests)

digit_no_space : (b : ℕ) → is_digit b ≡ true → is_space b ≡ false
digit_no_space b is = grind (arith, nat_tests)

-- white space and a mark begin with no byte of a kind that has neither
begins_with_mark : (p : ℕ → Bool) (between : List ℕ) (mark : ℕ) (behind : List ℕ) → ((b : ℕ) → is_space b ≡ true → p b ≡ false) → p mark ≡ false
    → IsBlank between → begins p (between ++ mark ∷ behind) ≡ false
begins_with_mark p [] mark behind spaces at_mark blank = at_mark
begins_with_mark p (b ∷ bs) mark behind spaces at_mark blank = spaces b (and_parts (is_space b) (list_all is_space bs) blank).0

-- ---- digits

digits_read : (ds rest : List ℕ) → IsDigits ds → begins is_digit rest ≡ false → behind_digits (ds ++ rest) ≡ Some rest
digits_read [] rest is stop = absurd (no_less is.some)
  where
    no_less : 0 < length {A = ℕ} [] → ⊥
    no_less h = omega arith
digits_read (d ∷ ds) rest is stop =
    let both = and_parts (is_digit d) (list_all is_digit ds) is.all_digits in
    cond-true (is_digit d) (Some (past is_digit (ds ++ rest))) None both.0 ∙ ap (λ (r : List ℕ). Some r) (past_here is_digit ds rest both.1 stop)

digits_spelled : (text rest : List ℕ) → behind_digits text ≡ Some rest → (ds : List ℕ) × (text ≡ ds ++ rest) × IsDigits ds
digits_spelled [] rest e = absurd (none_some rest e)
  where
    none_some : (y : List ℕ) → None ≡ Some y → ⊥
    none_some y e = cc
digits_spelled (d ∷ ds) rest e =
    let digit = cond_some (is_digit d) (Some (past is_digit ds)) rest e in
    let same = same_some (past is_digit ds) rest digit.1 in (
      d ∷ front is_digit ds,
      ap (λ (t : List ℕ). d ∷ t) (front_and_past is_digit ds ∙ ap (λ (r : List ℕ). front is_digit ds ++ r) same),
      record { some = omega arith; all_digits = and_from (is_digit d) (list_all is_digit (front is_digit ds)) digit.0 (front_passes is_digit ds) },
    )

-- ---- numbers

no_places : (rest : List ℕ) → begins (λ b. eqb b 46) rest ≡ false → behind_places rest ≡ Some rest
no_places [] stop = refl
no_places (b ∷ bs) stop = cond-false (eqb b 46) (behind_digits bs) (Some (b ∷ bs)) stop

number_read : (number rest : List ℕ) → IsNumber number → begins is_digit rest ≡ false → begins (λ b. eqb b 46) rest ≡ false
    → behind_number (number ++ rest) ≡ Some rest
number_read number rest (inl digits) stop point =
    ap (λ (o : Option (List ℕ)). option_map_or behind_places o None) (digits_read number rest digits stop) ∙ no_places rest point
number_read number rest (inr (whole, places, spelled, some, more)) stop point =
    let cut : number ++ rest ≡ whole ++ (46 ∷ (places ++ rest)) = ap (λ (t : List ℕ). t ++ rest) spelled ∙ append_assoc whole (46 ∷ places) rest in
    ap behind_number cut
    ∙ ap (λ (o : Option (List ℕ)). option_map_or behind_places o None) (digits_read whole (46 ∷ (places ++ rest)) some refl)
    ∙ digits_read places rest more stop

places_spelled : (whole text rest : List ℕ) → IsDigits whole → behind_places text ≡ Some rest → (n : List ℕ) × (whole ++ text ≡ n ++ rest) × IsNumber n
places_spelled whole [] rest digits e = (whole, ap (λ (t : List ℕ). whole ++ t) (same_some [] rest e), inl digits)
places_spelled whole (b ∷ bs) rest digits e =
    elim (cases_Bool (eqb b 46)) [
      | inl point ↦
          let more = digits_spelled bs rest (sym (cond-true (eqb b 46) (behind_digits bs) (Some (b ∷ bs)) point) ∙ e) in (
            whole ++ 46 ∷ more.0,
            ap₂ (λ (c : ℕ) (t : List ℕ). whole ++ c ∷ t) (eqb-true b 46 point) more.1 ∙ sym (append_assoc whole (46 ∷ more.0) rest),
            inr (whole, more.0, refl, digits, more.2),
          )
      | inr other ↦
          let same = same_some (b ∷ bs) rest (sym (cond-false (eqb b 46) (behind_digits bs) (Some (b ∷ bs)) other) ∙ e) in
          (whole, ap (λ (t : List ℕ). whole ++ t) same, inl digits)
    ]

number_spelled : (text rest : List ℕ) → behind_number text ≡ Some rest → (n : List ℕ) × (text ≡ n ++ rest) × IsNumber n
number_spelled text rest e =
    let whole = bind_some (behind_digits text) behind_places rest e in
    let digits = digits_spelled text whole.0 whole.1 in
    let number = places_spelled digits.0 whole.0 rest digits.2 whole.2 in
    (number.0, digits.1 ∙ number.1, number.2)

-- the first byte of a number is a digit
abbrev pub IsDigitFirst : List ℕ → Type 0
IsDigitFirst text = (d : ℕ) × (ds : List ℕ) × (text ≡ d ∷ ds) × (is_digit d ≡ true)

digits_first : (ds : List ℕ) → IsDigits ds → IsDigitFirst ds
digits_first [] is = absurd (no_less is.some)
  where
    no_less : 0 < length {A = ℕ} [] → ⊥
    no_less h = omega arith
digits_first (d ∷ ds) is = (d, ds, refl, (and_parts (is_digit d) (list_all is_digit ds) is.all_digits).0)

pub number_first : (number : List ℕ) → IsNumber number → IsDigitFirst number
number_first number (inl digits) = digits_first number digits
number_first number (inr (whole, places, spelled, some, more)) =
    let first = digits_first whole some in
    (first.0, first.1 ++ 46 ∷ places, spelled ∙ ap (λ (t : List ℕ). t ++ 46 ∷ places) first.2, first.3)

-- ---- marks

mark_read : (mark : ℕ) (behind : List ℕ) → IsBlank behind → is_mark mark (mark ∷ behind) ≡ true
mark_read mark behind blank = and_from (eqb mark mark) (is_blank behind) (eq-eqb mark mark refl) blank

mark_spelled : (mark : ℕ) (text : List ℕ) → is_mark mark text ≡ true → (behind : List ℕ) × (text ≡ mark ∷ behind) × IsBlank behind
mark_spelled mark [] e = absurd (both_ways false refl e)
mark_spelled mark (b ∷ bs) e =
    let both = and_parts (eqb b mark) (is_blank bs) e in
    (bs, ap (λ (c : ℕ). c ∷ bs) (eqb-true b mark both.0), both.1)

number_no_space : (number rest : List ℕ) → IsNumber number → begins is_space (number ++ rest) ≡ false
number_no_space number rest is =
    let first = number_first number is in
    ap (λ (t : List ℕ). begins is_space (t ++ rest)) first.2 ∙ digit_no_space first.0 first.3

pub marked_read : (mark : ℕ) (text : List ℕ) → is_space mark ≡ false → is_digit mark ≡ false → eqb mark 46 ≡ false → IsMarkedNumber mark text
    → is_marked_number mark text ≡ true
marked_read mark text no_space no_digit no_point is =
    let rest = is.between ++ mark ∷ is.behind in
    let at_number : past is_space text ≡ is.number ++ rest =
    ap (past is_space) is.spelled ∙ past_here is_space is.before (is.number ++ rest) is.blank_before (number_no_space is.number rest is.a_number) in
    let at_rest : behind_number (past is_space text) ≡ Some rest =
    ap behind_number at_number
    ∙ number_read is.number rest is.a_number
    (begins_with_mark is_digit is.between mark is.behind space_no_digit no_digit is.blank_between)
    (begins_with_mark (λ b. eqb b 46) is.between mark is.behind space_no_point no_point is.blank_between) in
    let at_mark : past is_space rest ≡ mark ∷ is.behind = past_here is_space is.between (mark ∷ is.behind) is.blank_between no_space in
    ap (λ (o : Option (List ℕ)). option_map_or (λ r. is_mark mark (past is_space r)) o false) at_rest
    ∙ ap (is_mark mark) at_mark ∙ mark_read mark is.behind is.blank_behind

pub marked_spelled : (mark : ℕ) (text : List ℕ) → is_marked_number mark text ≡ true → IsMarkedNumber mark text
marked_spelled mark text e =
    let found = bind_true (behind_number (past is_space text)) (λ r. is_mark mark (past is_space r)) e in
    let number = number_spelled (past is_space text) found.0 found.1 in
    let at_mark = mark_spelled mark (past is_space found.0) found.2 in
    let rest = front_and_past is_space found.0 ∙ ap (λ (r : List ℕ). front is_space found.0 ++ r) at_mark.1 in
    record {
      before = front is_space text;
      number = number.0;
      between = front is_space found.0;
      behind = at_mark.0;
      spelled =
          front_and_past is_space text ∙ ap (λ (t : List ℕ). front is_space text ++ t) (number.1 ∙ ap (λ (r : List ℕ). number.0 ++ r) rest);
      blank_before = front_passes is_space text;
      a_number = number.2;
      blank_between = front_passes is_space found.0;
      blank_behind = at_mark.2;
    }

-- ---- before and behind a step

pub precede_read : (text : List ℕ) → MayPrecede text → may_precede text ≡ true
precede_read text (inl blank) = or_left (is_blank text) (is_marked_number 58 text) blank
precede_read text (inr marked) = or_right (is_blank text) (is_marked_number 58 text) (marked_read 58 text refl refl refl marked)

pub precede_spelled : (text : List ℕ) → may_precede text ≡ true → MayPrecede text
precede_spelled text e =
    elim (or_cases (is_blank text) (is_marked_number 58 text) e) [
      | inl blank ↦ inl blank
      | inr marked ↦ inr (marked_spelled 58 text marked)
    ]

pub follow_read : (text : List ℕ) → MayFollow text → may_follow text ≡ true
follow_read text (inl blank) = ap is_bracketed (nothing_past is_space text blank)
follow_read text (inr (before, rest, spelled, blank, marked)) =
    ap is_bracketed (ap (past is_space) spelled ∙ past_here is_space before (91 ∷ rest) blank refl)
    ∙ and_from (eqb 91 91) (is_marked_number 93 rest) refl (marked_read 93 rest refl refl refl marked)

pub follow_spelled : (text : List ℕ) → may_follow text ≡ true → MayFollow text
follow_spelled text e = by_rest (past is_space text) refl e
  where
    by_rest : (rest : List ℕ) → past is_space text ≡ rest → is_bracketed rest ≡ true → MayFollow text
    by_rest [] is e =
        let whole : text ≡ front is_space text =
        front_and_past is_space text ∙ ap (λ (r : List ℕ). front is_space text ++ r) is ∙ append-nil (front is_space text) in
        inl (ap (list_all is_space) whole ∙ front_passes is_space text)
    by_rest (b ∷ bs) is e =
        let both = and_parts (eqb b 91) (is_marked_number 93 bs) e in
        let whole : text ≡ front is_space text ++ 91 ∷ bs =
        front_and_past is_space text ∙ ap (λ (r : List ℕ). front is_space text ++ r) is
        ∙ ap (λ (c : ℕ). front is_space text ++ c ∷ bs) (eqb-true b 91 both.0) in
        inr (front is_space text, bs, whole, front_passes is_space text, marked_spelled 93 bs both.1)
