-- The words of a box decode to the box.
use Rattle.std.proofs.Common.{◌≡◌, ℕ, zero, suc, ◌+◌, ◌-◌, ◌*◌, ◌/◌, ◌%◌, ◌^◌, ◌<◌, ◌≤◌, ◌≢◌, ◌==◌, Bool, true, false, List, [], ◌∷◌, ◌++◌, map, flat_map, length, get_or, ℤ, pos, negsuc, neg_ℤ, nat_lt, unsigned_abs, if◌then◌else◌, IsTrue, refl, sym, ap, ◌∙◌, subst, arith, length-append, div-add-mod', slice_index}
use Rattle.std.proofs.lemmas.List.{get_or_append_left, get_or-append-add, get_or_default}
use Rattle.std.proofs.lemmas.List.FromFn.{fill_by_all}
use Rattle.std.proofs.lemmas.Bool.{lt-ltb, ltb-true}
use Rattle.num_ends.specs.Decimal.{Decimal, IsDec}
use Rattle.num_ends.specs.Ends.{Interval, is_inhabited, whole_line}
use Rattle.num_ends.specs.declared.ends.End.{End}
use Rattle.num_ends.specs.declared.ends.End.TheVariants.{NegInf, Excl, Incl, PosInf}
use Rattle.box_model.specs.Boxes.{fact_in, fluent_in}
use Rattle.box_model.specs.declared.state_box.May.{May}
use Rattle.box_model.specs.declared.state_box.May.TheVariants.{True, False, Any}
use Rattle.box_model.specs.declared.state_box.StateBox.{StateBox}
use Rattle.box_words.specs.Words.{fact_word, shifted, finite_words, end_words, interval_words, words_of, width_of, may_of, number_of, decimal_of, end_of, fact_at, end_at, interval_at, box_of, IsEndDec, IsEndWords, IsWordable}

may_back : (m : May) → may_of (fact_word m) ≡ m
may_back True = refl
may_back False = refl
may_back Any = refl

below : (b : Bool) (x y : ℤ) → b ≡ true → (if b then x else y) ≡ x
below true x y e = refl
below false x y e = absurd (cc)

above : (b : Bool) (x y : ℤ) → b ≡ false → (if b then x else y) ≡ y
above true x y e = absurd (cc)
above false x y e = refl

not_less : (a m : ℕ) (b : Bool) → b ≡ nat_lt (a + m) a → b ≡ false
not_less a m true e = absurd (let lt = ltb-true (a + m) a (sym e) in omega arith)
not_less a m false e = refl

number_back : (n : ℤ) → unsigned_abs n < 2 ^ 127 → number_of (shifted n) ≡ n
number_back (pos m) h = above (nat_lt (2 ^ 127 + m) (2 ^ 127)) (neg_ℤ (pos (2 ^ 127 - (2 ^ 127 + m)))) (pos (2 ^ 127 + m - 2 ^ 127)) (not_less (2 ^ 127) m (nat_lt (2 ^ 127 + m) (2 ^ 127)) refl)
    ∙ (let e : (170141183460469231731687303715884105728 + m) - 170141183460469231731687303715884105728 ≡ m = omega arith in ap pos e)
number_back (negsuc m) h = let h' : suc m < 170141183460469231731687303715884105728 = h in
    let lt : 170141183460469231731687303715884105728 - suc m < 170141183460469231731687303715884105728 = omega arith in
    let e : 170141183460469231731687303715884105728 - (170141183460469231731687303715884105728 - suc m) ≡ suc m = omega arith in
    below (nat_lt (2 ^ 127 - suc m) (2 ^ 127)) (neg_ℤ (pos (2 ^ 127 - (2 ^ 127 - suc m)))) (pos (2 ^ 127 - suc m - 2 ^ 127)) (lt-ltb (2 ^ 127 - suc m) (2 ^ 127) lt)
    ∙ ap (λ (k : ℕ). neg_ℤ (pos k)) e

decimal_back : (d : Decimal) → IsDec d → decimal_of d.p (shifted d.n / 2 ^ 64) (shifted d.n % 2 ^ 64) ≡ d
decimal_back d h = let e : number_of (shifted d.n / 2 ^ 64 * 2 ^ 64 + shifted d.n % 2 ^ 64) ≡ d.n = ap number_of (div-add-mod' (shifted d.n) (2 ^ 64)) ∙ number_back d.n h.in_range in λ i. record { n = e i; p = d.p }

-- what the four words of an end say, read one by one
abbrev pub said : End → List ℕ → End
said infinite ws = end_of infinite (get_or ws 0 0) (get_or ws 1 0) (get_or ws 2 0) (get_or ws 3 0)

lower_back : (e u : End) → is_inhabited e u ≡ true → IsEndDec e → said NegInf (end_words e) ≡ e
lower_back NegInf u some_value h = refl
lower_back (Excl d) u some_value h = ap Excl (decimal_back d h)
lower_back (Incl d) u some_value h = ap Incl (decimal_back d h)
lower_back PosInf u some_value h = absurd (cc)

upper_back : (e u : End) → is_inhabited e u ≡ true → IsEndDec u → said PosInf (end_words u) ≡ u
upper_back e (Excl d) some_value h = ap Excl (decimal_back d h)
upper_back e (Incl d) some_value h = ap Incl (decimal_back d h)
upper_back e PosInf some_value h = refl
upper_back NegInf NegInf some_value h = absurd (cc)
upper_back (Excl a) NegInf some_value h = absurd (cc)
upper_back (Incl a) NegInf some_value h = absurd (cc)
upper_back PosInf NegInf some_value h = absurd (cc)

pub length_end : (e : End) → length (end_words e) ≡ 4
length_end NegInf = refl
length_end (Excl d) = refl
length_end (Incl d) = refl
length_end PosInf = refl

pub length_interval : (i : Interval) → length (interval_words i) ≡ 8
length_interval i = omega (arith, length-append (end_words i.0) (end_words i.1), length_end i.0, length_end i.1)

length_all : (is : List Interval) → length (flat_map interval_words is) ≡ 8 * length is
length_all [] = refl
length_all (i ∷ is) = omega (arith, length-append (interval_words i) (flat_map interval_words is), length_interval i, length_all is)

length_facts : (ms : List May) → length (map fact_word ms) ≡ length ms
length_facts [] = refl
length_facts (m ∷ ms) = omega (arith, length_facts ms)

pub count : (b : StateBox) → length (words_of b) ≡ width_of (length b.facts) (length b.fluents)
count b = omega (arith, length-append (map fact_word b.facts) (flat_map interval_words b.fluents), length_facts b.facts, length_all b.fluents)

fact_word_at : (ms : List May) (f : ℕ) → f < length ms → get_or (map fact_word ms) f 0 ≡ fact_word (get_or ms f Any)
fact_word_at [] f lt = absurd (omega arith)
fact_word_at (m ∷ ms) zero lt = refl
fact_word_at (m ∷ ms) (suc f) lt = fact_word_at ms f (omega arith)

eighth : (is : List Interval) (x k : ℕ) → x < length is → k < 8 → get_or (flat_map interval_words is) (8 * x + k) 0 ≡ get_or (interval_words (get_or is x whole_line)) k 0
eighth [] x k lt h = absurd (omega arith)
eighth (i ∷ is) zero k lt h = let e : 8 * 0 + k ≡ k = omega arith in ap (λ (n : ℕ). get_or (interval_words i ++ flat_map interval_words is) n 0) e
    ∙ get_or_append_left (interval_words i) (flat_map interval_words is) 0 k (omega (arith, length_interval i))
eighth (i ∷ is) (suc x) k lt h = let e : 8 * suc x + k ≡ length (interval_words i) + (8 * x + k) = omega (arith, length_interval i) in ap (λ (n : ℕ). get_or (interval_words i ++ flat_map interval_words is) n 0) e
    ∙ (get_or-append-add (interval_words i) (flat_map interval_words is) (8 * x + k) 0 ∙ eighth is x k (omega arith) h)

pub eighth_from : (is : List Interval) (place : ℕ) (i : Interval) → place < 8 * length is → i ≡ get_or is (place / 8) i → get_or (interval_words i) (place % 8) 0 ≡ get_or (flat_map interval_words is) place 0
eighth_from is place i lt at = let inside : place / 8 < length is = omega arith in let few : place % 8 < 8 = omega arith in let e : 8 * (place / 8) + place % 8 ≡ place = omega arith in
    ap (λ (j : Interval). get_or (interval_words j) (place % 8) 0) (at ∙ get_or_default is (place / 8) i whole_line inside)
    ∙ (sym (eighth is (place / 8) (place % 8) inside few) ∙ ap (λ (n : ℕ). get_or (flat_map interval_words is) n 0) e)

pub behind_facts : (b : StateBox) (place : ℕ) → length b.facts ≤ place → get_or (flat_map interval_words b.fluents) (place - length b.facts) 0 ≡ get_or (words_of b) place 0
behind_facts b place le = let e : length (map fact_word b.facts) + (place - length b.facts) ≡ place = omega (arith, length_facts b.facts) in
    sym (get_or-append-add (map fact_word b.facts) (flat_map interval_words b.fluents) (place - length b.facts) 0) ∙ ap (λ (n : ℕ). get_or (words_of b) n 0) e

pub fact_here : (b : StateBox) (f : ℕ) → f < length b.facts → get_or (words_of b) f 0 ≡ fact_word (fact_in b f)
fact_here b f lt = get_or_append_left (map fact_word b.facts) (flat_map interval_words b.fluents) 0 f (omega (arith, length_facts b.facts)) ∙ fact_word_at b.facts f lt

pub fluent_here : (b : StateBox) (x k : ℕ) → x < length b.fluents → k < 8 → get_or (words_of b) (length b.facts + 8 * x + k) 0 ≡ get_or (interval_words (fluent_in b x)) k 0
fluent_here b x k lt h = let e : length b.facts + 8 * x + k ≡ length (map fact_word b.facts) + (8 * x + k) = omega (arith, length_facts b.facts) in
    ap (λ (n : ℕ). get_or (words_of b) n 0) e ∙ (get_or-append-add (map fact_word b.facts) (flat_map interval_words b.fluents) (8 * x + k) 0 ∙ eighth b.fluents x k lt h)

lower_here : (i : Interval) (k : ℕ) → k < 4 → get_or (interval_words i) k 0 ≡ get_or (end_words i.0) k 0
lower_here i k h = get_or_append_left (end_words i.0) (end_words i.1) 0 k (omega (arith, length_end i.0))

upper_here : (i : Interval) (k : ℕ) → get_or (interval_words i) (4 + k) 0 ≡ get_or (end_words i.1) k 0
upper_here i k = let e : 4 + k ≡ length (end_words i.0) + k = omega (arith, length_end i.0) in ap (λ (n : ℕ). get_or (interval_words i) n 0) e ∙ get_or-append-add (end_words i.0) (end_words i.1) k 0

-- four words read from a place on are those of an end
four : (infinite : End) (words ws : List ℕ) (place : ℕ) → get_or words place 0 ≡ get_or ws 0 0 → get_or words (place + 1) 0 ≡ get_or ws 1 0 → get_or words (place + 2) 0 ≡ get_or ws 2 0 → get_or words (place + 3) 0 ≡ get_or ws 3 0
    → end_at infinite words place ≡ said infinite ws
four infinite words ws place a b c d = λ i. end_of infinite (a i) (b i) (c i) (d i)

pub lower_words : (b : StateBox) (x k : ℕ) → x < length b.fluents → k < 4 → get_or (words_of b) (length b.facts + 8 * x + k) 0 ≡ get_or (end_words (fluent_in b x).0) k 0
lower_words b x k lt h = fluent_here b x k lt (omega arith) ∙ lower_here (fluent_in b x) k h

pub upper_words : (b : StateBox) (x k : ℕ) → x < length b.fluents → k < 4 → get_or (words_of b) (length b.facts + 8 * x + 4 + k) 0 ≡ get_or (end_words (fluent_in b x).1) k 0
upper_words b x k lt h = let e : length b.facts + 8 * x + 4 + k ≡ length b.facts + 8 * x + (4 + k) = omega arith in
    ap (λ (n : ℕ). get_or (words_of b) n 0) e ∙ (fluent_here b x (4 + k) lt (omega arith) ∙ upper_here (fluent_in b x) k)

pub fact_decodes : (b : StateBox) (f : ℕ) → f < length b.facts → fact_at (words_of b) f ≡ fact_in b f
fact_decodes b f lt = ap may_of (fact_here b f lt) ∙ may_back (fact_in b f)

at_zero : (ws : List ℕ) (n : ℕ) → get_or ws n 0 ≡ get_or ws (n + 0) 0
at_zero ws n = let e : n ≡ n + 0 = omega arith in ap (λ (k : ℕ). get_or ws k 0) e

pub lower_decodes : (b : StateBox) (x : ℕ) → IsWordable b → x < length b.fluents → end_at NegInf (words_of b) (length b.facts + 8 * x) ≡ (fluent_in b x).0
lower_decodes b x h lt = four NegInf (words_of b) (end_words (fluent_in b x).0) (length b.facts + 8 * x) (at_zero (words_of b) (length b.facts + 8 * x) ∙ lower_words b x 0 lt (omega arith)) (lower_words b x 1 lt (omega arith)) (lower_words b x 2 lt (omega arith)) (lower_words b x 3 lt (omega arith))
    ∙ lower_back (fluent_in b x).0 (fluent_in b x).1 (h.inhabited x lt) (h.lower_dec x lt)

pub upper_decodes : (b : StateBox) (x : ℕ) → IsWordable b → x < length b.fluents → end_at PosInf (words_of b) (length b.facts + 8 * x + 4) ≡ (fluent_in b x).1
upper_decodes b x h lt = four PosInf (words_of b) (end_words (fluent_in b x).1) (length b.facts + 8 * x + 4) (at_zero (words_of b) (length b.facts + 8 * x + 4) ∙ upper_words b x 0 lt (omega arith)) (upper_words b x 1 lt (omega arith)) (upper_words b x 2 lt (omega arith)) (upper_words b x 3 lt (omega arith))
    ∙ upper_back (fluent_in b x).0 (fluent_in b x).1 (h.inhabited x lt) (h.upper_dec x lt)

pub fluent_decodes : (b : StateBox) (x : ℕ) → IsWordable b → x < length b.fluents → interval_at (length b.facts) (words_of b) x ≡ fluent_in b x
fluent_decodes b x h lt = λ i. (lower_decodes b x h lt i, upper_decodes b x h lt i)

pub whole : (b : StateBox) → IsWordable b → box_of (length b.facts) (length b.fluents) (words_of b) ≡ b
whole b h = let fs = fill_by_all (fact_at (words_of b)) b.facts (length b.facts) Any refl (λ k lt. sym (fact_decodes b k lt)) in
    let xs = fill_by_all (interval_at (length b.facts) (words_of b)) b.fluents (length b.fluents) whole_line refl (λ k lt. sym (fluent_decodes b k h lt)) in λ i. record { facts = sym fs i; fluents = sym xs i }

-- the words of an end of the code: an infinite one, or those of a decimal
end_is : (e : End) → IsEndDec e → get_or (end_words e) 0 0 ≢ 0 → IsDec (decimal_of (get_or (end_words e) 1 0) (get_or (end_words e) 2 0) (get_or (end_words e) 3 0))
end_is NegInf h some_kind = absurd (some_kind refl)
end_is (Excl d) h some_kind = subst IsDec (sym (decimal_back d h)) h
end_is (Incl d) h some_kind = subst IsDec (sym (decimal_back d h)) h
end_is PosInf h some_kind = absurd (some_kind refl)

same_end : (words ws : List ℕ) (place : ℕ) → get_or words place 0 ≡ get_or ws 0 0 → get_or words (place + 1) 0 ≡ get_or ws 1 0 → get_or words (place + 2) 0 ≡ get_or ws 2 0 → get_or words (place + 3) 0 ≡ get_or ws 3 0
    → (get_or ws 0 0 ≢ 0 → IsDec (decimal_of (get_or ws 1 0) (get_or ws 2 0) (get_or ws 3 0))) → IsEndWords words place
same_end words ws place a b c d h = λ some_kind. subst IsDec (λ i. decimal_of (sym b i) (sym c i) (sym d i)) (h (λ e. some_kind (a ∙ e)))

pub lower_is_end : (b : StateBox) (x : ℕ) → IsWordable b → x < length b.fluents → IsEndWords (words_of b) (length b.facts + 8 * x)
lower_is_end b x h lt = same_end (words_of b) (end_words (fluent_in b x).0) (length b.facts + 8 * x) (at_zero (words_of b) (length b.facts + 8 * x) ∙ lower_words b x 0 lt (omega arith)) (lower_words b x 1 lt (omega arith)) (lower_words b x 2 lt (omega arith)) (lower_words b x 3 lt (omega arith))
    (end_is (fluent_in b x).0 (h.lower_dec x lt))

pub upper_is_end : (b : StateBox) (x : ℕ) → IsWordable b → x < length b.fluents → IsEndWords (words_of b) (length b.facts + 8 * x + 4)
upper_is_end b x h lt = same_end (words_of b) (end_words (fluent_in b x).1) (length b.facts + 8 * x + 4) (at_zero (words_of b) (length b.facts + 8 * x + 4) ∙ upper_words b x 0 lt (omega arith)) (upper_words b x 1 lt (omega arith)) (upper_words b x 2 lt (omega arith)) (upper_words b x 3 lt (omega arith))
    (end_is (fluent_in b x).1 (h.upper_dec x lt))

-- a number below 2^127 stands for a negative one, whose magnitude is the rest; the others are moved down
pub negative_is : (w : ℕ) → w < 2 ^ 127 → number_of w ≡ neg_ℤ (pos (2 ^ 127 - w))
negative_is w lt = below (nat_lt w (2 ^ 127)) (neg_ℤ (pos (2 ^ 127 - w))) (pos (w - 2 ^ 127)) (lt-ltb w (2 ^ 127) lt)

pub positive_is : (w : ℕ) → 2 ^ 127 ≤ w → number_of w ≡ pos (w - 2 ^ 127)
positive_is w le = above (nat_lt w (2 ^ 127)) (neg_ℤ (pos (2 ^ 127 - w))) (pos (w - 2 ^ 127)) (at_least w (2 ^ 127) (nat_lt w (2 ^ 127)) le refl)
  where
    at_least : (w a : ℕ) (b : Bool) → a ≤ w → b ≡ nat_lt w a → b ≡ false
    at_least w a true le e = absurd (let lt = ltb-true w a (sym e) in omega arith)
    at_least w a false le e = refl
