-- Numbers and their words.
use Rattle.std.proofs.Common.{◌≡◌, ℕ, ℤ, pos, ◌+◌, ◌*◌, ◌/◌, ◌%◌, ◌^◌, ◌<◌, unsigned_abs, ◌&&◌, not, zero, suc, inl, inr, Bool, true, false, List, [], ◌∷◌, All, length, map, set, get_or, replicate, refl, sym, ap, ap₂, ◌∙◌, arith}
use Rattle.std.specs.Int.{cast_signed, cast_unsigned, w64, w128}
use Rattle.std.specs.List.{list_all}
use Rattle.std.proofs.lemmas.Bool.{cases_Bool}
use Rattle.std.proofs.lemmas.Bool.Decides.{nat_tests}
use Rattle.std.proofs.lemmas.List.Elements.{All-head, All-tail}
use Rattle.std.proofs.lemmas.List.Folds.{list_all_at}
use Rattle.num_ends.specs.Decimal.{InRange}
use Rattle.std.proofs.lemmas.Int.{to_z-of_z, fits_signed_from_abs}
use Rattle.std.proofs.lemmas.List.{get_or-map, map-set}
use Rattle.std.proofs.lemmas.List.FromFn.{fill_by_all}
use Rattle.ground_task.specs.Rows.{high_word, is_narrow, low_word, narrow_word, needs_two_words, number_in, number_words, numbers_in, wide_words, FitsWords}

narrow_back : (n : ℤ) → unsigned_abs n < 2 ^ 63 → cast_signed w64 (narrow_word n) ≡ n
narrow_back n fits = to_z-of_z w64 n (fits_signed_from_abs w64 n fits)

two_words : (a : ℕ) → a / 2 ^ 64 * 2 ^ 64 + a % 2 ^ 64 ≡ a
two_words a = omega arith

wide_back : (n : ℤ) → unsigned_abs n < 2 ^ 127 → cast_signed w128 (high_word n * 2 ^ 64 + low_word n) ≡ n
wide_back n fits =
    ap (cast_signed w128) (two_words (cast_unsigned w128 n)) ∙ to_z-of_z w128 n (fits_signed_from_abs w128 n fits)

two_more : (i : ℕ) → 2 * suc i ≡ suc (suc (2 * i))
two_more i = omega arith

three_more : (i : ℕ) → 2 * suc i + 1 ≡ suc (suc (2 * i + 1))
three_more i = omega arith

high_at : (ns : List ℤ) (i : ℕ) → i < length ns → get_or (wide_words ns) (2 * i) 0 ≡ high_word (get_or ns i (pos 0))
unfolding wide_words
high_at [] i within = absurd (omega arith)
high_at (n ∷ ns) zero within = refl
high_at (n ∷ ns) (suc i) within = ap (λ (k : ℕ). get_or (wide_words (n ∷ ns)) k 0) (two_more i) ∙ high_at ns i (omega arith)

low_at : (ns : List ℤ) (i : ℕ) → i < length ns → get_or (wide_words ns) (2 * i + 1) 0 ≡ low_word (get_or ns i (pos 0))
unfolding wide_words
low_at [] i within = absurd (omega arith)
low_at (n ∷ ns) zero within = refl
low_at (n ∷ ns) (suc i) within = ap (λ (k : ℕ). get_or (wide_words (n ∷ ns)) k 0) (three_more i) ∙ low_at ns i (omega arith)

pub length-wide_words : (ns : List ℤ) → length (wide_words ns) ≡ 2 * length ns
unfolding wide_words
length-wide_words [] = refl
length-wide_words (n ∷ ns) = ap (λ (k : ℕ). suc (suc k)) (length-wide_words ns) ∙ sym (two_more (length ns))

pub set-wide_words : (ns : List ℤ) (i : ℕ) (n : ℤ) → set (set (wide_words ns) (2 * i) (high_word n)) (2 * i + 1) (low_word n) ≡ wide_words (set ns i n)
unfolding wide_words
set-wide_words [] i n = refl
set-wide_words (m ∷ ns) zero n = refl
set-wide_words (m ∷ ns) (suc i) n =
    ap₂ (λ (j k : ℕ). set (set (wide_words (m ∷ ns)) j (high_word n)) k (low_word n)) (two_more i) (three_more i)
    ∙ ap (λ (ws : List ℕ). high_word m ∷ low_word m ∷ ws) (set-wide_words ns i n)

pub set-narrow_words : (ns : List ℤ) (i : ℕ) (n : ℤ) → set (map narrow_word ns) i (narrow_word n) ≡ map narrow_word (set ns i n)
set-narrow_words ns i n = sym (map-set narrow_word ns i n)

-- the number at a place of the words of numbers
pub number_at_place : (is_wide : Bool) (ns : List ℤ) (i : ℕ) → All (FitsWords is_wide) ns → i < length ns → number_in is_wide (number_words is_wide ns) i ≡ get_or ns i (pos 0)
number_at_place false ns i fits within =
    ap (cast_signed w64) (get_or-map narrow_word ns i (pos 0) 0 within) ∙ narrow_back (get_or ns i (pos 0)) (fits i (pos 0) within)
number_at_place true ns i fits within =
    ap₂ (λ (high low : ℕ). cast_signed w128 (high * 2 ^ 64 + low)) (high_at ns i within) (low_at ns i within)
    ∙ wide_back (get_or ns i (pos 0)) (fits i (pos 0) within)

-- the numbers of their words are these
pub numbers_back : (is_wide : Bool) (ns : List ℤ) → All (FitsWords is_wide) ns → numbers_in is_wide (number_words is_wide ns) (length ns) ≡ ns
unfolding numbers_in
numbers_back is_wide ns fits =
    sym (fill_by_all (number_in is_wide (number_words is_wide ns)) ns (length ns) (pos 0) refl (λ i within. sym (number_at_place is_wide ns i fits within)))

-- ---- numbers 0

pub narrow_zeros : (count : ℕ) → map narrow_word (replicate count (pos 0)) ≡ replicate count 0
narrow_zeros zero = refl
narrow_zeros (suc count) = ap (λ (ws : List ℕ). 0 ∷ ws) (narrow_zeros count)

pub wide_zeros : (count : ℕ) → wide_words (replicate count (pos 0)) ≡ replicate (2 * count) 0
unfolding wide_words
wide_zeros zero = refl
wide_zeros (suc count) =
    ap (λ (ws : List ℕ). 0 ∷ 0 ∷ ws) (wide_zeros count) ∙ ap (λ (k : ℕ). replicate k 0) (sym (two_more count))

-- ---- the width that numbers need

pub fits_in_range : (is_wide : Bool) (n : ℤ) → FitsWords is_wide n → InRange n
fits_in_range false n fits = omega (arith, fits)
fits_in_range true n fits = fits

narrow_tested : (n : ℤ) → is_narrow n ≡ true → unsigned_abs n < 2 ^ 63
narrow_tested n h = grind (arith, nat_tests)

pub narrow_test : (n : ℤ) → unsigned_abs n < 2 ^ 63 → is_narrow n ≡ true
narrow_test n h = grind (arith, nat_tests)

each_narrow : (ns : List ℤ) → list_all is_narrow ns ≡ true → All (FitsWords false) ns
each_narrow ns h = λ i d below.
    elim (cases_Bool (is_narrow (get_or ns i d))) [
      | inl narrow ↦ narrow_tested (get_or ns i d) narrow
      | inr wide ↦ let bad : true ≡ false = sym h ∙ list_all_at is_narrow ns i d below wide in cc
    ]

-- numbers in range have room in as many words as they need
pub fits_needed : (ns : List ℤ) → All InRange ns → All (FitsWords (needs_two_words ns)) ns
fits_needed ns all =
    elim (cases_Bool (list_all is_narrow ns)) [
      | inl h ↦ rw h (each_narrow ns h)
      | inr h ↦ rw h all
    ]

-- numbers that have room in one word each need no more
pub narrow_needs : (ns : List ℤ) → All (FitsWords false) ns → needs_two_words ns ≡ false
narrow_needs [] all = refl
narrow_needs (n ∷ ns) all =
    ap₂ (λ (a b : Bool). not (a && b)) (narrow_test n (All-head (FitsWords false) n ns all)) (each (list_all is_narrow ns) (narrow_needs ns (All-tail (FitsWords false) n ns all)))
  where
    each : (b : Bool) → not b ≡ false → b ≡ true
    each true h = refl
    each false h = cc

pub least_narrow : (is_wide : Bool) (ns : List ℤ) → false ≡ is_wide → All (FitsWords is_wide) ns → is_wide ≡ needs_two_words ns
least_narrow false ns narrow fits = sym (narrow_needs ns fits)
least_narrow true ns narrow fits = cc

-- numbers that have room in the words of one width have it in those of another, if need be
pub fits_converted : (from to : Bool) (ns : List ℤ) → All (FitsWords from) ns → (to ≡ false → All (FitsWords false) ns) → All (FitsWords to) ns
fits_converted from false ns fits narrow = narrow refl
fits_converted from true ns fits narrow = λ i d below. fits_in_range from (get_or ns i d) (fits i d below)
