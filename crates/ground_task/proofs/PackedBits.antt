-- What packed bits give back, and how a bit of them is set.
use Rattle.std.proofs.Common.{◌≡◌, ◌≢◌, ℕ, ◌+◌, ◌-◌, ◌*◌, ◌/◌, ◌%◌, ◌^◌, ◌<◌, ◌==◌, zero, suc, Bool, true, false, List, [], ◌∷◌, length, ◌++◌, drop, take, get_or, set, replicate, bit_and, bit_or, inl, inr, refl, sym, ap, ◌∙◌, arith}
use Rattle.std.specs.Int.{bit_at, bit_not, div_ceil, w64}
use Rattle.std.proofs.lemmas.List.{ext_get_or, get_or-drop, get_or-set_same, get_or-set_other, length-set, length-replicate, get_or_read, drop-replicate, drop-drop, drop_all, take_all, append-nil}
use Rattle.std.proofs.lemmas.List.FromFn.{fill_by_all, length-map-range_with_len}
use Rattle.std.proofs.lemmas.Bool.{cases_eq}
use Rattle.std.proofs.lemmas.Grind.{get_or-set_at}
use Rattle.std.proofs.lemmas.Nat.{or_lt, pow_pos}
use Rattle.std.specs.Int.Bits.{and_le_l}
use Rattle.std.proofs.Math.Nat.{pow-suc}
use Rattle.std.proofs.lemmas.Nat.Bits.{bit_at-zero, bit_at_cat_low, bit_at_cat_high, bit_at_clear_same, bit_at_clear_other, bit_at_set_same, bit_at_set_other, same_from_bits_below, shr_and_one}
use Rattle.ground_task.specs.Packed.{bit_number, bit_of, leading_number, packed, unpacked, words_of, IsPacked}

-- the number of so many bits fits into them
pub leading_number-lt : (k : ℕ) (bits : List Bool) → leading_number k bits < 2 ^ k
unfolding leading_number
leading_number-lt zero bits = omega arith
leading_number-lt (suc k) [] = pow_pos (suc k)
leading_number-lt (suc k) (true ∷ bits) = omega (arith, leading_number-lt k bits, pow-suc 2 k)
leading_number-lt (suc k) (false ∷ bits) = omega (arith, leading_number-lt k bits, pow-suc 2 k)

the_difference : (k : ℕ) → k - k ≡ 0
the_difference k = omega arith

bit_at-bit_number : (bit : Bool) → bit_at (bit_number bit) 0 ≡ bit_number bit
bit_at-bit_number true = refl
bit_at-bit_number false = refl

-- each of its bits is the truth value at that place from above
bit_at-leading_number : (k : ℕ) (bits : List Bool) (j i : ℕ) → i + j + 1 ≡ k → bit_at (leading_number k bits) i ≡ bit_number (get_or bits j false)
unfolding leading_number
bit_at-leading_number zero bits j i e = absurd (omega arith)
bit_at-leading_number (suc k) [] j i e = bit_at-zero i
bit_at-leading_number (suc k) (bit ∷ bits) zero i e =
    let here : i ≡ k = omega arith in
    rw here (bit_at_cat_high (bit_number bit) k (leading_number k bits) k (leading_number-lt k bits) (omega arith)
    ∙ ap (λ (j : ℕ). bit_at (bit_number bit) j) (the_difference k)
    ∙ bit_at-bit_number bit)
bit_at-leading_number (suc k) (bit ∷ bits) (suc j) i e =
    bit_at_cat_low (bit_number bit) k (leading_number k bits) i (omega arith)
    ∙ bit_at-leading_number k bits j i (omega arith)

times-suc : (k : ℕ) → 64 + 64 * k ≡ 64 * suc k
times-suc k = omega arith

length-words_of : (count : ℕ) (bits : List Bool) → length (words_of count bits) ≡ count
unfolding words_of
length-words_of zero bits = refl
length-words_of (suc count) bits = ap suc (length-words_of count (drop 64 bits))

pub length-packed : (bits : List Bool) → length (packed bits) ≡ div_ceil (length bits) 64
unfolding packed
length-packed bits = length-words_of (div_ceil (length bits) 64) bits

get_or-words_of : (count k : ℕ) (bits : List Bool) → k < count → get_or (words_of count bits) k 0 ≡ leading_number 64 (drop (64 * k) bits)
unfolding words_of
get_or-words_of zero k bits within = absurd (omega arith)
get_or-words_of (suc count) zero bits within = refl
get_or-words_of (suc count) (suc k) bits within =
    get_or-words_of count k (drop 64 bits) (omega arith)
    ∙ ap (leading_number 64) (drop-drop (64 * k) 64 bits ∙ ap (λ (n : ℕ). drop n bits) (times-suc k))

-- the word of this number in packed bits
get_or-packed : (bits : List Bool) (k : ℕ) → k < div_ceil (length bits) 64 → get_or (packed bits) k 0 ≡ leading_number 64 (drop (64 * k) bits)
unfolding packed
get_or-packed bits k within = get_or-words_of (div_ceil (length bits) 64) k bits within

packed-lt : (bits : List Bool) (k : ℕ) → k < div_ceil (length bits) 64 → get_or (packed bits) k 0 < 2 ^ 64
packed-lt bits k within = rw (get_or-packed bits k within) (leading_number-lt 64 (drop (64 * k) bits))

-- a bit of a word of packed bits
bit_at-packed : (bits : List Bool) (k j i : ℕ) → k < div_ceil (length bits) 64 → i + j + 1 ≡ 64 → bit_at (get_or (packed bits) k 0) i ≡ bit_number (get_or bits (64 * k + j) false)
bit_at-packed bits k j i within e =
    ap (λ (w : ℕ). bit_at w i) (get_or-packed bits k within)
    ∙ bit_at-leading_number 64 (drop (64 * k) bits) j i e
    ∙ ap bit_number (get_or-drop (64 * k) bits j false)

pub word-lt : (count n : ℕ) → n < count → n / 64 < div_ceil count 64
word-lt count n within = omega arith

is_one-bit_number : (bit : Bool) → (bit_number bit == 1) ≡ bit
is_one-bit_number true = refl
is_one-bit_number false = refl

pub bit_of-packed : (bits : List Bool) (n : ℕ) → n < length bits → bit_of (packed bits) n ≡ get_or bits n false
bit_of-packed bits n within =
    let place : 64 * (n / 64) + n % 64 ≡ n = omega arith in
    ap (λ (b : ℕ). b == 1) (bit_at-packed bits (n / 64) (n % 64) (63 - n % 64) (word-lt (length bits) n within) (omega arith))
    ∙ is_one-bit_number (get_or bits (64 * (n / 64) + n % 64) false)
    ∙ ap (λ (m : ℕ). get_or bits m false) place

pub unpacked-packed : (bits : List Bool) → unpacked (packed bits) (length bits) ≡ bits
unfolding unpacked
unpacked-packed bits =
    sym (fill_by_all (bit_of (packed bits)) bits (length bits) false refl (λ n within. sym (bit_of-packed bits n within)))

pub length-unpacked : (words : List ℕ) (count : ℕ) → length (unpacked words count) ≡ count
unfolding unpacked
length-unpacked words count = length-map-range_with_len (bit_of words) 0 count

pub is_packed_of : (words : List ℕ) (count : ℕ) (bits : List Bool) → IsPacked words count → unpacked words count ≡ bits → words ≡ packed bits
is_packed_of words count bits is view = is.is_packed ∙ ap packed view

pub count_of : (words : List ℕ) (count : ℕ) (bits : List Bool) → unpacked words count ≡ bits → count ≡ length bits
count_of words count bits view = sym (length-unpacked words count) ∙ ap length view

pub word_within : (words : List ℕ) (count n : ℕ) (bits : List Bool) → IsPacked words count → unpacked words count ≡ bits → n < length bits → n / 64 < length words
word_within words count n bits is view within =
    let words_are : words ≡ packed bits = is_packed_of words count bits is view in
    omega (arith, ap length words_are, length-packed bits, word-lt (length bits) n within)

-- the test of a bit of a word
pub tested_bit : (words : List ℕ) (count n w : ℕ) (bits : List Bool) → IsPacked words count → unpacked words count ≡ bits → n < length bits → w ≡ get_or words (n / 64) w → (bit_and (w / 2 ^ (63 - n % 64)) 1 == 1) ≡ get_or bits n false
tested_bit words count n w bits is view within read =
    let word : w ≡ get_or words (n / 64) 0 = get_or_read words (n / 64) w (word_within words count n bits is view within) read 0 in
    ap (λ (b : ℕ). b == 1) (shr_and_one w (63 - n % 64))
    ∙ ap (λ (v : ℕ). bit_at v (63 - n % 64) == 1) word
    ∙ ap (λ (ws : List ℕ). bit_of ws n) (is_packed_of words count bits is view)
    ∙ bit_of-packed bits n within

leading_number-false : (k n : ℕ) → leading_number k (replicate n false) ≡ 0
unfolding leading_number
leading_number-false zero n = refl
leading_number-false (suc k) zero = refl
leading_number-false (suc k) (suc n) = omega (arith, leading_number-false k n)

words_of-false : (count n : ℕ) → words_of count (replicate n false) ≡ replicate count 0
unfolding words_of
words_of-false zero n = refl
words_of-false (suc count) n =
    ap (λ (w : ℕ). w ∷ words_of count (drop 64 (replicate n false))) (leading_number-false 64 n)
    ∙ ap (λ (bits : List Bool). 0 ∷ words_of count bits) (drop-replicate 64 n false)
    ∙ ap (λ (ws : List ℕ). 0 ∷ ws) (words_of-false count (n - 64))

-- bits that are all 0 are packed into words 0
pub packed-false : (n : ℕ) → packed (replicate n false) ≡ replicate (div_ceil n 64) 0
unfolding packed
packed-false n =
    ap (λ (m : ℕ). words_of (div_ceil m 64) (replicate n false)) (length-replicate n false)
    ∙ words_of-false (div_ceil n 64) n

-- the bits of words that pack these bits are these
pub unpacked_of : (words : List ℕ) (count : ℕ) (bits : List Bool) → words ≡ packed bits → count ≡ length bits → unpacked words count ≡ bits
unpacked_of words count bits are as_many =
    ap (λ (ws : List ℕ). unpacked ws count) are
    ∙ ap (λ (n : ℕ). unpacked (packed bits) n) as_many
    ∙ unpacked-packed bits

pub IsPacked-of : (words : List ℕ) (count : ℕ) (bits : List Bool) → words ≡ packed bits → count ≡ length bits → IsPacked words count
IsPacked-of words count bits are as_many =
    record { is_packed = are ∙ sym (ap packed (unpacked_of words count bits are as_many)) }

-- a word after a bit is set
abbrev set_bit : ℕ → ℕ → ℕ
set_bit word n = bit_or word (1 * 2 ^ (63 - n % 64) % 2 ^ 64)

set_bit-lt : (word n : ℕ) → word < 2 ^ 64 → set_bit word n < 2 ^ 64
set_bit-lt word n fits = or_lt 64 word (1 * 2 ^ (63 - n % 64) % 2 ^ 64) fits (omega arith)

-- a word after a bit is cleared
abbrev clear_bit : ℕ → ℕ → ℕ
clear_bit word n = bit_and word (bit_not w64 (1 * 2 ^ (63 - n % 64) % 2 ^ 64))

clear_bit-lt : (word n : ℕ) → word < 2 ^ 64 → clear_bit word n < 2 ^ 64
clear_bit-lt word n fits = omega (arith, and_le_l word (bit_not w64 (1 * 2 ^ (63 - n % 64) % 2 ^ 64)))

-- a change of the bit of one number to a truth value
module _ (truth : Bool) (changed : ℕ → ℕ → ℕ) (small : (word n : ℕ) → word < 2 ^ 64 → changed word n < 2 ^ 64) (here : (word n : ℕ) → bit_at (changed word n) (63 - n % 64) ≡ bit_number truth) (there : (word n i : ℕ) → i < 64 → i ≢ 63 - n % 64 → bit_at (changed word n) i ≡ bit_at word i) where
  -- the bits of a word of the one list, with this truth value at a place, are those of the word of the other
  bit_at-changed_word : (bits : List Bool) (n j i : ℕ) → n < length bits → i + j + 1 ≡ 64 → bit_at (changed (get_or (packed bits) (n / 64) 0) n) i ≡ bit_number (get_or (set bits n truth) (64 * (n / 64) + j) false)
  bit_at-changed_word bits n j i within e =
      elim (cases_eq i (63 - n % 64)) [
        | inl same ↦
            let place : 64 * (n / 64) + j ≡ n = omega arith in
            rw (same, place, get_or-set_same bits n truth false within) (here (get_or (packed bits) (n / 64) 0) n)
        | inr other ↦
            let elsewhere : 64 * (n / 64) + j ≢ n = λ h. other (omega arith) in
            there (get_or (packed bits) (n / 64) 0) n i (omega arith) other
            ∙ bit_at-packed bits (n / 64) j i (word-lt (length bits) n within) e
            ∙ ap bit_number (sym (get_or-set_other bits n (64 * (n / 64) + j) truth false elsewhere))
      ]

  -- each word after the change
  word-changed : (bits : List Bool) (n k : ℕ) → n < length bits → k < div_ceil (length bits) 64 → get_or (set (packed bits) (n / 64) (changed (get_or (packed bits) (n / 64) 0) n)) k 0 ≡ get_or (packed (set bits n truth)) k 0
  word-changed bits n k within k_within =
      let n_within : n / 64 < div_ceil (length bits) 64 = word-lt (length bits) n within in
      let as_many : length (set bits n truth) ≡ length bits = length-set bits n truth in
      let set_within : k < div_ceil (length (set bits n truth)) 64 = rw as_many k_within in
      let bits_after : (j i : ℕ) → i + j + 1 ≡ 64 → bit_at (get_or (packed (set bits n truth)) k 0) i ≡ bit_number (get_or (set bits n truth) (64 * k + j) false) = λ j i. bit_at-packed (set bits n truth) k j i set_within in
      elim (cases_eq k (n / 64)) [
        | inl same ↦
            let at = get_or-set_at (packed bits) (n / 64) k (changed (get_or (packed bits) (n / 64) 0) n) 0 same (omega (arith, length-packed bits)) in
            at
            ∙ same_from_bits_below 64 _ _ (small _ n (packed-lt bits (n / 64) n_within)) (packed-lt (set bits n truth) k set_within)
            (λ i below. bit_at-changed_word bits n (63 - i) i within (omega arith)
            ∙ ap (λ (m : ℕ). bit_number (get_or (set bits n truth) (64 * m + (63 - i)) false)) (sym same)
            ∙ sym (bits_after (63 - i) i (omega arith)))
        | inr other ↦
            get_or-set_other (packed bits) (n / 64) k (changed (get_or (packed bits) (n / 64) 0) n) 0 other
            ∙ same_from_bits_below 64 _ _ (packed-lt bits k k_within) (packed-lt (set bits n truth) k set_within)
            (λ i below.
            let elsewhere : 64 * k + (63 - i) ≢ n = λ h. other (omega arith) in
            bit_at-packed bits k (63 - i) i k_within (omega arith)
            ∙ ap bit_number (sym (get_or-set_other bits n (64 * k + (63 - i)) truth false elsewhere))
            ∙ sym (bits_after (63 - i) i (omega arith)))
      ]

  -- changing a bit of packed bits packs the list with that truth value
  packed-changed : (bits : List Bool) (n : ℕ) → n < length bits → set (packed bits) (n / 64) (changed (get_or (packed bits) (n / 64) 0) n) ≡ packed (set bits n truth)
  packed-changed bits n within =
      let as_many : length (set (packed bits) (n / 64) (changed (get_or (packed bits) (n / 64) 0) n)) ≡ div_ceil (length bits) 64 = length-set (packed bits) (n / 64) _ ∙ length-packed bits in
      let others : length (packed (set bits n truth)) ≡ div_ceil (length bits) 64 = length-packed (set bits n truth) ∙ ap (λ (m : ℕ). div_ceil m 64) (length-set bits n truth) in
      ext_get_or 0 _ _ (as_many ∙ sym others) (λ k k_within. word-changed bits n k within (omega (arith, as_many)))

  -- the words after the change
  changed_words : (words : List ℕ) (count n w : ℕ) (bits : List Bool) → IsPacked words count → unpacked words count ≡ bits → n < length bits → w ≡ get_or words (n / 64) w → set words (n / 64) (changed w n) ≡ packed (set bits n truth)
  changed_words words count n w bits is view within read =
      let word : w ≡ get_or words (n / 64) 0 = get_or_read words (n / 64) w (word_within words count n bits is view within) read 0 in
      ap (λ (v : ℕ). set words (n / 64) (changed v n)) word
      ∙ ap (λ (ws : List ℕ). set ws (n / 64) (changed (get_or ws (n / 64) 0) n)) (is_packed_of words count bits is view)
      ∙ packed-changed bits n within

place-lt : (n : ℕ) → 63 - n % 64 < 64
place-lt n = omega arith

-- the words after a bit is set
pub set_words : (words : List ℕ) (count n w : ℕ) (bits : List Bool) → IsPacked words count → unpacked words count ≡ bits → n < length bits → w ≡ get_or words (n / 64) w → set words (n / 64) (bit_or w (1 * 2 ^ (63 - n % 64) % 2 ^ 64)) ≡ packed (set bits n true)
set_words =
    changed_words true set_bit set_bit-lt (λ word n. bit_at_set_same w64 word (63 - n % 64) (place-lt n))
    (λ word n i fits other. bit_at_set_other w64 word (63 - n % 64) (place-lt n) i other)

-- the words after a bit is cleared
pub cleared_words : (words : List ℕ) (count n w : ℕ) (bits : List Bool) → IsPacked words count → unpacked words count ≡ bits → n < length bits → w ≡ get_or words (n / 64) w → set words (n / 64) (bit_and w (bit_not w64 (1 * 2 ^ (63 - n % 64) % 2 ^ 64))) ≡ packed (set bits n false)
cleared_words =
    changed_words false clear_bit clear_bit-lt (λ word n. bit_at_clear_same w64 word (63 - n % 64) (place-lt n))
    (λ word n i fits other. bit_at_clear_other w64 word (63 - n % 64) (place-lt n) i fits other)

-- words written over as many words are what is there afterwards
pub written_whole : (ns items : List ℕ) (n : ℕ) → length ns ≡ length items → n ≡ length items → take n (ns ++ drop (length ns) items) ≡ ns
written_whole ns items n same count =
    ap (λ (rest : List ℕ). take n (ns ++ rest)) (drop_all (length ns) items (omega (arith, same)))
    ∙ ap (take n) (append-nil ns)
    ∙ take_all n ns (omega (arith, same, count))
