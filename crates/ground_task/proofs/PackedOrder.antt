-- Packed bits are ordered as the bits are: by their words, and then by how many they are.
use Rattle.std.proofs.Common.{◌≡◌, ℕ, ◌+◌, ◌-◌, ◌*◌, ◌^◌, ◌<◌, zero, suc, Bool, true, false, List, [], ◌∷◌, length, drop, inl, inr, refl, sym, ap, ◌∙◌, arith}
use Rattle.std.specs.declared.cmp.Ordering.{Ordering}
use Rattle.std.specs.declared.cmp.Ordering.TheVariants.{Less, Equal, Greater}
use Rattle.std.specs.Cmp.{nat_cmp_is}
use Rattle.std.specs.Cmp.Lexicographic.{slice_cmp}
use Rattle.std.specs.Int.{div_ceil}
use Rattle.std.specs.Ordering.{nat_cmp, bool_cmp, ordering_then}
use Rattle.std.proofs.lemmas.Bool.{cases_order}
use Rattle.std.proofs.lemmas.List.{length-drop}
use Rattle.ground_task.specs.Packed.{bit_number, leading_number, packed, words_of}
use Rattle.ground_task.proofs.PackedBits.{leading_number-lt}

pub cmp_less : (a b : ℕ) → a < b → nat_cmp a b ≡ Less
cmp_less a b below = sym (nat_cmp_is a b Less below)

pub cmp_greater : (a b : ℕ) → b < a → nat_cmp a b ≡ Greater
cmp_greater a b above = sym (nat_cmp_is a b Greater above)

pub cmp_equal : (a b : ℕ) → a ≡ b → nat_cmp a b ≡ Equal
cmp_equal a b same = sym (nat_cmp_is a b Equal same)

-- numbers that stand as two others do are ordered alike
pub cmp_alike : (a b c d : ℕ) → (a < b → c < d) → (a ≡ b → c ≡ d) → (b < a → d < c) → nat_cmp a b ≡ nat_cmp c d
cmp_alike a b c d less same more =
    elim (cases_order a b) [
      | inl e ↦ cmp_equal a b e ∙ sym (cmp_equal c d (same e))
      | inr (inl below) ↦ cmp_less a b below ∙ sym (cmp_less c d (less below))
      | inr (inr above) ↦ cmp_greater a b above ∙ sym (cmp_greater c d (more above))
    ]

cmp-suc : (a b : ℕ) → nat_cmp a b ≡ nat_cmp (suc a) (suc b)
cmp-suc a b = cmp_alike a b (suc a) (suc b) (λ h. omega arith) (λ h. omega arith) (λ h. omega arith)

cmp-add : (k a b : ℕ) → nat_cmp (k + a) (k + b) ≡ nat_cmp a b
cmp-add k a b = cmp_alike (k + a) (k + b) a b (λ h. omega arith) (λ h. omega arith) (λ h. omega arith)

then_assoc : (a b c : Ordering) → ordering_then (ordering_then a b) c ≡ ordering_then a (ordering_then b c)
then_assoc Less b c = refl
then_assoc Equal b c = refl
then_assoc Greater b c = refl

-- the order of the lengths adds nothing behind that of the lists
then_lengths : (xs ys : List Bool) → slice_cmp bool_cmp xs ys ≡ ordering_then (slice_cmp bool_cmp xs ys) (nat_cmp (length xs) (length ys))
then_lengths [] [] = refl
then_lengths [] (y ∷ ys) = refl
then_lengths (x ∷ xs) [] = refl
then_lengths (true ∷ xs) (true ∷ ys) =
    then_lengths xs ys ∙ ap (ordering_then (slice_cmp bool_cmp xs ys)) (cmp-suc (length xs) (length ys))
then_lengths (true ∷ xs) (false ∷ ys) = refl
then_lengths (false ∷ xs) (true ∷ ys) = refl
then_lengths (false ∷ xs) (false ∷ ys) =
    then_lengths xs ys ∙ ap (ordering_then (slice_cmp bool_cmp xs ys)) (cmp-suc (length xs) (length ys))

-- nothing is less than something, whatever zeros come first
nothing_less : (word n : ℕ) (ys : List Bool) → Less ≡ ordering_then (nat_cmp 0 word) (ordering_then (slice_cmp bool_cmp [] ys) (nat_cmp 0 (suc n)))
nothing_less zero n [] = sym (cmp_less 0 (suc n) (omega arith))
nothing_less zero n (y ∷ ys) = refl
nothing_less (suc word) n ys =
    ap (λ (o : Ordering). ordering_then o (ordering_then (slice_cmp bool_cmp [] ys) (nat_cmp 0 (suc n)))) (sym (cmp_less 0 (suc word) (omega arith)))

something_greater : (word n : ℕ) (xs : List Bool) → Greater ≡ ordering_then (nat_cmp word 0) (ordering_then (slice_cmp bool_cmp xs []) (nat_cmp (suc n) 0))
something_greater zero n [] = sym (cmp_greater (suc n) 0 (omega arith))
something_greater zero n (x ∷ xs) = refl
something_greater (suc word) n xs =
    ap (λ (o : Ordering). ordering_then o (ordering_then (slice_cmp bool_cmp xs []) (nat_cmp (suc n) 0))) (sym (cmp_greater (suc word) 0 (omega arith)))

same_first : (high k : ℕ) (xs ys : List Bool) → slice_cmp bool_cmp xs ys ≡ ordering_then (nat_cmp (leading_number k xs) (leading_number k ys)) (ordering_then (slice_cmp bool_cmp (drop k xs) (drop k ys)) (nat_cmp (length xs) (length ys))) → slice_cmp bool_cmp xs ys ≡ ordering_then (nat_cmp (high + leading_number k xs) (high + leading_number k ys)) (ordering_then (slice_cmp bool_cmp (drop k xs) (drop k ys)) (nat_cmp (suc (length xs)) (suc (length ys))))
same_first high k xs ys behind =
    behind
    ∙ ap (λ (o : Ordering). ordering_then o (ordering_then (slice_cmp bool_cmp (drop k xs) (drop k ys)) (nat_cmp (length xs) (length ys)))) (sym (cmp-add high (leading_number k xs) (leading_number k ys)))
    ∙ ap (λ (o : Ordering). ordering_then (nat_cmp (high + leading_number k xs) (high + leading_number k ys)) (ordering_then (slice_cmp bool_cmp (drop k xs) (drop k ys)) o)) (cmp-suc (length xs) (length ys))

-- two lists by their first word, then the rest, and then how long they are
by_word : (k : ℕ) (xs ys : List Bool) → slice_cmp bool_cmp xs ys ≡ ordering_then (nat_cmp (leading_number k xs) (leading_number k ys)) (ordering_then (slice_cmp bool_cmp (drop k xs) (drop k ys)) (nat_cmp (length xs) (length ys)))
unfolding leading_number
by_word zero xs ys = then_lengths xs ys
by_word (suc k) [] [] = refl
by_word (suc k) [] (y ∷ ys) = nothing_less (bit_number y * 2 ^ k + leading_number k ys) (length ys) (drop k ys)
by_word (suc k) (x ∷ xs) [] = something_greater (bit_number x * 2 ^ k + leading_number k xs) (length xs) (drop k xs)
by_word (suc k) (true ∷ xs) (true ∷ ys) = same_first (1 * 2 ^ k) k xs ys (by_word k xs ys)
by_word (suc k) (true ∷ xs) (false ∷ ys) =
    ap (λ (o : Ordering). ordering_then o (ordering_then (slice_cmp bool_cmp (drop k xs) (drop k ys)) (nat_cmp (suc (length xs)) (suc (length ys)))))
    (sym (cmp_greater (1 * 2 ^ k + leading_number k xs) (0 * 2 ^ k + leading_number k ys) (omega (arith, leading_number-lt k ys))))
by_word (suc k) (false ∷ xs) (true ∷ ys) =
    ap (λ (o : Ordering). ordering_then o (ordering_then (slice_cmp bool_cmp (drop k xs) (drop k ys)) (nat_cmp (suc (length xs)) (suc (length ys)))))
    (sym (cmp_less (0 * 2 ^ k + leading_number k xs) (1 * 2 ^ k + leading_number k ys) (omega (arith, leading_number-lt k xs))))
by_word (suc k) (false ∷ xs) (false ∷ ys) = same_first (0 * 2 ^ k) k xs ys (by_word k xs ys)

-- how many there are behind a word is ordered as how many there are, or alike
cmp-behind : (k m n : ℕ) → ordering_then (nat_cmp (m - k) (n - k)) (nat_cmp m n) ≡ nat_cmp m n
cmp-behind k m n =
    elim (cases_order (m - k) (n - k)) [
      | inl same ↦ ap (λ (o : Ordering). ordering_then o (nat_cmp m n)) (cmp_equal (m - k) (n - k) same)
      | inr (inl below) ↦
          ap (λ (o : Ordering). ordering_then o (nat_cmp m n)) (cmp_less (m - k) (n - k) below) ∙ sym (cmp_less m n (omega arith))
      | inr (inr above) ↦
          ap (λ (o : Ordering). ordering_then o (nat_cmp m n)) (cmp_greater (m - k) (n - k) above) ∙ sym (cmp_greater m n (omega arith))
    ]

-- behind the order of the rests, the order of all the lengths decides as that of the rests' lengths
then_behind : (rests : Ordering) (xs ys : List Bool) → ordering_then (ordering_then rests (nat_cmp (length (drop 64 xs)) (length (drop 64 ys)))) (nat_cmp (length xs) (length ys)) ≡ ordering_then rests (nat_cmp (length xs) (length ys))
then_behind rests xs ys =
    then_assoc rests (nat_cmp (length (drop 64 xs)) (length (drop 64 ys))) (nat_cmp (length xs) (length ys))
    ∙ ap (λ (m : ℕ). ordering_then rests (ordering_then (nat_cmp m (length (drop 64 ys))) (nat_cmp (length xs) (length ys)))) (length-drop 64 xs)
    ∙ ap (λ (n : ℕ). ordering_then rests (ordering_then (nat_cmp (length xs - 64) n) (nat_cmp (length xs) (length ys)))) (length-drop 64 ys)
    ∙ ap (ordering_then rests) (cmp-behind 64 (length xs) (length ys))

-- one word fewer for the bits behind the first word
rest_words : (count : ℕ) (bits : List Bool) → suc count ≡ div_ceil (length bits) 64 → count ≡ div_ceil (length (drop 64 bits)) 64
rest_words count bits is = rw (length-drop 64 bits) (omega arith)

by_words : (m n : ℕ) (xs ys : List Bool) → m ≡ div_ceil (length xs) 64 → n ≡ div_ceil (length ys) 64 → slice_cmp bool_cmp xs ys ≡ ordering_then (slice_cmp nat_cmp (words_of m xs) (words_of n ys)) (nat_cmp (length xs) (length ys))
unfolding words_of
by_words zero zero [] [] a b = refl
by_words zero zero [] (y ∷ ys) a b = absurd (omega arith)
by_words zero zero (x ∷ xs) ys a b = absurd (omega arith)
by_words zero (suc n) [] [] a b = absurd (omega arith)
by_words zero (suc n) [] (y ∷ ys) a b = refl
by_words zero (suc n) (x ∷ xs) ys a b = absurd (omega arith)
by_words (suc m) zero [] ys a b = absurd (omega arith)
by_words (suc m) zero (x ∷ xs) [] a b = refl
by_words (suc m) zero (x ∷ xs) (y ∷ ys) a b = absurd (omega arith)
by_words (suc m) (suc n) xs ys a b =
    let first : Ordering = nat_cmp (leading_number 64 xs) (leading_number 64 ys) in
    let rests : Ordering = slice_cmp nat_cmp (words_of m (drop 64 xs)) (words_of n (drop 64 ys)) in
    let lengths : Ordering = nat_cmp (length xs) (length ys) in
    by_word 64 xs ys
    ∙ ap (λ (o : Ordering). ordering_then first (ordering_then o lengths)) (by_words m n (drop 64 xs) (drop 64 ys) (rest_words m xs a) (rest_words n ys b))
    ∙ ap (ordering_then first) (then_behind rests xs ys)
    ∙ sym (then_assoc first rests lengths)

pub cmp-packed : (xs ys : List Bool) → slice_cmp bool_cmp xs ys ≡ ordering_then (slice_cmp nat_cmp (packed xs) (packed ys)) (nat_cmp (length xs) (length ys))
unfolding packed
cmp-packed xs ys = by_words (div_ceil (length xs) 64) (div_ceil (length ys) 64) xs ys refl refl
