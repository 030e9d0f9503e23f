-- The words of a row: what they give back, and how they are changed.
use Rattle.std.proofs.Common.{◌≡◌, ℕ, ℤ, pos, ◌+◌, ◌-◌, ◌*◌, ◌/◌, ◌%◌, ◌^◌, ◌<◌, ◌==◌, Bool, true, false, List, All, length, ◌++◌, drop, take, set, get_or, replicate, bit_and, bit_or, of_z, to_z, refl, sym, ap, ap₂, ◌∙◌, subst, arith}
use Rattle.std.specs.Int.{bit_at, bit_not, cast_signed, div_ceil, w64, w128}
use Rattle.std.proofs.Math.Seq.{drop-append_seam, take-append_seam}
use Rattle.std.proofs.lemmas.List.{get_or_append_left, get_or-append_right, length-append, length-map, length-replicate, length-set, replicate-append-replicate, set-append_left, set-append_right}
use Rattle.std.proofs.lemmas.List.Elements.{All-replicate, All-set}
use Rattle.std.proofs.lemmas.List.FromFn.{fill_by_all, length-map-range_with_len}
use Rattle.num_ends.specs.Decimal.{InRange}
use Rattle.ground_task.specs.Packed.{bit_of, packed, unpacked}
use Rattle.ground_task.specs.Rows.{high_word, low_word, narrow_word, number_in, number_word_count, number_words, numbers_in, row_in, words_of_row, FitsWords, IsRow, RowValue}
use Rattle.ground_task.proofs.FirstState.{number_kept}
use Rattle.ground_task.proofs.NumberWords.{fits_in_range, length-wide_words, narrow_zeros, number_at_place, numbers_back, set-narrow_words, set-wide_words, wide_zeros}
use Rattle.ground_task.proofs.PackedBits.{bit_of-packed, cleared_words, length-packed, length-unpacked, packed-false, set_words, tested_bit, unpacked-packed, word-lt, written_whole, IsPacked-of}

abbrev row : List Bool → List ℤ → Bool → RowValue
row facts values is_wide = record { facts = facts; values = values; is_wide = is_wide }

-- ---- what words give back

front : (bits : List Bool) (rest : List ℕ) → unpacked (packed bits ++ rest) (length bits) ≡ bits
unfolding unpacked
front bits rest =
    sym (fill_by_all (bit_of (packed bits ++ rest)) bits (length bits) false refl
    (λ n within.
    sym (ap (λ (w : ℕ). bit_at w (63 - n % 64) == 1) (get_or_append_left (packed bits) rest 0 (n / 64) (omega (arith, length-packed bits, word-lt (length bits) n within)))
    ∙ bit_of-packed bits n within)))

back : (bits : List Bool) (rest : List ℕ) → drop (div_ceil (length bits) 64) (packed bits ++ rest) ≡ rest
back bits rest = ap (λ (k : ℕ). drop k (packed bits ++ rest)) (sym (length-packed bits)) ∙ drop-append_seam (packed bits) rest

row_back : (r : RowValue) → All (FitsWords r.is_wide) r.values → row_in (words_of_row r) (length r.facts) (length r.values) r.is_wide ≡ r
row_back r fits =
    ap₂ (λ (facts : List Bool) (values : List ℤ). row facts values r.is_wide) (front r.facts (number_words r.is_wide r.values))
    (ap (λ (ws : List ℕ). numbers_in r.is_wide ws (length r.values)) (back r.facts (number_words r.is_wide r.values))
    ∙ numbers_back r.is_wide r.values fits)

-- words that are those of a row
pub record AreWordsOf (words : List ℕ) (facts values : ℕ) (is_wide : Bool) (r : RowValue) : Type 0 where
  pub words_are : words ≡ words_of_row r
  pub facts_are : facts ≡ length r.facts
  pub values_are : values ≡ length r.values
  pub width_is : is_wide ≡ r.is_wide
  pub each_fits : All (FitsWords r.is_wide) r.values

module _ (words : List ℕ) (facts values : ℕ) (is_wide : Bool) (r : RowValue) where
  length-numbers_in : length (numbers_in is_wide (drop (div_ceil facts 64) words) values) ≡ values
  unfolding numbers_in
  length-numbers_in = length-map-range_with_len (number_in is_wide (drop (div_ceil facts 64) words)) 0 values

  pub words_of : IsRow words facts values is_wide → row_in words facts values is_wide ≡ r → AreWordsOf words facts values is_wide r
  words_of is view =
      record {
        words_are = is.words_are ∙ ap words_of_row view;
        facts_are = sym (length-unpacked words facts) ∙ ap (λ (x : RowValue). length x.facts) view;
        values_are = sym length-numbers_in ∙ ap (λ (x : RowValue). length x.values) view;
        width_is = ap (λ (x : RowValue). x.is_wide) view;
        each_fits = subst (λ (x : RowValue). All (FitsWords x.is_wide) x.values) view is.each_fits;
      }

  pub view_of : AreWordsOf words facts values is_wide r → row_in words facts values is_wide ≡ r
  view_of are =
      ap₂ (λ (ws : List ℕ) (m : ℕ). row_in ws m values is_wide) are.words_are are.facts_are
      ∙ ap₂ (λ (n : ℕ) (b : Bool). row_in (words_of_row r) (length r.facts) n b) are.values_are are.width_is
      ∙ row_back r are.each_fits

  pub is_row : AreWordsOf words facts values is_wide r → IsRow words facts values is_wide
  is_row are =
      record {
        words_are = are.words_are ∙ ap words_of_row (sym (view_of are));
        each_fits = subst (λ (x : RowValue). All (FitsWords x.is_wide) x.values) (sym (view_of are)) are.each_fits;
      }

-- ---- numbers in range

module _ (words : List ℕ) (facts values : ℕ) (is_wide : Bool) (r : RowValue) (are : AreWordsOf words facts values is_wide r) where
  pub value_in_range : (i : ℕ) → i < length r.values → InRange (get_or r.values i (pos 0))
  value_in_range i within = fits_in_range r.is_wide (get_or r.values i (pos 0)) (are.each_fits i (pos 0) within)

  pub value_kept : (i : ℕ) → i < length r.values → to_z w128 (of_z w128 (get_or r.values i (pos 0))) ≡ get_or r.values i (pos 0)
  value_kept i within = number_kept (get_or r.values i (pos 0)) (value_in_range i within)

-- ---- facts

module _ (words : List ℕ) (facts values : ℕ) (is_wide : Bool) (r : RowValue) (are : AreWordsOf words facts values is_wide r) where
  pub length-words : length words ≡ div_ceil (length r.facts) 64 + length (number_words r.is_wide r.values)
  length-words =
      ap length are.words_are ∙ length-append (packed r.facts) (number_words r.is_wide r.values)
      ∙ ap (λ (k : ℕ). k + length (number_words r.is_wide r.values)) (length-packed r.facts)

  pub fact_within : (n : ℕ) → n < length r.facts → n / 64 < length words
  fact_within n within = omega (arith, length-words, word-lt (length r.facts) n within)

  read_front : (n w : ℕ) → n < length r.facts → w ≡ get_or words (n / 64) w → w ≡ get_or (packed r.facts) (n / 64) w
  read_front n w within read =
      read ∙ ap (λ (ws : List ℕ). get_or ws (n / 64) w) are.words_are
      ∙ get_or_append_left (packed r.facts) (number_words r.is_wide r.values) w (n / 64) (omega (arith, length-packed r.facts, word-lt (length r.facts) n within))

  pub tested_fact : (n w : ℕ) → n < length r.facts → w ≡ get_or words (n / 64) w → (bit_and (w / 2 ^ (63 - n % 64)) 1 == 1) ≡ get_or r.facts n false
  tested_fact n w within read =
      tested_bit (packed r.facts) (length r.facts) n w r.facts (IsPacked-of (packed r.facts) (length r.facts) r.facts refl refl) (unpacked-packed r.facts) within (read_front n w within read)

  abbrev with_fact : ℕ → Bool → RowValue
  with_fact n truth = row (set r.facts n truth) r.values r.is_wide

  changed : (n w : ℕ) (truth : Bool) → n < length r.facts → set (packed r.facts) (n / 64) w ≡ packed (set r.facts n truth) → AreWordsOf (set words (n / 64) w) facts values is_wide (with_fact n truth)
  changed n w truth within front_is =
      record {
        words_are = ap (λ (ws : List ℕ). set ws (n / 64) w) are.words_are
            ∙ set-append_left (packed r.facts) (number_words r.is_wide r.values) (n / 64) w (omega (arith, length-packed r.facts, word-lt (length r.facts) n within))
            ∙ ap (λ (ws : List ℕ). ws ++ number_words r.is_wide r.values) front_is;
        facts_are = are.facts_are ∙ sym (length-set r.facts n truth);
        values_are = are.values_are;
        width_is = are.width_is;
        each_fits = are.each_fits;
      }

  pub fact_added : (n w : ℕ) → n < length r.facts → w ≡ get_or words (n / 64) w → AreWordsOf (set words (n / 64) (bit_or w (1 * 2 ^ (63 - n % 64) % 2 ^ 64))) facts values is_wide (with_fact n true)
  fact_added n w within read =
      changed n (bit_or w (1 * 2 ^ (63 - n % 64) % 2 ^ 64)) true within
      (set_words (packed r.facts) (length r.facts) n w r.facts (IsPacked-of (packed r.facts) (length r.facts) r.facts refl refl) (unpacked-packed r.facts) within (read_front n w within read))

  pub fact_deleted : (n w : ℕ) → n < length r.facts → w ≡ get_or words (n / 64) w → AreWordsOf (set words (n / 64) (bit_and w (bit_not w64 (1 * 2 ^ (63 - n % 64) % 2 ^ 64)))) facts values is_wide (with_fact n false)
  fact_deleted n w within read =
      changed n (bit_and w (bit_not w64 (1 * 2 ^ (63 - n % 64) % 2 ^ 64))) false within
      (cleared_words (packed r.facts) (length r.facts) n w r.facts (IsPacked-of (packed r.facts) (length r.facts) r.facts refl refl) (unpacked-packed r.facts) within (read_front n w within read))

-- ---- numbers

module _ (words : List ℕ) (facts values : ℕ) (is_wide : Bool) (r : RowValue) (are : AreWordsOf words facts values is_wide r) (k : ℕ) (k_is : k ≡ div_ceil (length r.facts) 64) where
  total : length words ≡ k + length (number_words r.is_wide r.values)
  total = length-words words facts values is_wide r are ∙ ap (λ (m : ℕ). m + length (number_words r.is_wide r.values)) (sym k_is)

  front_words : length (packed r.facts) ≡ k
  front_words = length-packed r.facts ∙ sym k_is

  word_behind : (j at : ℕ) → at ≡ k + j → get_or words at 0 ≡ get_or (number_words r.is_wide r.values) j 0
  word_behind j at at_is =
      ap (λ (ws : List ℕ). get_or ws at 0) are.words_are
      ∙ get_or-append_right (packed r.facts) (number_words r.is_wide r.values) k at 0 front_words (omega (arith, at_is))
      ∙ ap (λ (i : ℕ). get_or (number_words r.is_wide r.values) i 0) (place j at at_is)
    where
      place : (j at : ℕ) → at ≡ k + j → at - k ≡ j
      place j at e = omega (arith, e)

  set_behind : (j at w : ℕ) (ws : List ℕ) → at ≡ k + j → ws ≡ packed r.facts ++ number_words r.is_wide r.values → set ws at w ≡ packed r.facts ++ set (number_words r.is_wide r.values) j w
  set_behind j at w ws at_is is =
      ap (λ (us : List ℕ). set us at w) is
      ∙ set-append_right (packed r.facts) (number_words r.is_wide r.values) k at w front_words (omega (arith, at_is))
      ∙ ap (λ (i : ℕ). packed r.facts ++ set (number_words r.is_wide r.values) i w) (place j at at_is)
    where
      place : (j at : ℕ) → at ≡ k + j → at - k ≡ j
      place j at e = omega (arith, e)

  abbrev with_value : ℕ → ℤ → RowValue
  with_value i n = row r.facts (set r.values i n) r.is_wide

  module _ (narrow : is_wide ≡ false) where
    is_narrow_row : r.is_wide ≡ false
    is_narrow_row = sym are.width_is ∙ narrow

    narrow_count : length (number_words r.is_wide r.values) ≡ length r.values
    narrow_count = ap (λ (b : Bool). length (number_words b r.values)) is_narrow_row ∙ length-map r.values narrow_word

    pub narrow_within : (i : ℕ) → i < length r.values → k + i < length words
    narrow_within i within = omega (arith, total, narrow_count, within)

    pub narrow_read : (i : ℕ) → i < length r.values → cast_signed w64 (get_or words (k + i) 0) ≡ get_or r.values i (pos 0)
    narrow_read i within =
        ap (cast_signed w64) (word_behind i (k + i) refl)
        ∙ sym (ap (λ (b : Bool). number_in b (number_words r.is_wide r.values) i) is_narrow_row)
        ∙ number_at_place r.is_wide r.values i are.each_fits within

    pub narrow_written : (i : ℕ) (n : ℤ) → FitsWords r.is_wide n → AreWordsOf (set words (k + i) (narrow_word n)) facts values is_wide (with_value i n)
    narrow_written i n fits =
        record {
          words_are = set_behind i (k + i) (narrow_word n) words refl are.words_are
              ∙ ap (λ (ws : List ℕ). packed r.facts ++ ws) (subst (λ (b : Bool). set (number_words b r.values) i (narrow_word n) ≡ number_words b (set r.values i n)) (sym is_narrow_row) (set-narrow_words r.values i n));
          facts_are = are.facts_are;
          values_are = are.values_are ∙ sym (length-set r.values i n);
          width_is = are.width_is;
          each_fits = All-set (FitsWords r.is_wide) r.values i n fits are.each_fits;
        }

  module _ (wide : is_wide ≡ true) where
    is_wide_row : r.is_wide ≡ true
    is_wide_row = sym are.width_is ∙ wide

    wide_count : length (number_words r.is_wide r.values) ≡ 2 * length r.values
    wide_count = ap (λ (b : Bool). length (number_words b r.values)) is_wide_row ∙ length-wide_words r.values

    pub wide_within : (i : ℕ) → i < length r.values → k + 2 * i + 1 < length words
    wide_within i within = omega (arith, total, wide_count, within)

    after_high : (i : ℕ) → k + 2 * i + 1 ≡ k + (2 * i + 1)
    after_high i = omega arith

    pub wide_read : (i : ℕ) → i < length r.values → cast_signed w128 (get_or words (k + 2 * i) 0 * 2 ^ 64 + get_or words (k + 2 * i + 1) 0) ≡ get_or r.values i (pos 0)
    wide_read i within =
        ap₂ (λ (a b : ℕ). cast_signed w128 (a * 2 ^ 64 + b))
        (word_behind (2 * i) (k + 2 * i) refl)
        (word_behind (2 * i + 1) (k + 2 * i + 1) (after_high i))
        ∙ sym (ap (λ (b : Bool). number_in b (number_words r.is_wide r.values) i) is_wide_row)
        ∙ number_at_place r.is_wide r.values i are.each_fits within

    both_set : (xs ys : List ℕ) (i : ℕ) (a b : ℕ) → length xs ≡ k → set (set (xs ++ ys) (k + 2 * i) a) (k + 2 * i + 1) b ≡ xs ++ set (set ys (2 * i) a) (2 * i + 1) b
    both_set xs ys i a b len =
        ap (λ (ws : List ℕ). set ws (k + 2 * i + 1) b) (set-append_right xs ys k (k + 2 * i) a len (omega arith))
        ∙ set-append_right xs (set ys (k + 2 * i - k) a) k (k + 2 * i + 1) b len (omega arith)
        ∙ ap₂ (λ (p q : ℕ). xs ++ set (set ys p a) q b) (first i) (second i)
      where
        first : (i : ℕ) → k + 2 * i - k ≡ 2 * i
        first i = omega arith

        second : (i : ℕ) → k + 2 * i + 1 - k ≡ 2 * i + 1
        second i = omega arith

    pub wide_written : (i : ℕ) (n : ℤ) → FitsWords r.is_wide n → AreWordsOf (set (set words (k + 2 * i) (high_word n)) (k + 2 * i + 1) (low_word n)) facts values is_wide (with_value i n)
    wide_written i n fits =
        record {
          words_are = ap (λ (ws : List ℕ). set (set ws (k + 2 * i) (high_word n)) (k + 2 * i + 1) (low_word n)) are.words_are
              ∙ both_set (packed r.facts) (number_words r.is_wide r.values) i (high_word n) (low_word n) front_words
              ∙ ap (λ (ws : List ℕ). packed r.facts ++ ws) (subst (λ (b : Bool). set (set (number_words b r.values) (2 * i) (high_word n)) (2 * i + 1) (low_word n) ≡ number_words b (set r.values i n)) (sym is_wide_row) (set-wide_words r.values i n));
          facts_are = are.facts_are;
          values_are = are.values_are ∙ sym (length-set r.values i n);
          width_is = are.width_is;
          each_fits = All-set (FitsWords r.is_wide) r.values i n fits are.each_fits;
        }

-- ---- rows of zeros

zero_fits : (is_wide : Bool) → FitsWords is_wide (pos 0)
zero_fits false = omega arith
zero_fits true = omega arith

zero_numbers : (is_wide : Bool) (count : ℕ) → number_words is_wide (replicate count (pos 0)) ≡ replicate (number_word_count is_wide count) 0
zero_numbers false count = narrow_zeros count
zero_numbers true count = wide_zeros count

pub zero_words : (words : List ℕ) (facts values : ℕ) (is_wide : Bool) → words ≡ replicate (div_ceil facts 64 + number_word_count is_wide values) 0 → AreWordsOf words facts values is_wide (row (replicate facts false) (replicate values (pos 0)) is_wide)
zero_words words facts values is_wide are =
    record {
      words_are = are ∙ sym (replicate-append-replicate (div_ceil facts 64) (number_word_count is_wide values) 0)
          ∙ ap₂ (λ (xs ys : List ℕ). xs ++ ys) (sym (packed-false facts)) (sym (zero_numbers is_wide values));
      facts_are = sym (length-replicate facts false);
      values_are = sym (length-replicate values (pos 0));
      width_is = refl;
      each_fits = All-replicate (FitsWords is_wide) values (pos 0) (zero_fits is_wide);
    }

-- ---- rows of one size

length-number_words : (is_wide : Bool) (ns : List ℤ) → length (number_words is_wide ns) ≡ number_word_count is_wide (length ns)
length-number_words false ns = length-map ns narrow_word
length-number_words true ns = length-wide_words ns

-- rows of as many facts and numbers of one width have as many words
pub as_many_row_words : (ws vs : List ℕ) (m n i j : ℕ) (b d : Bool) (r s : RowValue) → AreWordsOf ws m i b r → AreWordsOf vs n j d s → length r.facts ≡ length s.facts → length r.values ≡ length s.values → r.is_wide ≡ s.is_wide → length ws ≡ length vs
as_many_row_words ws vs m n i j b d r s one other facts values width =
    length-words ws m i b r one
    ∙ ap₂ (λ (x y : ℕ). div_ceil x 64 + y) facts (length-number_words r.is_wide r.values ∙ ap₂ number_word_count width values ∙ sym (length-number_words s.is_wide s.values))
    ∙ sym (length-words vs n j d s other)

-- the words of another row, put in the place of as many
pub taken_over : (items vs taken ns : List ℕ) (m n i j count : ℕ) (b d : Bool) (r s : RowValue) → AreWordsOf items m i b r → AreWordsOf vs n j d s → length r.facts ≡ length s.facts → length r.values ≡ length s.values → r.is_wide ≡ s.is_wide → count ≡ length items → ns ≡ vs → taken ≡ take count (ns ++ drop (length ns) items) → AreWordsOf taken m i b s
taken_over items vs taken ns m n i j count b d r s one other facts values width len is made =
    let many : length ns ≡ length items = ap length is ∙ sym (as_many_row_words items vs m n i j b d r s one other facts values width) in
    record {
      words_are = made ∙ written_whole ns items count many len ∙ is ∙ other.words_are;
      facts_are = one.facts_are ∙ facts;
      values_are = one.values_are ∙ values;
      width_is = one.width_is ∙ width;
      each_fits = other.each_fits;
    }

-- ---- the words of the facts

module _ (words : List ℕ) (facts values : ℕ) (is_wide : Bool) (r : RowValue) (are : AreWordsOf words facts values is_wide r) where
  pub taken_front : (k : ℕ) (ws : List ℕ) → k ≡ div_ceil facts 64 → ws ≡ words → take k ws ≡ packed r.facts
  taken_front k ws k_is is =
      ap₂ take (k_is ∙ ap (λ (n : ℕ). div_ceil n 64) are.facts_are ∙ sym (length-packed r.facts)) (is ∙ are.words_are)
      ∙ take-append_seam (packed r.facts) (number_words r.is_wide r.values)

  pub front_within : (k : ℕ) (ws : List ℕ) → k ≡ div_ceil facts 64 → ws ≡ words → k ≡ length (take k ws)
  front_within k ws k_is is =
      k_is ∙ ap (λ (n : ℕ). div_ceil n 64) are.facts_are ∙ sym (length-packed r.facts) ∙ ap length (sym (taken_front k ws k_is is))

-- ---- equal rows

pub same_facts_count : (ws vs : List ℕ) (m n i j : ℕ) (b d : Bool) (r s : RowValue) → AreWordsOf ws m i b r → AreWordsOf vs n j d s → r ≡ s → m ≡ n
same_facts_count ws vs m n i j b d r s one other e = one.facts_are ∙ ap (λ (x : RowValue). length x.facts) e ∙ sym other.facts_are

pub same_values_count : (ws vs : List ℕ) (m n i j : ℕ) (b d : Bool) (r s : RowValue) → AreWordsOf ws m i b r → AreWordsOf vs n j d s → r ≡ s → i ≡ j
same_values_count ws vs m n i j b d r s one other e = one.values_are ∙ ap (λ (x : RowValue). length x.values) e ∙ sym other.values_are
