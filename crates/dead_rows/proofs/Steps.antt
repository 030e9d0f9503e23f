-- What one turn of a loop over the words of a row reads.
use Rattle.std.proofs.Common.{◌≡◌, ◌≢◌, ℕ, ◌+◌, Bool, false, List, [], ◌∷◌, ◌++◌, map, get_or, sym, ap, subst, ◌∙◌, arith}
use Rattle.std.proofs.lemmas.List.FromFn.{map-range_with_len_more}
use Rattle.std.specs.List.{range_with_len}
use Rattle.num_ends.specs.Decimal.{Decimal, IsDec}
use Rattle.num_ends.specs.Ends.{Interval, has}
use Rattle.num_ends.specs.declared.ends.End.{End}
use Rattle.box_model.specs.Boxes.{may_be}
use Rattle.box_model.specs.declared.state_box.May.{May}
use Rattle.box_words.specs.Words.{fact_at, may_of, decimal_of, end_of, end_at, interval_at, IsEndWords}
use Rattle.word_rows.specs.declared.view.View.{View}
use Rattle.word_rows.specs.Views.{words_known}

pub read_fact : (v0 v : View) (row f w : ℕ) (m : May) → v ≡ v0 → w ≡ get_or (words_known v row) f 0 → m ≡ may_of w → m ≡ fact_at (words_known v0 row) f
read_fact v0 v row f w m same word may = may ∙ ap may_of (word ∙ ap (λ (x : View). get_or (words_known x row) f 0) same)

pub tested_fact : (v0 v : View) (row f w : ℕ) (m : May) (truth r : Bool) (facts : List Bool) → v ≡ v0 → w ≡ get_or (words_known v row) f 0 → m ≡ may_of w → truth ≡ get_or facts f false → r ≡ may_be m truth
    → may_be (fact_at (words_known v0 row) f) (get_or facts f false) ≡ r
tested_fact v0 v row f w m truth r facts same word may fact test = sym (test ∙ (λ i. may_be (read_fact v0 v row f w m same word may i) (fact i)))

pub tested_value : (v0 v : View) (row facts x : ℕ) (value d : Decimal) (r : Bool) → v ≡ v0 → value ≡ d → r ≡ has (interval_at facts (words_known v row) x) value → has (interval_at facts (words_known v0 row) x) d ≡ r
tested_value v0 v row facts x value d r same is test = sym (test ∙ (λ i. has (interval_at facts (words_known (same i) row) x) (is i)))

pub read_interval : (v0 v : View) (row facts x : ℕ) (r : Interval) → v ≡ v0 → r ≡ interval_at facts (words_known v row) x → r ≡ interval_at facts (words_known v0 row) x
read_interval v0 v row facts x r same read = read ∙ ap (λ (u : View). interval_at facts (words_known u row) x) same

-- one more item of a list that a function fills
pub filled : {A : Type 0} (f : ℕ → A) (items items' : List A) (n : ℕ) (a : A) → items ≡ map f (range_with_len 0 n) → a ≡ f n → items' ≡ items ++ a ∷ [] → items' ≡ map f (range_with_len 0 (n + 1))
filled f items items' n a before is push = push ∙ ((λ i. before i ++ is i ∷ []) ∙ sym (map-range_with_len_more f 0 n n (omega arith)))

-- a word of a row that is read after others
pub read_after : (v0 v : View) (row place w : ℕ) → v ≡ v0 → w ≡ get_or (words_known v row) place 0 → w ≡ get_or (words_known v0 row) place 0
read_after v0 v row place w same word = word ∙ ap (λ (x : View). get_or (words_known x row) place 0) same

-- the words behind the kind of a finite end are a decimal's
pub finite_is_dec : (words : List ℕ) (place kind p high low : ℕ) → IsEndWords words place → kind ≢ 0 → kind ≡ get_or words place 0 → p ≡ get_or words (place + 1) 0 → high ≡ get_or words (place + 2) 0 → low ≡ get_or words (place + 3) 0
    → IsDec (decimal_of p high low)
finite_is_dec words place kind p high low ends finite a b c d = subst IsDec (λ i. decimal_of (sym b i) (sym c i) (sym d i)) (ends (λ e. finite (a ∙ e)))

-- the four words are the end
pub four_words : (infinite : End) (words : List ℕ) (place kind p high low : ℕ) → kind ≡ get_or words place 0 → p ≡ get_or words (place + 1) 0 → high ≡ get_or words (place + 2) 0 → low ≡ get_or words (place + 3) 0
    → end_of infinite kind p high low ≡ end_at infinite words place
four_words infinite words place kind p high low a b c d = λ i. end_of infinite (a i) (b i) (c i) (d i)
