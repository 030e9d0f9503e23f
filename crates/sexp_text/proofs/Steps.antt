-- How the reading of a text goes on at one byte.
use Rattle.std.proofs.Common.{◌-◌, add-zero, one-add, subst, inl, inr, ◌≡◌, ℕ, suc, ◌+◌, ◌<◌, ◌≤◌, Bool, true, false, cond, eqb, List, [], ◌∷◌, length, get_or, take, drop, map, sym, ap, ◌∙◌, add-one, arith}
use Rattle.std.proofs.lemmas.Bool.{cond-true, cond-false, eq-eqb, ne_eqb, cases_Bool}
use Rattle.std.proofs.lemmas.Bool.Decides.{nat_tests}
use Rattle.std.proofs.lemmas.List.{drop_more, drop_all, drop-drop}
use Rattle.std.specs.Prelude.{slice_range}
use Rattle.num_ends.specs.Names.{folded}
use Rattle.sexp_text.specs.Pieces.{Opening, Closing, Leaf, is_word_byte}
use Rattle.sexp_text.specs.Reading.{Item, Says, Bad, is_gap_byte, comment_after, begins_word, word_len, with_word, items_from, items_at}

-- the items from a byte on that is a blank or stands in a comment
pub gap_step : (text : List ℕ) (comment : Bool) (at : ℕ) → at < length text → is_gap_byte comment (get_or text at 0) ≡ true
    → items_from comment at (drop at text) ≡ items_from (comment_after comment (get_or text at 0)) (at + 1) (drop (at + 1) text)
unfolding items_from
gap_step text comment at lt gap =
    ap (items_from comment at) (drop_more text at 0 lt) ∙ cond-true _ _ _ gap ∙ ap (λ (k : ℕ). items_from (comment_after comment (get_or text at 0)) k (drop (at + 1) text)) (sym (add-one at))

pub nothing_left : (text : List ℕ) (comment : Bool) (at to : ℕ) → length text ≤ at → items_from comment to (drop at text) ≡ []
unfolding items_from
nothing_left text comment at to le = ap (items_from comment to) (drop_all at text le)

-- the items from a byte on that begins a token
from_byte : (text : List ℕ) (at : ℕ) → at < length text → is_gap_byte false (get_or text at 0) ≡ false
    → items_at text at
    ≡ cond (eqb (get_or text at 0) 40) (Says Opening at (at + 1) ∷ items_at text (at + 1))
    (cond (eqb (get_or text at 0) 41) (Says Closing at (at + 1) ∷ items_at text (at + 1))
    (cond (is_word_byte (get_or text at 0)) (with_word at (get_or text at 0 ∷ drop (at + 1) text) (items_at text (at + 1)))
    (Bad at ∷ [])))
unfolding items_from
from_byte text at lt gap =
    ap (items_from false at) (drop_more text at 0 lt) ∙ cond-false _ _ _ gap
    ∙ ap (λ (k : ℕ). cond (eqb (get_or text at 0) 40) (Says Opening at k ∷ items_from false k (drop (at + 1) text))
    (cond (eqb (get_or text at 0) 41) (Says Closing at k ∷ items_from false k (drop (at + 1) text))
    (cond (is_word_byte (get_or text at 0)) (with_word at (get_or text at 0 ∷ drop (at + 1) text) (items_from false k (drop (at + 1) text)))
    (Bad at ∷ [])))) (sym (add-one at))

pub opening_step : (text : List ℕ) (at : ℕ) → at < length text → is_gap_byte false (get_or text at 0) ≡ false → get_or text at 0 ≡ 40
    → items_at text at ≡ Says Opening at (at + 1) ∷ items_at text (at + 1)
opening_step text at lt gap is = from_byte text at lt gap ∙ cond-true _ _ _ (eq-eqb _ _ is)

pub closing_step : (text : List ℕ) (at : ℕ) → at < length text → is_gap_byte false (get_or text at 0) ≡ false → get_or text at 0 ≡ 41
    → items_at text at ≡ Says Closing at (at + 1) ∷ items_at text (at + 1)
closing_step text at lt gap is =
    let other : eqb (get_or text at 0) 40 ≡ false = ne_eqb _ _ (omega arith) in
    from_byte text at lt gap ∙ cond-false _ _ _ other ∙ cond-true _ _ _ (eq-eqb _ _ is)

pub bad_step : (text : List ℕ) (at : ℕ) → at < length text → is_gap_byte false (get_or text at 0) ≡ false
    → (get_or text at 0 ≡ 40 → ⊥) → (get_or text at 0 ≡ 41 → ⊥) → is_word_byte (get_or text at 0) ≡ false → items_at text at ≡ Bad at ∷ []
bad_step text at lt gap no_opening no_closing no_word =
    from_byte text at lt gap ∙ cond-false _ _ _ (ne_eqb _ _ no_opening) ∙ cond-false _ _ _ (ne_eqb _ _ no_closing) ∙ cond-false _ _ _ no_word

-- a byte of a word is no other thing
pub word_byte_alone : (b : ℕ) → is_word_byte b ≡ true → (is_gap_byte false b ≡ false) × (eqb b 40 ≡ false) × (eqb b 41 ≡ false)
word_byte_alone b is = (grind (arith, nat_tests), grind (arith, nat_tests), grind (arith, nat_tests))

pub word_byte_items : (at b : ℕ) (bs : List ℕ) → is_word_byte b ≡ true → items_from false at (b ∷ bs) ≡ with_word at (b ∷ bs) (items_from false (suc at) bs)
unfolding items_from
word_byte_items at b bs is =
    let alone = word_byte_alone b is in
    cond-false _ _ _ alone.0 ∙ cond-false _ _ _ alone.1 ∙ cond-false _ _ _ alone.2 ∙ cond-true _ _ _ is

-- what follows the first byte of a word, behind the whole of it
behind_word : (at : ℕ) (bs : List ℕ) → cond (begins_word bs) (drop 1 (items_from false (suc at) bs)) (items_from false (suc at) bs)
    ≡ items_from false (suc at + word_len bs) (drop (word_len bs) bs)
behind_word at [] = ap (λ (k : ℕ). items_from false k []) (sym (add-zero (suc at)))
behind_word at (c ∷ cs) =
    elim (cases_Bool (is_word_byte c)) [
      | inl is ↦
          let len : word_len (c ∷ cs) ≡ suc (word_len cs) = cond-true _ _ _ is ∙ one-add (word_len cs) in
          let place : suc (suc at) + word_len cs ≡ suc at + suc (word_len cs) = omega arith in
          cond-true _ _ _ is ∙ ap (drop 1) (word_byte_items (suc at) c cs is) ∙ behind_word (suc at) cs
          ∙ ap (λ (k : ℕ). items_from false k (drop (word_len cs) cs)) place
          ∙ ap (λ (n : ℕ). items_from false (suc at + n) (drop n (c ∷ cs))) (sym len)
      | inr other ↦
          let len : word_len (c ∷ cs) ≡ 0 = cond-false _ _ _ other in
          cond-false _ _ _ other ∙ ap (λ (k : ℕ). items_from false k (c ∷ cs)) (sym (add-zero (suc at)))
          ∙ ap (λ (n : ℕ). items_from false (suc at + n) (drop n (c ∷ cs))) (sym len)
    ]

-- the word at the front of a text, and the items behind it
pub word_front : (at b : ℕ) (bs : List ℕ) → is_word_byte b ≡ true
    → items_from false at (b ∷ bs)
    ≡ Says (Leaf (map folded (take (word_len (b ∷ bs)) (b ∷ bs)))) at (at + word_len (b ∷ bs))
    ∷ items_from false (at + word_len (b ∷ bs)) (drop (word_len (b ∷ bs)) (b ∷ bs))
word_front at b bs is =
    let len : word_len (b ∷ bs) ≡ suc (word_len bs) = cond-true _ _ _ is ∙ one-add (word_len bs) in
    let place : suc at + word_len bs ≡ at + suc (word_len bs) = omega arith in
    let behind = behind_word at bs ∙ ap (λ (k : ℕ). items_from false k (drop (word_len bs) bs)) place
    ∙ ap (λ (n : ℕ). items_from false (at + n) (drop n (b ∷ bs))) (sym len) in
    word_byte_items at b bs is
    ∙ ap (λ (items : List Item). Says (Leaf (map folded (take (word_len (b ∷ bs)) (b ∷ bs)))) at (at + word_len (b ∷ bs)) ∷ items) behind

pub word_step : (text : List ℕ) (at to : ℕ) → at < length text → is_word_byte (get_or text at 0) ≡ true → to ≡ at + word_len (drop at text)
    → items_at text at ≡ Says (Leaf (map folded (slice_range text at to))) at to ∷ items_at text to
word_step text at to lt is end =
    let cells = drop_more text at 0 lt in
    let front = subst (λ (t : List ℕ). items_from false at t ≡ Says (Leaf (map folded (take (word_len t) t))) at (at + word_len t) ∷ items_from false (at + word_len t) (drop (word_len t) t))
    (sym cells) (word_front at (get_or text at 0) (drop (at + 1) text) is) in
    let len : word_len (drop at text) ≡ to - at = omega arith in
    let rest : drop (word_len (drop at text)) (drop at text) ≡ drop to text = drop-drop (word_len (drop at text)) at text ∙ ap (λ (k : ℕ). drop k text) (sym end) in
    front ∙ ap (λ (k : ℕ). Says (Leaf (map folded (take (word_len (drop at text)) (drop at text)))) at k ∷ items_from false k (drop (word_len (drop at text)) (drop at text))) (sym end)
    ∙ ap (λ (t : List ℕ). Says (Leaf (map folded (take (word_len (drop at text)) (drop at text)))) at to ∷ items_from false to t) rest
    ∙ ap (λ (n : ℕ). Says (Leaf (map folded (take n (drop at text)))) at to ∷ items_at text to) len

-- a word has a byte
pub word_has_byte : (text : List ℕ) (at : ℕ) → at < length text → is_word_byte (get_or text at 0) ≡ true → 0 < word_len (drop at text)
word_has_byte text at lt is =
    let len : word_len (drop at text) ≡ 1 + word_len (drop (at + 1) text) = ap word_len (drop_more text at 0 lt) ∙ cond-true _ _ _ is in
    omega arith
