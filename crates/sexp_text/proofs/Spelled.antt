-- The reading of a text gives the items of its pieces, and reads each text that has any.
use Rattle.std.proofs.Common.{◌≡◌, ℕ, suc, ◌+◌, Bool, true, false, not, cond, eqb, ◌⊎◌, List, [], ◌∷◌, ◌++◌, length, take, drop, map, Option, Some, None, refl, sym, ap, subst, ◌∙◌, inl, inr, add-one, one-add, add-zero, arith}
use Rattle.std.specs.List.{flat_map, filter_map, list_all}
use Rattle.std.specs.Option.{option_map}
use Rattle.std.proofs.lemmas.Bool.{cond-true, cond-false, eqb-true, cases_Bool, and_parts, and_from, or_from}
use Rattle.std.proofs.lemmas.Bool.Decides.{nat_tests}
use Rattle.std.proofs.lemmas.Option.{same_Some}
use Rattle.std.proofs.lemmas.List.{take_at, drop_at}
use Rattle.num_ends.specs.Names.{folded}
use Rattle.sexp_text.specs.Pieces.{Token, Opening, Closing, Leaf, Piece, Blank, Comment, Open, Close, Word, bytes_of, is_piece, may_follow, is_split, is_blank_byte, is_word_byte, IsTextOf, token_of, SpellsTokens}
use Rattle.sexp_text.specs.Reading.{Item, Says, Bad, is_gap_byte, comment_after, begins_word, word_len, items_from, items_at, items_of_pieces, tokens_said}
use Rattle.sexp_text.proofs.Steps.{word_front, word_byte_items}

-- the pieces behind a piece may stand there
abbrev follows : Piece → List Piece → Bool
follows p [] = true
follows p (q ∷ qs) = may_follow p q

split_parts : (p : Piece) (ps : List Piece) → is_split (p ∷ ps) ≡ true → (is_piece p ≡ true) × (follows p ps ≡ true) × (is_split ps ≡ true)
split_parts p [] h = (h, refl, refl)
split_parts p (q ∷ qs) h =
    let outer = and_parts _ _ h in
    let inner = and_parts _ _ outer.0 in
    (inner.0, inner.1, outer.1)

split_from : (p : Piece) (ps : List Piece) → is_piece p ≡ true → follows p ps ≡ true → is_split ps ≡ true → is_split (p ∷ ps) ≡ true
split_from p [] piece next rest = piece
split_from p (q ∷ qs) piece next rest = and_from _ _ (and_from _ _ piece next) rest

-- ---- pieces to items

blank_is : (b : ℕ) → is_blank_byte b ≡ true → (eqb b 59 ≡ false) × (is_gap_byte false b ≡ true) × (is_word_byte b ≡ false)
blank_is b h = (grind (arith, nat_tests), grind (arith, nat_tests), grind (arith, nat_tests))

gap_items : (comment : Bool) (at b : ℕ) (bs : List ℕ) → is_gap_byte comment b ≡ true → items_from comment at (b ∷ bs) ≡ items_from (comment_after comment b) (suc at) bs
unfolding items_from
gap_items comment at b bs h = cond-true _ _ _ h

opening_items : (at : ℕ) (bs : List ℕ) → items_from false at (40 ∷ bs) ≡ Says Opening at (suc at) ∷ items_from false (suc at) bs
unfolding items_from
opening_items at bs = refl

closing_items : (at : ℕ) (bs : List ℕ) → items_from false at (41 ∷ bs) ≡ Says Closing at (suc at) ∷ items_from false (suc at) bs
unfolding items_from
closing_items at bs = refl

no_items : (comment : Bool) (at : ℕ) → items_from comment at [] ≡ []
unfolding items_from
no_items comment at = refl

comment_items : (body rest : List ℕ) (at : ℕ) → list_all (λ b. not (eqb b 10)) body ≡ true → items_from true at (body ++ rest) ≡ items_from true (at + length body) rest
comment_items [] rest at h = ap (λ (k : ℕ). items_from true k rest) (sym (add-zero at))
comment_items (b ∷ bs) rest at h =
    let parts = and_parts (not (eqb b 10)) (list_all (λ x. not (eqb x 10)) bs) h in
    let place : suc at + length bs ≡ at + suc (length bs) = omega arith in
    gap_items true at b (bs ++ rest) refl ∙ ap (λ (c : Bool). items_from c (suc at) (bs ++ rest)) parts.0
    ∙ comment_items bs rest (suc at) parts.1 ∙ ap (λ (k : ℕ). items_from true k rest) place

-- a comment that ends with its line or the text
comment_ends : (body : List ℕ) (ps : List Piece) (at : ℕ) → follows (Comment body) ps ≡ true → items_from true at (flat_map bytes_of ps) ≡ items_from false at (flat_map bytes_of ps)
comment_ends body [] at h = no_items true at ∙ sym (no_items false at)
comment_ends body (Blank b ∷ ps) at h =
    let is : b ≡ 10 = eqb-true _ _ h in
    gap_items true at b (flat_map bytes_of ps) refl ∙ ap (λ (c : Bool). items_from c (suc at) (flat_map bytes_of ps)) (ap not h)
    ∙ sym (subst (λ (x : ℕ). items_from false at (x ∷ flat_map bytes_of ps) ≡ items_from false (suc at) (flat_map bytes_of ps)) (sym is) (gap_items false at 10 (flat_map bytes_of ps) refl))
comment_ends body (Comment other ∷ ps) at h = absurd cc
comment_ends body (Open ∷ ps) at h = absurd cc
comment_ends body (Close ∷ ps) at h = absurd cc
comment_ends body (Word w ∷ ps) at h = absurd cc

-- no word goes on behind a word
word_ends : (w : List ℕ) (ps : List Piece) → follows (Word w) ps ≡ true → is_split ps ≡ true → begins_word (flat_map bytes_of ps) ≡ false
word_ends w [] h split = refl
word_ends w (Blank b ∷ ps) h split = (blank_is b (split_parts (Blank b) ps split).0).2
word_ends w (Comment body ∷ ps) h split = refl
word_ends w (Open ∷ ps) h split = refl
word_ends w (Close ∷ ps) h split = refl
word_ends w (Word v ∷ ps) h split = absurd cc

word_len-append : (w rest : List ℕ) → list_all is_word_byte w ≡ true → begins_word rest ≡ false → word_len (w ++ rest) ≡ length w
word_len-append [] [] all none = refl
word_len-append [] (b ∷ bs) all none = cond-false _ _ _ none
word_len-append (b ∷ bs) rest all none =
    let parts = and_parts _ _ all in
    cond-true _ _ _ parts.0 ∙ ap (λ (n : ℕ). 1 + n) (word_len-append bs rest parts.1 none) ∙ one-add (length bs)

pub items_are : (ps : List Piece) (at : ℕ) → is_split ps ≡ true → items_from false at (flat_map bytes_of ps) ≡ items_of_pieces at ps
items_are [] at h = no_items false at
items_are (Blank b ∷ ps) at h =
    let parts = split_parts (Blank b) ps h in
    let is = blank_is b parts.0 in
    gap_items false at b (flat_map bytes_of ps) is.1 ∙ ap (λ (c : Bool). items_from c (suc at) (flat_map bytes_of ps)) is.0
    ∙ items_are ps (suc at) parts.2 ∙ ap (λ (k : ℕ). items_of_pieces k ps) (sym (add-one at))
items_are (Comment body ∷ ps) at h =
    let parts = split_parts (Comment body) ps h in
    let rest = flat_map bytes_of ps in
    let place : suc at + length body ≡ at + suc (length body) = omega arith in
    gap_items false at 59 (body ++ rest) refl ∙ comment_items body rest (suc at) parts.0 ∙ comment_ends body ps (suc at + length body) parts.1
    ∙ items_are ps (suc at + length body) parts.2 ∙ ap (λ (k : ℕ). items_of_pieces k ps) place
items_are (Open ∷ ps) at h =
    let parts = split_parts Open ps h in
    opening_items at (flat_map bytes_of ps) ∙ ap (λ (items : List Item). Says Opening at (suc at) ∷ items) (items_are ps (suc at) parts.2 ∙ ap (λ (k : ℕ). items_of_pieces k ps) (sym (add-one at)))
items_are (Close ∷ ps) at h =
    let parts = split_parts Close ps h in
    closing_items at (flat_map bytes_of ps) ∙ ap (λ (items : List Item). Says Closing at (suc at) ∷ items) (items_are ps (suc at) parts.2 ∙ ap (λ (k : ℕ). items_of_pieces k ps) (sym (add-one at)))
items_are (Word [] ∷ ps) at h = absurd (let parts = split_parts (Word []) ps h in cc)
items_are (Word (b ∷ bs) ∷ ps) at h =
    let w : List ℕ = b ∷ bs in
    let rest = flat_map bytes_of ps in
    let parts = split_parts (Word (b ∷ bs)) ps h in
    let first = and_parts (is_word_byte b) (list_all is_word_byte bs) parts.0 in
    let len : word_len (w ++ rest) ≡ length w = word_len-append w rest parts.0 (word_ends w ps parts.1 parts.2) in
    word_front at b (bs ++ rest) first.0
    ∙ ap (λ (n : ℕ). Says (Leaf (map folded (take n (w ++ rest)))) at (at + n) ∷ items_from false (at + n) (drop n (w ++ rest))) len
    ∙ ap (λ (t : List ℕ). Says (Leaf (map folded t)) at (at + length w) ∷ items_from false (at + length w) (drop (length w) (w ++ rest))) (take_at w rest (length w) refl)
    ∙ ap (λ (t : List ℕ). Says (Leaf (map folded w)) at (at + length w) ∷ items_from false (at + length w) t) (drop_at w rest (length w) refl)
    ∙ ap (λ (items : List Item). Says (Leaf (map folded w)) at (at + length w) ∷ items) (items_are ps (at + length w) parts.2)

pub tokens_of_items : (ps : List Piece) (at : ℕ) → tokens_said (items_of_pieces at ps) ≡ Some (filter_map token_of ps)
tokens_of_items [] at = refl
tokens_of_items (Blank b ∷ ps) at = tokens_of_items ps (at + 1)
tokens_of_items (Comment body ∷ ps) at = tokens_of_items ps (at + suc (length body))
tokens_of_items (Open ∷ ps) at = ap (option_map (λ (ts : List Token). Opening ∷ ts)) (tokens_of_items ps (at + 1))
tokens_of_items (Close ∷ ps) at = ap (option_map (λ (ts : List Token). Closing ∷ ts)) (tokens_of_items ps (at + 1))
tokens_of_items (Word w ∷ ps) at = ap (option_map (λ (ts : List Token). Leaf (map folded w) ∷ ts)) (tokens_of_items ps (at + length w))

-- ---- a text to pieces

-- how a text goes on, inside a comment or not
abbrev GoesOn : Bool → List ℕ → Type 0
GoesOn false text = (ps : List Piece) × (text ≡ flat_map bytes_of ps) × (is_split ps ≡ true)
GoesOn true text =
    (body : List ℕ) × (ps : List Piece) × (text ≡ body ++ flat_map bytes_of ps) × (list_all (λ b. not (eqb b 10)) body ≡ true) × (follows (Comment body) ps ≡ true) × (is_split ps ≡ true)

-- in front of pieces that any piece may precede but a comment and a word
before_any : (p : Piece) (bs : List ℕ) → is_piece p ≡ true → ((q : Piece) → may_follow p q ≡ true) → GoesOn false bs → GoesOn false (bytes_of p ++ bs)
before_any p bs piece any ([], spelled, split) = (p ∷ [], ap (λ (t : List ℕ). bytes_of p ++ t) spelled, piece)
before_any p bs piece any (q ∷ qs, spelled, split) =
    (p ∷ q ∷ qs, ap (λ (t : List ℕ). bytes_of p ++ t) spelled, split_from p (q ∷ qs) piece (any q) split)

before_comment : (bs : List ℕ) → GoesOn true bs → GoesOn false (59 ∷ bs)
before_comment bs (body, ps, spelled, all, next, split) =
    (Comment body ∷ ps, ap (λ (t : List ℕ). 59 ∷ t) spelled, split_from (Comment body) ps all next split)

more_comment : (b : ℕ) (bs : List ℕ) → eqb b 10 ≡ false → GoesOn true bs → GoesOn true (b ∷ bs)
more_comment b bs other (body, ps, spelled, all, next, split) =
    (b ∷ body, ps, ap (λ (t : List ℕ). b ∷ t) spelled, and_from _ _ (ap not other) all, next_of body ps next, split)
  where
    next_of : (body : List ℕ) (ps : List Piece) → follows (Comment body) ps ≡ true → follows (Comment (b ∷ body)) ps ≡ true
    next_of body [] next = refl
    next_of body (q ∷ qs) next = next

end_comment : (b : ℕ) (bs : List ℕ) → eqb b 10 ≡ true → GoesOn false bs → GoesOn true (b ∷ bs)
end_comment b bs is (ps, spelled, split) =
    let line : b ≡ 10 = eqb-true _ _ is in
    ([], Blank b ∷ ps, ap (λ (t : List ℕ). b ∷ t) spelled, refl, is, split_from (Blank b) ps (rw line refl) (next_of ps) split)
  where
    next_of : (ps : List Piece) → follows (Blank b) ps ≡ true
    next_of [] = refl
    next_of (q ∷ qs) = refl

before_word : (b : ℕ) (bs : List ℕ) → is_word_byte b ≡ true → GoesOn false bs → GoesOn false (b ∷ bs)
before_word b bs is ([], spelled, split) = (Word (b ∷ []) ∷ [], ap (λ (t : List ℕ). b ∷ t) spelled, and_from _ _ is refl)
before_word b bs is (Blank c ∷ ps, spelled, split) =
    (Word (b ∷ []) ∷ Blank c ∷ ps, ap (λ (t : List ℕ). b ∷ t) spelled, split_from (Word (b ∷ [])) (Blank c ∷ ps) (and_from _ _ is refl) refl split)
before_word b bs is (Comment body ∷ ps, spelled, split) =
    (Word (b ∷ []) ∷ Comment body ∷ ps, ap (λ (t : List ℕ). b ∷ t) spelled, split_from (Word (b ∷ [])) (Comment body ∷ ps) (and_from _ _ is refl) refl split)
before_word b bs is (Open ∷ ps, spelled, split) =
    (Word (b ∷ []) ∷ Open ∷ ps, ap (λ (t : List ℕ). b ∷ t) spelled, split_from (Word (b ∷ [])) (Open ∷ ps) (and_from _ _ is refl) refl split)
before_word b bs is (Close ∷ ps, spelled, split) =
    (Word (b ∷ []) ∷ Close ∷ ps, ap (λ (t : List ℕ). b ∷ t) spelled, split_from (Word (b ∷ [])) (Close ∷ ps) (and_from _ _ is refl) refl split)
before_word b bs is (Word [] ∷ ps, spelled, split) = absurd (let parts = split_parts (Word []) ps split in cc)
before_word b bs is (Word (c ∷ cs) ∷ ps, spelled, split) =
    let parts = split_parts (Word (c ∷ cs)) ps split in
    (Word (b ∷ c ∷ cs) ∷ ps, ap (λ (t : List ℕ). b ∷ t) spelled, split_from (Word (b ∷ c ∷ cs)) ps (and_from _ _ is parts.0) (next_of ps parts.1) parts.2)
  where
    next_of : (ps : List Piece) → follows (Word (c ∷ cs)) ps ≡ true → follows (Word (b ∷ c ∷ cs)) ps ≡ true
    next_of [] next = refl
    next_of (q ∷ qs) next = next

bad_items : (at b : ℕ) (bs : List ℕ) → is_gap_byte false b ≡ false → eqb b 40 ≡ false → eqb b 41 ≡ false → is_word_byte b ≡ false → items_from false at (b ∷ bs) ≡ Bad at ∷ []
unfolding items_from
bad_items at b bs gap opening closing word = cond-false _ _ _ gap ∙ cond-false _ _ _ opening ∙ cond-false _ _ _ closing ∙ cond-false _ _ _ word

-- no tokens behind the first
none_behind : (token : Token) (from to : ℕ) (items : List Item) → tokens_said items ≡ None → tokens_said (Says token from to ∷ items) ≡ None
none_behind token from to items h = ap (option_map (λ (ts : List Token). token ∷ ts)) h

none_dropped : (token : Token) (items : List Item) (none : option_map (λ (ts : List Token). token ∷ ts) (tokens_said items) ≡ None) → tokens_said items ≡ None
none_dropped token items none =
    elim (tokens_said items) as (λ o. option_map (λ (ts : List Token). token ∷ ts) o ≡ None → o ≡ None) [ Some ts ↦ λ h. absurd cc | None ↦ λ h. refl ] none

word_none : (at b : ℕ) (bs : List ℕ) → is_word_byte b ≡ true → tokens_said (items_from false (suc at) bs) ≡ None → tokens_said (items_from false at (b ∷ bs)) ≡ None
word_none at b bs is none =
    ap tokens_said (word_byte_items at b bs is) ∙ none_behind (Leaf (map folded (take (word_len (b ∷ bs)) (b ∷ bs)))) at (at + word_len (b ∷ bs)) (cond (begins_word bs) (drop 1 (items_from false (suc at) bs)) (items_from false (suc at) bs)) (behind bs none)
  where
    behind : (bs : List ℕ) → tokens_said (items_from false (suc at) bs) ≡ None → tokens_said (cond (begins_word bs) (drop 1 (items_from false (suc at) bs)) (items_from false (suc at) bs)) ≡ None
    behind [] none = none
    behind (c ∷ cs) none =
        elim (cases_Bool (is_word_byte c)) [
          | inl word ↦
              let front = word_front (suc at) c cs word in
              let first = ap tokens_said (sym front) ∙ none in
              ap tokens_said (cond-true (is_word_byte c) (drop 1 (items_from false (suc at) (c ∷ cs))) (items_from false (suc at) (c ∷ cs)) word ∙ ap (drop 1) front)
              ∙ none_dropped (Leaf (map folded (take (word_len (c ∷ cs)) (c ∷ cs)))) (items_from false (suc at + word_len (c ∷ cs)) (drop (word_len (c ∷ cs)) (c ∷ cs))) first
          | inr other ↦ ap tokens_said (cond-false (is_word_byte c) (drop 1 (items_from false (suc at) (c ∷ cs))) (items_from false (suc at) (c ∷ cs)) other) ∙ none
        ]

-- a text goes on with pieces, or isn't read
pub goes_on_or_none : (comment : Bool) (at : ℕ) (text : List ℕ) → GoesOn comment text ⊎ (tokens_said (items_from comment at text) ≡ None)
goes_on_or_none false at [] = inl ([], refl, refl)
goes_on_or_none true at [] = inl ([], [], refl, refl, refl, refl)
goes_on_or_none true at (b ∷ bs) =
    let step = ap tokens_said (gap_items true at b bs refl) in
    elim (cases_Bool (eqb b 10)) [
      | inl is ↦ elim (goes_on_or_none false (suc at) bs) [
        | inl rest ↦ inl (end_comment b bs is rest)
        | inr none ↦ inr (step ∙ ap (λ (c : Bool). tokens_said (items_from c (suc at) bs)) (ap not is) ∙ none)
      ]
      | inr other ↦ elim (goes_on_or_none true (suc at) bs) [
        | inl rest ↦ inl (more_comment b bs other rest)
        | inr none ↦ inr (step ∙ ap (λ (c : Bool). tokens_said (items_from c (suc at) bs)) (ap not other) ∙ none)
      ]
    ]
goes_on_or_none false at (b ∷ bs) =
    elim (cases_Bool (is_blank_byte b)) [
      | inl blank ↦ elim (goes_on_or_none false (suc at) bs) [
        | inl rest ↦ inl (before_any (Blank b) bs blank (λ q. refl) rest)
        | inr none ↦
            let is = blank_is b blank in
            inr (ap tokens_said (gap_items false at b bs is.1 ∙ ap (λ (c : Bool). items_from c (suc at) bs) is.0) ∙ none)
      ]
      | inr no_blank ↦ elim (cases_Bool (eqb b 59)) [
        | inl semicolon ↦
            let is : b ≡ 59 = eqb-true _ _ semicolon in
            elim (goes_on_or_none true (suc at) bs) [
              | inl rest ↦ inl (subst (λ (x : ℕ). GoesOn false (x ∷ bs)) (sym is) (before_comment bs rest))
              | inr none ↦ inr (ap (λ (x : ℕ). tokens_said (items_from false at (x ∷ bs))) is ∙ ap tokens_said (gap_items false at 59 bs refl) ∙ none)
            ]
        | inr no_semicolon ↦ at_token b bs no_blank no_semicolon (goes_on_or_none false (suc at) bs)
      ]
    ]
  where
    at_token : (b : ℕ) (bs : List ℕ) → is_blank_byte b ≡ false → eqb b 59 ≡ false → GoesOn false bs ⊎ (tokens_said (items_from false (suc at) bs) ≡ None)
        → GoesOn false (b ∷ bs) ⊎ (tokens_said (items_from false at (b ∷ bs)) ≡ None)
    at_token b bs no_blank no_semicolon rest =
        elim (cases_Bool (eqb b 40)) [
          | inl opening ↦
              let is : b ≡ 40 = eqb-true _ _ opening in
              subst (λ (x : ℕ). GoesOn false (x ∷ bs) ⊎ (tokens_said (items_from false at (x ∷ bs)) ≡ None)) (sym is)
              (elim rest [
                | inl pieces ↦ inl (before_any Open bs refl (λ q. refl) pieces)
                | inr none ↦ inr (ap tokens_said (opening_items at bs) ∙ none_behind Opening at (suc at) (items_from false (suc at) bs) none)
              ])
          | inr no_opening ↦ elim (cases_Bool (eqb b 41)) [
            | inl closing ↦
                let is : b ≡ 41 = eqb-true _ _ closing in
                subst (λ (x : ℕ). GoesOn false (x ∷ bs) ⊎ (tokens_said (items_from false at (x ∷ bs)) ≡ None)) (sym is)
                (elim rest [
                  | inl pieces ↦ inl (before_any Close bs refl (λ q. refl) pieces)
                  | inr none ↦ inr (ap tokens_said (closing_items at bs) ∙ none_behind Closing at (suc at) (items_from false (suc at) bs) none)
                ])
            | inr no_closing ↦ elim (cases_Bool (is_word_byte b)) [
              | inl word ↦ elim rest [
                | inl pieces ↦ inl (before_word b bs word pieces)
                | inr none ↦ inr (word_none at b bs word none)
              ]
              | inr no_word ↦ inr (ap tokens_said (bad_items at b bs (or_from _ _ no_blank no_semicolon) no_opening no_closing no_word))
            ]
          ]
        ]

-- ---- the relation of a text and its tokens

pub are_items_at : (text : List ℕ) (pieces : List Piece) → IsTextOf pieces text → items_at text 0 ≡ items_of_pieces 0 pieces
are_items_at text pieces is = ap (items_from false 0) is.spelled ∙ items_are pieces 0 is.split

pub are_said : (text : List ℕ) (tokens : List Token) → SpellsTokens text tokens → tokens_said (items_at text 0) ≡ Some tokens
are_said text tokens spells =
    ap tokens_said (are_items_at text spells.pieces spells.text_of_pieces) ∙ tokens_of_items spells.pieces 0 ∙ ap (λ (ts : List Token). Some ts) (sym spells.tokens_of_pieces)

some_none : {A : Type 0} (o : Option A) (x : A) → o ≡ Some x → o ≡ None → ⊥
some_none o x some none = cc

pub are_read : (text : List ℕ) (tokens : List Token) → tokens_said (items_at text 0) ≡ Some tokens → SpellsTokens text tokens
are_read text tokens said =
    elim (goes_on_or_none false 0 text) [
      | inl rest ↦
          let is : IsTextOf rest.0 text = record { spelled = rest.1; split = rest.2 } in
          let both = sym said ∙ ap tokens_said (are_items_at text rest.0 is) ∙ tokens_of_items rest.0 0 in
          record { pieces = rest.0; text_of_pieces = is; tokens_of_pieces = same_Some _ _ both }
      | inr none ↦ absurd (some_none (tokens_said (items_at text 0)) tokens said none)
    ]

pub is_one : (text : List ℕ) (first second : List Token) → SpellsTokens text first → SpellsTokens text second → first ≡ second
is_one text first second one other = same_Some first second (sym (are_said text first one) ∙ are_said text second other)

pub is_none_said : (text : List ℕ) → tokens_said (items_at text 0) ≡ None → (tokens : List Token) → SpellsTokens text tokens → ⊥
is_none_said text none tokens spells = some_none (tokens_said (items_at text 0)) tokens (are_said text tokens spells) none
