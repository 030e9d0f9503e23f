-- The text of an atom tells its words apart: no word has a space in it.
use Rattle.std.proofs.Common.{◌≡◌, ◌||◌, ◌++◌, ◌==◌, ℕ, Bool, true, false, not, List, [], ◌∷◌, refl, sym, ap, ◌∙◌, eqb-true, cond}
use Rattle.std.specs.Prelude.{codes}
use Rattle.std.specs.List.{join_with_byte, list_all, onto_first, slice_split}
use Rattle.std.proofs.lemmas.List.{append_cancel_left, append_cancel_right}
use Rattle.num_ends.specs.Names.{begins_name, continues_name, is_digit, is_name}
use Rattle.pddl_meaning.proofs.Bounds.{both_true, true_both, all_of_all}
use Rattle.static_facts.specs.Atoms.{text_of_atom}

abbrev is_space : ℕ → Bool
is_space b = b == 32

-- a text without a space
abbrev pub is_word : List ℕ → Bool
is_word bytes = list_all (λ b. not (is_space b)) bytes

abbrev pub AreWords : List (List ℕ) → Type 0
AreWords words = list_all is_word words ≡ true

continued : (b : ℕ) → continues_name b ≡ true → not (is_space b) ≡ true
continued b h = by_test (is_space b) refl
  where
    by_test : (test : Bool) → is_space b ≡ test → not test ≡ true
    by_test true is = let bad = sym h ∙ ap continues_name (eqb-true b 32 is) in cc
    by_test false is = refl

begun : (b : ℕ) → begins_name b ≡ true → continues_name b ≡ true
begun b h = ap (λ (t : Bool). ((t || is_digit b) || b == 45) || b == 46) h

pub name_is_word : (text : List ℕ) → is_name text ≡ true → is_word text ≡ true
name_is_word [] h = cc
name_is_word (b ∷ bytes) h =
    let parts = both_true (begins_name b) (list_all continues_name bytes) h in
    true_both (not (is_space b)) (is_word bytes) (continued b (begun b parts.0)) (all_of_all continues_name (λ c. not (is_space c)) continued bytes parts.1)

pub names_are_words : (names : List (List ℕ)) → list_all is_name names ≡ true → AreWords names
names_are_words names h = all_of_all is_name is_word name_is_word names h

not_space : (b : ℕ) → not (is_space b) ≡ true → is_space b ≡ false
not_space b h = by_test (is_space b) h
  where
    by_test : (test : Bool) → not test ≡ true → test ≡ false
    by_test true k = cc
    by_test false k = refl

word_alone : (word : List ℕ) → is_word word ≡ true → slice_split is_space word ≡ word ∷ []
word_alone [] h = refl
word_alone (b ∷ word) h =
    let parts = both_true (not (is_space b)) (is_word word) h in
    ap (λ (t : Bool). cond t ([] ∷ slice_split is_space word) (onto_first b (slice_split is_space word))) (not_space b parts.0)
    ∙ ap (onto_first b) (word_alone word parts.1)

word_first : (word rest : List ℕ) → is_word word ≡ true → slice_split is_space (word ++ 32 ∷ rest) ≡ word ∷ slice_split is_space rest
word_first [] rest h = refl
word_first (b ∷ word) rest h =
    let parts = both_true (not (is_space b)) (is_word word) h in
    ap (λ (t : Bool). cond t ([] ∷ slice_split is_space (word ++ 32 ∷ rest)) (onto_first b (slice_split is_space (word ++ 32 ∷ rest)))) (not_space b parts.0)
    ∙ ap (onto_first b) (word_first word rest parts.1)

split_again : (word : List ℕ) (words : List (List ℕ)) → AreWords (word ∷ words) → slice_split is_space (join_with_byte 32 (word ∷ words)) ≡ word ∷ words
split_again word [] h = word_alone word (both_true (is_word word) (list_all is_word []) h).0
split_again word (next ∷ words) h =
    let parts = both_true (is_word word) (list_all is_word (next ∷ words)) h in
    word_first word (join_with_byte 32 (next ∷ words)) parts.0 ∙ ap (λ (ws : List (List ℕ)). word ∷ ws) (split_again next words parts.1)

-- two atoms of one text are one atom
pub same_words : (head : List ℕ) (objects : List (List ℕ)) (other : List ℕ) (others : List (List ℕ)) → AreWords (head ∷ objects) → AreWords (other ∷ others)
    → text_of_atom (head ∷ objects) ≡ text_of_atom (other ∷ others) → head ∷ objects ≡ other ∷ others
same_words head objects other others h k same =
    let inside = append_cancel_right (join_with_byte 32 (head ∷ objects)) (join_with_byte 32 (other ∷ others)) (codes ")")
    (append_cancel_left (codes "(") (join_with_byte 32 (head ∷ objects) ++ codes ")") (join_with_byte 32 (other ∷ others) ++ codes ")") same) in
    sym (split_again head objects h) ∙ ap (slice_split is_space) inside ∙ split_again other others k
