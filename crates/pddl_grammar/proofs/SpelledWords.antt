-- Words of different kinds are different words.
use Rattle.std.proofs.Common.{◌≡◌, ℕ, Bool, true, false, ◌&&◌, ◌||◌, inl, inr, List, [], ◌∷◌, Some, None, refl, sym, ap, ◌∙◌, arith}
use Rattle.std.specs.Prelude.{bytes_eq, codes, ◌==◌, if◌then◌else◌}
use Rattle.std.specs.List.{list_all}
use Rattle.std.proofs.lemmas.Bool.{cases_Bool, and_parts, and_left, or_cases, false_from_ne_true, true≢false}
use Rattle.std.proofs.lemmas.Bool.Decides.{nat_tests}
use Rattle.num_ends.specs.Names.{is_name, is_digit, begins_name, continues_name}
use Rattle.pddl_terms.specs.declared.conditions.Rel.{Rel}
use Rattle.pddl_terms.specs.declared.conditions.Rel.TheVariants as rel
use Rattle.pddl_trees.specs.Words.{is_symbol, is_variable, is_number_word, operation_of, relation_of, change_of}
use Rattle.pddl_grammar.proofs.Spelled.{same_word}

-- a word that passes a test is none that fails it
pub other_word : (test : List ℕ → Bool) (v w : List ℕ) → test v ≡ false → test w ≡ true → bytes_eq w v ≡ false
other_word test v w fails passes = false_from_ne_true (bytes_eq w v) (λ same. true≢false (sym passes ∙ ap test (same_word w v same) ∙ fails))

pub symbol_named : (w : List ℕ) → is_symbol w ≡ true → is_name w ≡ true
symbol_named w s = (and_parts (is_name w) _ s).0

pub no_operation : (w : List ℕ) → is_name w ≡ true → operation_of w ≡ None
no_operation w n =
    let plus = other_word is_name (codes "+") w refl n in
    let minus = other_word is_name (codes "-") w refl n in
    let times = other_word is_name (codes "*") w refl n in
    let by = other_word is_name (codes "/") w refl n in
    rw (plus, minus, times, by) refl

pub no_relation : (w : List ℕ) → is_name w ≡ true → relation_of w ≡ None
no_relation w n =
    let less = other_word is_name (codes "<") w refl n in
    let most = other_word is_name (codes "<=") w refl n in
    let equal = other_word is_name (codes "=") w refl n in
    let least = other_word is_name (codes ">=") w refl n in
    let more = other_word is_name (codes ">") w refl n in
    rw (less, most, equal, least, more) refl

pub no_change : (w : List ℕ) → is_symbol w ≡ true → change_of w ≡ None
no_change w s =
    let assign = other_word is_symbol (codes "assign") w refl s in
    let increase = other_word is_symbol (codes "increase") w refl s in
    let decrease = other_word is_symbol (codes "decrease") w refl s in
    let scale = other_word is_symbol (codes "scale-up") w refl s in
    rw (assign, increase, decrease, scale) refl

-- ---- numbers, names and variables

starts_number : (b : ℕ) → is_digit b ≡ true → (begins_name b ≡ false) × ((b == 63) ≡ false)
starts_number b h = (grind (arith, nat_tests), grind (arith, nat_tests))

starts_sign : (b : ℕ) → (b == 46 || b == 45) ≡ true → (begins_name b ≡ false) × ((b == 63) ≡ false)
starts_sign b h = (grind (arith, nat_tests), grind (arith, nat_tests))

starts_minus_sign : (b : ℕ) → (b == 45) ≡ true → (begins_name b ≡ false) × ((b == 63) ≡ false)
starts_minus_sign b h = (grind (arith, nat_tests), grind (arith, nat_tests))

first_of_number : (b : ℕ) (bs : List ℕ) → is_number_word (b ∷ bs) ≡ true → (begins_name b ≡ false) × ((b == 63) ≡ false)
first_of_number b [] h = starts_number b h
first_of_number b (c ∷ bs) h =
    elim (or_cases (is_digit b || ((b == 46 || b == 45) && is_digit c)) (b == 45 && c == 46) h) [
      | inl front ↦ elim (or_cases (is_digit b) ((b == 46 || b == 45) && is_digit c) front) [
        | inl digit ↦ starts_number b digit
        | inr sign ↦ starts_sign b (and_parts (b == 46 || b == 45) (is_digit c) sign).0
      ]
      | inr minus ↦ starts_minus_sign b (and_parts (b == 45) (c == 46) minus).0
    ]

pub number_no_name : (w : List ℕ) → is_number_word w ≡ true → is_name w ≡ false
number_no_name [] h = cc
number_no_name (b ∷ bs) h = and_left (begins_name b) (list_all continues_name bs) (first_of_number b bs h).0

pub number_no_variable : (w : List ℕ) → is_number_word w ≡ true → is_variable w ≡ false
number_no_variable [] h = cc
number_no_variable (b ∷ bs) h = and_left (b == 63) (is_name bs) (first_of_number b bs h).1

-- ---- words with a meaning are no names

named_not : (w v : List ℕ) → is_name v ≡ false → bytes_eq w v ≡ true → is_name w ≡ false
named_not w v fails same = ap is_name (same_word w v same) ∙ fails

pub relation_no_name : (w : List ℕ) (r : Rel) → relation_of w ≡ Some r → is_name w ≡ false
relation_no_name w r some =
    elim (cases_Bool (is_name w)) [
      | inl n ↦ absurd (cc (sym (no_relation w n) ∙ some))
      | inr n ↦ n
    ]

-- a word of a relation is none of these
pub no_connective : (v w : List ℕ) (r : Rel) → relation_of w ≡ Some r → is_name v ≡ true → bytes_eq w v ≡ false
no_connective v w r some named = false_from_ne_true (bytes_eq w v) (λ same. true≢false (sym named ∙ sym (ap is_name (same_word w v same)) ∙ relation_no_name w r some))

-- only `=` is the relation of equal numbers
pub equal_word : (w : List ℕ) → relation_of w ≡ Some rel.Equal → w ≡ codes "="
equal_word w some =
    elim (cases_Bool (bytes_eq w (codes "="))) [
      | inl same ↦ same_word w (codes "=") same
      | inr other ↦ absurd (none_other (bytes_eq w (codes "<")) (bytes_eq w (codes "<=")) (bytes_eq w (codes ">=")) (bytes_eq w (codes ">")) (rw other at some))
    ]
  where
    none_other : (a b c d : Bool) → (if a then Some rel.Less else (if b then Some rel.LessEqual else (if c then Some rel.GreaterEqual else (if d then Some rel.Greater else None)))) ≡ Some rel.Equal → ⊥
    none_other true b c d e = cc
    none_other false true c d e = cc
    none_other false false true d e = cc
    none_other false false false true e = cc
    none_other false false false false e = cc
