-- The parts of a text between bytes that pass.
use Rattle.std.proofs.Common.{◌≡◌, ℕ, Bool, false, not, eqb, ap₂, List, [], ◌∷◌, drop, length, length-append, ◌+◌, ◌≤◌, arith, refl, sym, ap, ◌∙◌, inl, inr}
use Rattle.std.proofs.lemmas.Bool.{cond-true, cond-false, cases_Bool}
use Rattle.std.specs.List.{slice_split, onto_first, filter}
use Rattle.plan_text.specs.Plans.{lines_of, words_of, has_bytes, is_space}
use Rattle.plan_text.specs.internal.Reading.{front, past, behind_first, lines_left, with_first}
use Rattle.plan_text.proofs.Fronts.{begins, past_stops, front_and_past, shorter_past}

pub first_line : (text : List ℕ) → lines_of text ≡ front (λ b. not (eqb b 10)) text ∷ lines_left (behind_first (past (λ b. not (eqb b 10)) text))
first_line [] = refl
first_line (x ∷ xs) =
    elim (cases_Bool (eqb x 10)) [
      | inl is ↦
          let out = ap not is in
          cond-true (eqb x 10) ([] ∷ lines_of xs) (onto_first x (lines_of xs)) is
          ∙ ap₂ (λ (f r : List ℕ). f ∷ lines_left (behind_first r))
          (sym (cond-false (not (eqb x 10)) (x ∷ front (λ b. not (eqb b 10)) xs) [] out))
          (sym (cond-false (not (eqb x 10)) (past (λ b. not (eqb b 10)) xs) (x ∷ xs) out))
      | inr other ↦
          let out = ap not other in
          cond-false (eqb x 10) ([] ∷ lines_of xs) (onto_first x (lines_of xs)) other
          ∙ ap (onto_first x) (first_line xs)
          ∙ ap₂ (λ (f r : List ℕ). f ∷ lines_left (behind_first r))
          (sym (cond-true (not (eqb x 10)) (x ∷ front (λ b. not (eqb b 10)) xs) [] out))
          (sym (cond-true (not (eqb x 10)) (past (λ b. not (eqb b 10)) xs) (x ∷ xs) out))
    ]

-- ---- words

-- the first part of a text ends where white space begins
pub first_part : (text : List ℕ) → slice_split is_space text ≡ front (λ b. not (is_space b)) text ∷ drop 1 (slice_split is_space text)
first_part [] = refl
first_part (x ∷ xs) =
    elim (cases_Bool (is_space x)) [
      | inl is ↦
          let split : slice_split is_space (x ∷ xs) ≡ [] ∷ slice_split is_space xs = cond-true (is_space x) _ (onto_first x (slice_split is_space xs)) is in
          let none : front (λ b. not (is_space b)) (x ∷ xs) ≡ [] = cond-false (not (is_space x)) (x ∷ front (λ b. not (is_space b)) xs) [] (ap not is) in
          split ∙ ap₂ (λ (f : List ℕ) (r : List (List ℕ)). f ∷ drop 1 r) (sym none) (sym split)
      | inr other ↦
          let split : slice_split is_space (x ∷ xs) ≡ onto_first x (slice_split is_space xs) = cond-false (is_space x) ([] ∷ slice_split is_space xs) _ other in
          let more : front (λ b. not (is_space b)) (x ∷ xs) ≡ x ∷ front (λ b. not (is_space b)) xs = cond-true (not (is_space x)) _ [] (ap not other) in
          let whole : slice_split is_space (x ∷ xs) ≡ (x ∷ front (λ b. not (is_space b)) xs) ∷ drop 1 (slice_split is_space xs) =
          split ∙ ap (onto_first x) (first_part xs) in
          whole ∙ ap₂ (λ (f : List ℕ) (r : List (List ℕ)). f ∷ drop 1 r) (sym more) (sym whole)
    ]

-- what follows the first part has the words of what follows its bytes
words_behind : (text : List ℕ) → filter has_bytes (drop 1 (slice_split is_space text)) ≡ words_of (past (λ b. not (is_space b)) text)
words_behind [] = refl
words_behind (x ∷ xs) =
    elim (cases_Bool (is_space x)) [
      | inl is ↦
          let split : slice_split is_space (x ∷ xs) ≡ [] ∷ slice_split is_space xs = cond-true (is_space x) _ (onto_first x (slice_split is_space xs)) is in
          let same : past (λ b. not (is_space b)) (x ∷ xs) ≡ x ∷ xs = cond-false (not (is_space x)) (past (λ b. not (is_space b)) xs) _ (ap not is) in
          ap (λ (r : List (List ℕ)). filter has_bytes (drop 1 r)) split ∙ ap (filter has_bytes) (sym split) ∙ ap words_of (sym same)
      | inr other ↦
          let split : slice_split is_space (x ∷ xs) ≡ onto_first x (slice_split is_space xs) = cond-false (is_space x) ([] ∷ slice_split is_space xs) _ other in
          let same : past (λ b. not (is_space b)) (x ∷ xs) ≡ past (λ b. not (is_space b)) xs = cond-true (not (is_space x)) _ (x ∷ xs) (ap not other) in
          ap (λ (r : List (List ℕ)). filter has_bytes (drop 1 r)) (split ∙ ap (onto_first x) (first_part xs)) ∙ words_behind xs ∙ ap words_of (sym same)
    ]

-- the words of a text that begins with one
pub first_word : (x : ℕ) (xs : List ℕ) → is_space x ≡ false
    → words_of (x ∷ xs) ≡ front (λ b. not (is_space b)) (x ∷ xs) ∷ words_of (past (λ b. not (is_space b)) (x ∷ xs))
first_word x xs other =
    let more : front (λ b. not (is_space b)) (x ∷ xs) ≡ x ∷ front (λ b. not (is_space b)) xs = cond-true (not (is_space x)) _ [] (ap not other) in
    ap (filter has_bytes) (first_part (x ∷ xs) ∙ ap (λ (f : List ℕ). f ∷ drop 1 (slice_split is_space (x ∷ xs))) more)
    ∙ ap₂ (λ (f : List ℕ) (r : List (List ℕ)). f ∷ r) (sym more) (words_behind (x ∷ xs))

pub words_past : (text : List ℕ) → words_of (past is_space text) ≡ words_of text
words_past [] = refl
words_past (x ∷ xs) =
    elim (cases_Bool (is_space x)) [
      | inl is ↦
          ap words_of (cond-true (is_space x) (past is_space xs) (x ∷ xs) is) ∙ words_past xs
          ∙ ap (filter has_bytes) (sym (cond-true (is_space x) ([] ∷ slice_split is_space xs) (onto_first x (slice_split is_space xs)) is))
      | inr other ↦ ap words_of (cond-false (is_space x) (past is_space xs) (x ∷ xs) other)
    ]

pub next_word : (text : List ℕ)
    → words_of text ≡ with_first (front (λ b. not (is_space b)) (past is_space text)) (words_of (past (λ b. not (is_space b)) (past is_space text)))
next_word text = sym (words_past text) ∙ at_word (past is_space text) (past_stops is_space text)
  where
    at_word : (rest : List ℕ) → begins is_space rest ≡ false
        → words_of rest ≡ with_first (front (λ b. not (is_space b)) rest) (words_of (past (λ b. not (is_space b)) rest))
    at_word [] stop = refl
    at_word (x ∷ xs) stop =
        let more : front (λ b. not (is_space b)) (x ∷ xs) ≡ x ∷ front (λ b. not (is_space b)) xs = cond-true (not (is_space x)) _ [] (ap not stop) in
        first_word x xs stop
        ∙ ap (λ (f : List ℕ). f ∷ words_of (past (λ b. not (is_space b)) (x ∷ xs))) more
        ∙ ap (λ (f : List ℕ). with_first f (words_of (past (λ b. not (is_space b)) (x ∷ xs)))) (sym more)

pub shorter_word : (p q : ℕ → Bool) (text : List ℕ) → length (front p (past q text)) + length (past p (past q text)) ≤ length text
shorter_word p q text =
    let whole = ap (length {A = ℕ}) (front_and_past p (past q text)) ∙ length-append (front p (past q text)) (past p (past q text)) in
    omega (arith, whole, shorter_past q text)
