-- A loop over the parts of a line.
use Rattle.std.proofs.Common.{◌≡◌, ℕ, zero, suc, ◌+◌, ◌<◌, ◌≤◌, ℤ, pos, List, [], ◌∷◌, ◌++◌, length, get_or, take, flat_map, zip, refl, sym, ap, ◌∙◌, arith, append_assoc, add-one}
use Rattle.std.proofs.lemmas.List.{append-nil}
use Rattle.num_ends.specs.Decimal.{Decimal, origin}
use Rattle.num_ends.specs.Texts.{decimal_text}
use Rattle.ground_task.specs.Meaning.{fluent_value}
use Rattle.ground_task.specs.States.{StateValue}
use Rattle.cert_text.specs.Lines.{decimals_of, part_text, state_fluents}

module _ {A B : Type 0} (f : A × B → List ℕ) where
  part_more : (xs : List A) (ys : List B) (i : ℕ) (d : A) (e : B) → i < length xs → i < length ys
      → flat_map f (zip (take (suc i) xs) (take (suc i) ys)) ≡ flat_map f (zip (take i xs) (take i ys)) ++ f (get_or xs i d, get_or ys i e)
  part_more [] ys i d e h k = absurd (omega arith)
  part_more (x ∷ xs) [] i d e h k = absurd (omega arith)
  part_more (x ∷ xs) (y ∷ ys) zero d e h k = append-nil (f (x, y))
  part_more (x ∷ xs) (y ∷ ys) (suc i) d e h k =
      ap (λ (r : List ℕ). f (x, y) ++ r) (part_more xs ys i d e (omega arith) (omega arith)) ∙ sym (append_assoc (f (x, y)) (flat_map f (zip (take i xs) (take i ys))) (f (get_or xs i d, get_or ys i e)))

  -- one part is written, and then the next
  pub one_more : (old out new : List ℕ) (xs : List A) (ys : List B) (i : ℕ) (d : A) (e : B) → i < length xs → i < length ys
      → out ≡ old ++ flat_map f (zip (take i xs) (take i ys)) → new ≡ out ++ f (get_or xs i d, get_or ys i e)
      → new ≡ old ++ flat_map f (zip (take (i + 1) xs) (take (i + 1) ys))
  one_more old out new xs ys i d e h k before is =
      is ∙ ap (λ (r : List ℕ). r ++ f (get_or xs i d, get_or ys i e)) before
      ∙ append_assoc old (flat_map f (zip (take i xs) (take i ys))) (f (get_or xs i d, get_or ys i e))
      ∙ ap (λ (r : List ℕ). old ++ r) (sym (part_more xs ys i d e h k))
      ∙ ap (λ (n : ℕ). old ++ flat_map f (zip (take n xs) (take n ys))) (sym (add-one i))

  -- no part is left
  pub all_parts : (old out : List ℕ) (xs : List A) (ys : List B) (i : ℕ) → length xs ≤ i → length ys ≤ i
      → out ≡ old ++ flat_map f (zip (take i xs) (take i ys)) → out ≡ old ++ flat_map f (zip xs ys)
  all_parts old out xs ys i h k is = is ∙ ap (λ (r : List (A × B)). old ++ flat_map f r) (whole xs ys i h k)
    where
      whole : (xs : List A) (ys : List B) (i : ℕ) → length xs ≤ i → length ys ≤ i → zip (take i xs) (take i ys) ≡ zip xs ys
      whole [] ys zero h k = refl
      whole [] ys (suc i) h k = refl
      whole (x ∷ xs) ys zero h k = absurd (omega arith)
      whole (x ∷ xs) [] (suc i) h k = refl
      whole (x ∷ xs) (y ∷ ys) (suc i) h k = ap (λ (r : List (A × B)). (x, y) ∷ r) (whole xs ys i (omega arith) (omega arith))

-- ---- values at their places

pub decimal_at : (places : List ℕ) (numbers : List ℤ) (i : ℕ) (d : Decimal) → i < length places → i < length numbers
    → get_or (decimals_of places numbers) i d ≡ record { n = get_or numbers i (pos 0); p = get_or places i 0 }
decimal_at [] numbers i d h k = absurd (omega arith)
decimal_at (p ∷ places) [] i d h k = absurd (omega arith)
decimal_at (p ∷ places) (n ∷ numbers) zero d h k = refl
decimal_at (p ∷ places) (n ∷ numbers) (suc i) d h k = decimal_at places numbers i d (omega arith) (omega arith)

pub as_many_decimals : (places : List ℕ) (numbers : List ℤ) → length numbers ≡ length places → length (decimals_of places numbers) ≡ length numbers
as_many_decimals [] [] h = refl
as_many_decimals [] (n ∷ numbers) h = absurd (omega arith)
as_many_decimals (p ∷ places) [] h = absurd (omega arith)
as_many_decimals (p ∷ places) (n ∷ numbers) h = ap suc (as_many_decimals places numbers (omega arith))

module _ (old out : List ℕ) (names : List (List ℕ)) (places : List ℕ) (s : StateValue) (i : ℕ) (count : length places ≡ length names) (each : length s.values ≡ length names)
    (before : out ≡ old ++ state_fluents (take i names) (take i (decimals_of places s.values))) where
  -- one value is written, and then the next
  pub one_value_more : (new : List ℕ) → i < length names → new ≡ out ++ part_text (get_or names i []) (decimal_text (fluent_value places s i))
      → new ≡ old ++ state_fluents (take (i + 1) names) (take (i + 1) (decimals_of places s.values))
  one_value_more new within is =
      let many : length (decimals_of places s.values) ≡ length s.values = as_many_decimals places s.values (each ∙ sym count) in
      one_more (λ part. part_text part.0 (decimal_text part.1)) old out new names (decimals_of places s.values) i [] origin within (omega arith) before
      (is ∙ ap (λ (d : Decimal). out ++ part_text (get_or names i []) (decimal_text d)) (sym (decimal_at places s.values i origin (omega arith) (omega arith))))

  pub all_values : length names ≤ i → out ≡ old ++ state_fluents names (decimals_of places s.values)
  all_values all =
      let many : length (decimals_of places s.values) ≡ length s.values = as_many_decimals places s.values (each ∙ sym count) in
      all_parts (λ part. part_text part.0 (decimal_text part.1)) old out names (decimals_of places s.values) i all (omega arith) before
