-- The longest front of a text whose bytes pass, and what follows it.
use Rattle.std.proofs.Common.{◌≡◌, ℕ, ◌+◌, Bool, true, false, ◌&&◌, eqb, List, [], ◌∷◌, ◌++◌, take, drop, length, refl, sym, ap, ap₂, ◌∙◌, ◌≤◌, inl, inr, arith, one-add}
use Rattle.std.proofs.lemmas.Bool.{cond-true, cond-false, cases_Bool, and_parts, and_left, ne_eqb}
use Rattle.std.specs.List.{prefix_len, list_all}
use Rattle.plan_text.specs.internal.Reading.{front, past, behind_first, size_left}

pub front_taken : (p : ℕ → Bool) (xs : List ℕ) → take (prefix_len p xs) xs ≡ front p xs
front_taken p [] = refl
front_taken p (x ∷ xs) =
    elim (cases_Bool (p x)) [
      | inl is ↦
          let n : prefix_len p (x ∷ xs) ≡ _ = cond-true (p x) (1 + prefix_len p xs) 0 is ∙ one-add (prefix_len p xs) in
          ap (λ (k : ℕ). take k (x ∷ xs)) n ∙ ap (λ (t : List ℕ). x ∷ t) (front_taken p xs) ∙ sym (cond-true (p x) (x ∷ front p xs) [] is)
      | inr other ↦
          ap (λ (k : ℕ). take k (x ∷ xs)) (cond-false (p x) (1 + prefix_len p xs) 0 other) ∙ sym (cond-false (p x) (x ∷ front p xs) [] other)
    ]

pub past_dropped : (p : ℕ → Bool) (xs : List ℕ) → drop (prefix_len p xs) xs ≡ past p xs
past_dropped p [] = refl
past_dropped p (x ∷ xs) =
    elim (cases_Bool (p x)) [
      | inl is ↦
          let n : prefix_len p (x ∷ xs) ≡ _ = cond-true (p x) (1 + prefix_len p xs) 0 is ∙ one-add (prefix_len p xs) in
          ap (λ (k : ℕ). drop k (x ∷ xs)) n ∙ past_dropped p xs ∙ sym (cond-true (p x) (past p xs) (x ∷ xs) is)
      | inr other ↦
          ap (λ (k : ℕ). drop k (x ∷ xs)) (cond-false (p x) (1 + prefix_len p xs) 0 other) ∙ sym (cond-false (p x) (past p xs) (x ∷ xs) other)
    ]

-- each byte passes where nothing is left
pub all_pass : (p : ℕ → Bool) (xs : List ℕ) → list_all p xs ≡ eqb (length (past p xs)) 0
all_pass p [] = refl
all_pass p (x ∷ xs) =
    elim (cases_Bool (p x)) [
      | inl is ↦ ap (λ (b : Bool). b && list_all p xs) is ∙ all_pass p xs ∙ ap (λ (t : List ℕ). eqb (length t) 0) (sym (cond-true (p x) (past p xs) (x ∷ xs) is))
      | inr other ↦
          let same : past p (x ∷ xs) ≡ x ∷ xs = cond-false (p x) (past p xs) (x ∷ xs) other in
          and_left (p x) (list_all p xs) other ∙ sym (ne_eqb (length (x ∷ xs)) 0 (λ e. omega arith)) ∙ ap (λ (t : List ℕ). eqb (length t) 0) (sym same)
    ]

pub shorter_past : (p : ℕ → Bool) (xs : List ℕ) → length (past p xs) ≤ length xs
shorter_past p [] = omega arith
shorter_past p (x ∷ xs) =
    elim (cases_Bool (p x)) [
      | inl is ↦
          let same : past p (x ∷ xs) ≡ past p xs = cond-true (p x) (past p xs) (x ∷ xs) is in
          omega (arith, shorter_past p xs, ap (length {A = ℕ}) same)
      | inr other ↦
          let same : past p (x ∷ xs) ≡ x ∷ xs = cond-false (p x) (past p xs) (x ∷ xs) other in
          omega (arith, ap (length {A = ℕ}) same)
    ]

pub shorter_left : (p : ℕ → Bool) (xs : List ℕ) → size_left (behind_first (past p xs)) ≤ length xs
shorter_left p xs = behind (past p xs) (shorter_past p xs)
  where
    behind : (ys : List ℕ) → length ys ≤ length xs → size_left (behind_first ys) ≤ length xs
    behind [] le = omega arith
    behind (y ∷ ys) le = omega arith

-- a second cut finds nothing
pub past_twice : (p : ℕ → Bool) (xs : List ℕ) → past p (past p xs) ≡ past p xs
past_twice p [] = refl
past_twice p (x ∷ xs) =
    elim (cases_Bool (p x)) [
      | inl is ↦ rw (cond-true (p x) (past p xs) (x ∷ xs) is) (past_twice p xs)
      | inr other ↦
          let same : past p (x ∷ xs) ≡ x ∷ xs = cond-false (p x) (past p xs) (x ∷ xs) other in
          ap (past p) same
    ]

-- ---- where a text is cut

pub front_and_past : (p : ℕ → Bool) (xs : List ℕ) → xs ≡ front p xs ++ past p xs
front_and_past p [] = refl
front_and_past p (x ∷ xs) =
    elim (cases_Bool (p x)) [
      | inl is ↦
          ap (λ (t : List ℕ). x ∷ t) (front_and_past p xs)
          ∙ ap₂ (λ (f r : List ℕ). f ++ r) (sym (cond-true (p x) (x ∷ front p xs) [] is)) (sym (cond-true (p x) (past p xs) (x ∷ xs) is))
      | inr other ↦
          ap₂ (λ (f r : List ℕ). f ++ r) (sym (cond-false (p x) (x ∷ front p xs) [] other)) (sym (cond-false (p x) (past p xs) (x ∷ xs) other))
    ]

pub front_passes : (p : ℕ → Bool) (xs : List ℕ) → list_all p (front p xs) ≡ true
front_passes p [] = refl
front_passes p (x ∷ xs) =
    elim (cases_Bool (p x)) [
      | inl is ↦ ap (list_all p) (cond-true (p x) (x ∷ front p xs) [] is) ∙ ap (λ (b : Bool). b && list_all p (front p xs)) is ∙ front_passes p xs
      | inr other ↦ ap (list_all p) (cond-false (p x) (x ∷ front p xs) [] other)
    ]

-- whether a first byte passes
abbrev pub begins : (ℕ → Bool) → List ℕ → Bool
begins p [] = false
begins p (x ∷ xs) = p x

pub past_stops : (p : ℕ → Bool) (xs : List ℕ) → begins p (past p xs) ≡ false
past_stops p [] = refl
past_stops p (x ∷ xs) =
    elim (cases_Bool (p x)) [
      | inl is ↦ ap (begins p) (cond-true (p x) (past p xs) (x ∷ xs) is) ∙ past_stops p xs
      | inr other ↦ ap (begins p) (cond-false (p x) (past p xs) (x ∷ xs) other) ∙ other
    ]

-- a text is cut where bytes that pass end
pub front_here : (p : ℕ → Bool) (xs ys : List ℕ) → list_all p xs ≡ true → begins p ys ≡ false → front p (xs ++ ys) ≡ xs
front_here p [] [] all stop = refl
front_here p [] (y ∷ ys) all stop = cond-false (p y) (y ∷ front p ys) [] stop
front_here p (x ∷ xs) ys all stop =
    let both = and_parts (p x) (list_all p xs) all in
    cond-true (p x) (x ∷ front p (xs ++ ys)) [] both.0 ∙ ap (λ (t : List ℕ). x ∷ t) (front_here p xs ys both.1 stop)

pub past_here : (p : ℕ → Bool) (xs ys : List ℕ) → list_all p xs ≡ true → begins p ys ≡ false → past p (xs ++ ys) ≡ ys
past_here p [] [] all stop = refl
past_here p [] (y ∷ ys) all stop = cond-false (p y) (past p ys) (y ∷ ys) stop
past_here p (x ∷ xs) ys all stop =
    let both = and_parts (p x) (list_all p xs) all in
    cond-true (p x) (past p (xs ++ ys)) (x ∷ (xs ++ ys)) both.0 ∙ past_here p xs ys both.1 stop

pub nothing_past : (p : ℕ → Bool) (xs : List ℕ) → list_all p xs ≡ true → past p xs ≡ []
nothing_past p [] all = refl
nothing_past p (x ∷ xs) all =
    let both = and_parts (p x) (list_all p xs) all in
    cond-true (p x) (past p xs) (x ∷ xs) both.0 ∙ nothing_past p xs both.1
