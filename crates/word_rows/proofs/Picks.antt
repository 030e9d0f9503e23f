-- What each step is told, and that the rule allows it.
use Rattle.std.proofs.Common.{◌≡◌, ◌⊎◌, ℕ, ◌+◌, ◌%◌, ◌^◌, ◌<◌, ◌≤◌, true, false, eqb, eqb-true, eq-eqb, List, length, get_or, Contains, Some, refl, sym, ◌∙◌, subst, inl, inr, arith}
use Rattle.atomic_table.specs.Table.{Me, Step, step, Allows}
use mathlib.Core.Option.{none}
use Rattle.word_rows.specs.declared.view.Line.{Line}
use Rattle.word_rows.specs.declared.view.View.{View}
use Rattle.word_rows.specs.Views.{line, claimed, pushed, opened, missed, learnt, Knows}
use Rattle.word_rows.specs.Rule.{row_start, Kept}
use Rattle.word_rows.proofs.Kept.{claims, stores, opens, looks, reads}

abbrev pub Mine : Type 0
Mine = Me (Unit {0}) View

abbrev pub At : Type 0
At = Step (Unit {0})

abbrev pub Claimed : At → Mine → ℕ → Mine → Type 0
Claimed st m n m' = m' ≡ (claimed m.0 n, m.1)

abbrev pub Pushed : At → Mine → ℕ → Mine → Type 0
Pushed st m n m' = m' ≡ (pushed m.0 n, m.1)

abbrev pub Opened : At → Mine → ℕ → Mine → Type 0
Opened st m n m' = m' ≡ (opened m.0, m.1)

abbrev pub Missed : ℕ → ℕ → Mine → Mine → Type 0
Missed row n m m' = (n ≡ 0) × (m' ≡ (missed m.0 row, m.1)) × ((words : List ℕ) → Knows m.0 row words → ⊥)

module _ (width : ℕ) where
  abbrev pub Read : At → Mine → ℕ → Mine → Type 0
  Read st m n m' = (m' ≡ m) × ((l : Line) → Contains m.0.known l → (j : ℕ) → j < width → st.word ≡ row_start width l.row + j → n ≡ get_or l.words j 0)

module _ (width : ℕ) (IsEntry : List ℕ → Type 0) where
  abbrev pub Learnt : ℕ → ℕ → Mine → Mine → Type 0
  Learnt row n m m' = (n ≡ 1) × (words : List ℕ) × (m' ≡ (learnt m.0 row words, m.1)) × (length words ≡ width) × IsEntry words

  abbrev pub Looked : At → Mine → ℕ → Mine → Type 0
  Looked st m n m' = (row : ℕ) → st.word ≡ row + 1 → Missed row n m m' ⊎ Learnt row n m m'

module _ (width : ℕ) (IsEntry : List ℕ → Type 0) (seats : ℕ) where
  pub allows_claim : (slots id : ℕ) (me : Mine) → length me.0.claims < 2 ^ 32 → 1 ≤ me.0.seats → Allows (Kept width IsEntry seats) slots id me 0 (λ n. (n + 1) % 2 ^ 64) (Claimed (step slots 0 1 0 none) me)
  allows_claim slots id me few some_seat = claims width IsEntry seats slots id me (Claimed (step slots 0 1 0 none) me) few some_seat (λ n. refl)

  pub allows_store : (slots id : ℕ) (me : Mine) (row word : ℕ) (words : List ℕ) → me.0.writing ≡ Some (line row words) → length words < width
      → Allows (Kept width IsEntry seats) slots id me (row_start width row + length words) (λ _. word) (λ _. Pushed (step slots (row_start width row + length words) word 0 none) me word)
  allows_store slots id me row word words is short = stores width IsEntry seats slots id me row word words (λ _. Pushed (step slots (row_start width row + length words) word 0 none) me word) is short (λ n. refl)

  pub allows_open : (slots id : ℕ) (me : Mine) (row : ℕ) (words : List ℕ) → me.0.writing ≡ Some (line row words) → length words ≡ width → IsEntry words
      → Allows (Kept width IsEntry seats) slots id me (row + 1) (λ _. 1) (λ _. Opened (step slots (row + 1) 1 0 none) me 1)
  allows_open slots id me row words is whole entry = opens width IsEntry seats slots id me row words (λ _. Opened (step slots (row + 1) 1 0 none) me 1) is whole entry (λ n. refl)

  pub allows_look : (slots id : ℕ) (me : Mine) (row : ℕ) → row < 1024 → Allows (Kept width IsEntry seats) slots id me (row + 1) (λ n. n) (Looked width IsEntry (step slots (row + 1) 0 0 none) me)
  allows_look slots id me row inside = looks width IsEntry seats slots id me row (Looked width IsEntry (step slots (row + 1) 0 0 none) me) inside
      (λ n zero unknown r e. let same : row ≡ r = omega arith in subst (λ (r : ℕ). Missed r n me (missed me.0 row, me.1) ⊎ Learnt width IsEntry r n me (missed me.0 row, me.1)) same (inl (zero, refl, unknown)))
      (λ n words one whole entry r e. let same : row ≡ r = omega arith in subst (λ (r : ℕ). Missed r n me (learnt me.0 row words, me.1) ⊎ Learnt width IsEntry r n me (learnt me.0 row words, me.1)) same (inr (one, words, refl, whole, entry)))

  pub allows_read : (slots id : ℕ) (me : Mine) (place : ℕ) → Allows (Kept width IsEntry seats) slots id me place (λ n. n) (Read width (step slots place 0 0 none) me)
  allows_read slots id me place = reads width IsEntry seats slots id me place (Read width (step slots place 0 0 none) me) (λ n by. (refl, by))

pub eq_one : (n : ℕ) → n ≡ 0 → eqb n 1 ≡ true → ⊥
eq_one n zero one = let e = eqb-true n 1 one in omega arith

pub not_one : (n : ℕ) → n ≡ 1 → eqb n 1 ≡ false → ⊥
not_one n one other = let e : true ≡ false = sym (eq-eqb n 1 one) ∙ other in absurd (cc)
