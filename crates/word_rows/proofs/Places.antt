-- Where rows stand, and what of them stays where one word changes.
use Rattle.std.proofs.Common.{◌≡◌, ◌≢◌, ℕ, zero, suc, ◌+◌, ◌*◌, ◌<◌, ◌≤◌, List, [], ◌∷◌, ◌++◌, length, get_or, set, replicate, sym, refl, ap, ◌∙◌, subst, inl, inr, ⊎_elim, arith, Option, Some, None, mul-le-mul_right, suc-mul}
use Rattle.std.proofs.lemmas.List.{get_or_append_left, get_or_push, length_push, get_or-set_same, get_or-set_other}
use mathlib.Core.Logic.{dite}
use native.Mathlib.Decide.{dec_lt}
use Rattle.word_rows.specs.declared.view.Line.{Line}
use Rattle.word_rows.specs.declared.view.View.{View}
use Rattle.word_rows.specs.Rule.{row_start, StandsAt, IsReadyRow, IsUnderWay, IsWriting, IsViewOf, IsRowAt}

rows_apart : (x y n : ℕ) → x < y → x * n + n ≤ y * n
rows_apart x y n h = let a : suc x * n ≤ y * n = mul-le-mul_right n h in omega (arith, suc-mul x n)

pub zero_at : (n i : ℕ) → ◌≡◌ {A = ℕ} (get_or (replicate n 0) i 0) 0
zero_at zero i = refl
zero_at (suc n) zero = refl
zero_at (suc n) (suc i) = zero_at n i

pub stands_set : (table words : List ℕ) (start k n : ℕ) → ((j : ℕ) → j < length words → start + j ≢ k) → StandsAt table start words → StandsAt (set table k n) start words
stands_set table words start k n apart h j lt = get_or-set_other table k (start + j) n 0 (apart j lt) ∙ h j lt

pub stands_push : (table words : List ℕ) (start n : ℕ) → start + length words < length table → StandsAt table start words → StandsAt (set table (start + length words) n) start (words ++ n ∷ [])
stands_push table words start n room h j lt = dite (dec_lt j (length words))
    (λ less. get_or-set_other table (start + length words) (start + j) n 0 (λ e. omega arith) ∙ (h j less ∙ sym (get_or_append_left words (n ∷ []) 0 j less)))
    (λ no. let e : length words ≡ j = omega (arith, length_push words n) in
    ap (λ (i : ℕ). get_or (set table (start + length words) n) (start + i) 0) (sym e) ∙ (get_or-set_same table (start + length words) n 0 room ∙ sym (get_or_push words n 0 j e)))

module _ (width : ℕ) where
  before : (q r i j : ℕ) → q < r → i < width → row_start width q + i ≢ row_start width r + j
  before q r i j lt hi e = let a = rows_apart q r width lt in omega arith

  -- the words of two rows stand at different places
  apart : (q r i j : ℕ) → q ≢ r → i < width → j < width → row_start width q + i ≢ row_start width r + j
  apart q r i j ne hi hj e = dite (dec_lt q r) (λ lt. before q r i j lt hi e) (λ no. before r q j i (omega arith) hj (sym e))

  pub inside_table : (row j : ℕ) → row < 1024 → j < width → row_start width row + j < 1025 + 1024 * width
  inside_table row j hr hj = let a = rows_apart row 1024 width hr in omega arith

  -- the word k is none of the row's
  abbrev pub Spares : ℕ → ℕ → Type 0
  Spares k row = (row + 1 ≢ k) × ((j : ℕ) → j < width → row_start width row + j ≢ k)

  pub spares_count : (row : ℕ) → Spares 0 row
  spares_count row = ((λ e. omega arith), λ j h e. omega arith)

  pub spares_ready : (q r : ℕ) → q ≢ r → r < 1024 → Spares (r + 1) q
  spares_ready q r ne lt = ((λ e. ne (omega arith)), λ j h e. omega arith)

  pub spares_word : (q r j : ℕ) → q ≢ r → q < 1024 → j < width → Spares (row_start width r + j) q
  spares_word q r j ne lt hj = ((λ e. omega arith), λ i h. apart q r i j ne h hj)

  pub ready_stays : (table : List ℕ) (row : ℕ) (words : List ℕ) (k n : ℕ) → Spares k row → IsReadyRow width table row words → IsReadyRow width (set table k n) row words
  ready_stays table row words k n free h = record {
    inside = h.inside;
    ready = get_or-set_other table k (row + 1) n 0 free.0 ∙ h.ready;
    whole = h.whole;
    stands = stands_set table words (row_start width row) k n (λ j lt. free.1 j (subst (λ (m : ℕ). j < m) h.whole lt)) h.stands;
  }

  pub row_stays : (IsEntry : List ℕ → Type 0) (table : List ℕ) (row k n : ℕ) → Spares k row → get_or table 0 0 ≤ get_or (set table k n) 0 0 → IsRowAt width IsEntry table row → IsRowAt width IsEntry (set table k n) row
  row_stays IsEntry table row k n free more h = ⊎_elim (λ shut. inl (get_or-set_other table k (row + 1) n 0 free.0 ∙ shut))
      (λ t. let lt = t.0 in let drawn : row < get_or (set table k n) 0 0 = omega arith in inr (drawn, t.1, ready_stays table row t.1 k n free t.2, t.3)) h

  pub under_way_stays : (table : List ℕ) (owner owner' : ℕ → ℕ) (seat k n : ℕ) (l : Line) → Spares k l.row → get_or table 0 0 ≤ get_or (set table k n) 0 0 → owner' l.row ≡ owner l.row
      → IsUnderWay width table owner seat l → IsUnderWay width (set table k n) owner' seat l
  under_way_stays table owner owner' seat k n l free more same h = record {
    inside = h.inside;
    claimed = let lt = h.claimed in omega arith;
    own = same ∙ h.own;
    shut = get_or-set_other table k (l.row + 1) n 0 free.0 ∙ h.shut;
    part = h.part;
    stands = stands_set table l.words (row_start width l.row) k n (λ j lt. let part = h.part in free.1 j (omega arith)) h.stands;
  }

  writing_stays : (table table' : List ℕ) (owner owner' : ℕ → ℕ) (seat : ℕ) (w : Option Line) → ((l : Line) → IsUnderWay width table owner seat l → IsUnderWay width table' owner' seat l)
      → IsWriting width table owner seat w → IsWriting width table' owner' seat w
  writing_stays table table' owner owner' seat None f h = tt
  writing_stays table table' owner owner' seat (Some l) f h = f l h

  pub view_stays : (table table' : List ℕ) (owner owner' : ℕ → ℕ) (seat : ℕ) (v : View) → ((row : ℕ) (words : List ℕ) → IsReadyRow width table row words → IsReadyRow width table' row words)
      → ((l : Line) → IsUnderWay width table owner seat l → IsUnderWay width table' owner' seat l) → IsViewOf width table owner seat v → IsViewOf width table' owner' seat v
  view_stays table table' owner owner' seat v keeps goes h = record {
    few_claims = h.few_claims;
    knows = λ i d lt. keeps (get_or v.known i d).row (get_or v.known i d).words (h.knows i d lt);
    writes = writing_stays table table' owner owner' seat v.writing goes h.writes;
  }

  pub row_before : (row : ℕ) → row < 1024 → row * width ≤ 1024 * width
  row_before row lt = let a = rows_apart row 1024 width lt in omega arith
