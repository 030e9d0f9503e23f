-- How what a seat knows grows.
use Rattle.std.specs.Prelude.{◌≡◌, ◌⊎◌, ℕ, ◌+◌, ◌≤◌, List, [], ◌∷◌, ◌++◌}
use Rattle.word_rows.specs.declared.view.View.{View}
use Rattle.word_rows.specs.Views.{Knows, loads_of, last_of}

-- the seat drew no number, knows each row that it knew, and counts no load less
pub record IsLater (v w : View) : Type 0 where
  pub claims : w.claims ≡ v.claims
  pub knows : (row : ℕ) (words : List ℕ) → Knows v row words → Knows w row words
  pub loads : (row : ℕ) → loads_of v row ≤ loads_of w row

-- the seat drew one number more, and otherwise knows no less
pub record HasDrawn (v : View) (n : ℕ) (w : View) : Type 0 where
  pub claims : w.claims ≡ v.claims ++ n ∷ []
  pub knows : (row : ℕ) (words : List ℕ) → Knows v row words → Knows w row words
  pub loads : (row : ℕ) → loads_of w row ≡ loads_of v row
  pub last : (row : ℕ) → last_of w row ≡ last_of v row

-- two seats are one
pub record IsJoined (v u w : View) : Type 0 where
  pub claims : w.claims ≡ v.claims ++ u.claims
  pub knows_first : (row : ℕ) (words : List ℕ) → Knows v row words → Knows w row words
  pub knows_second : (row : ℕ) (words : List ℕ) → Knows u row words → Knows w row words
  pub knows_no_more : (row : ℕ) (words : List ℕ) → Knows w row words → Knows v row words ⊎ Knows u row words
  pub loads : (row : ℕ) → loads_of w row ≡ loads_of v row + loads_of u row
  pub last : (row : ℕ) → last_of w row ≡ last_of v row
