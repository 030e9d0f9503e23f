-- What the turns of a sweep leave: loads of the first words, and raises for the first rules.
use Rattle.std.specs.Prelude.{◌≡◌, ◌⊎◌, ℕ, ◌+◌, ◌^◌, ◌<◌, ◌≤◌, true, List, take, slice_index, Some}
use Rattle.bound_words.specs.declared.system.Direction.{Direction}
use Rattle.bound_words.specs.declared.view.View.{View}
use Rattle.bound_words.specs.Rows.{Terms, IsPast, IsRow, IsRowPast}
use Rattle.bound_words.specs.Protocol.{begun, raised, ended}
use Rattle.bound_words.specs.Sweeps.{is_more, asks_more, asking, AreSeen, IsMoved}

-- the first n words are loaded into the row, after the view v
pub record IsLoadedTo (t : Terms) (v : View) (row : List ℕ) (n : ℕ) (v' : View) : Type 0 where
  pub same : v' ≡ record v { seen = v'.seen; loaded = take n row }
  pub seen_row : IsRow t v'.seen
  pub here : (w : ℕ) → w < n → slice_index v'.seen w ≡ slice_index row w
  pub past : (w : ℕ) → w < n → IsPast (t.direction w) (slice_index v.seen w) (slice_index row w)
  pub rest : (w : ℕ) → n ≤ w → slice_index v'.seen w ≡ slice_index v.seen w

-- a raise of the word w for x was begun, made and done
abbrev pub IsRaisedTo : Direction → View → ℕ → ℕ → View → Type 0
IsRaisedTo d v w x v' = (n : ℕ) × (y : ℕ) × (v.mark ≤ n) × (v' ≡ ended (raised (begun v n) w y)) × IsPast d (slice_index v.seen w) y × IsPast d x y × (y < 2 ^ 64)

-- the rule was evaluated on the row, and its word raised where it asks for more
abbrev pub IsEvaluated : Terms → List ℕ → ℕ → View → View → Type 0
IsEvaluated t row rule v v' = ((v' ≡ v) × (asks_more t row (t.asks rule row) ≡ 0))
    ⊎ ((w : ℕ) × (x : ℕ) × (w < t.words) × (t.asks rule row ≡ Some (w, x)) × (is_more (t.direction w) (slice_index row w) x ≡ true) × IsRaisedTo (t.direction w) v w x v')

-- the rules below n were evaluated on the row, after the view v
pub record IsRaisedFor (t : Terms) (row : List ℕ) (v : View) (n : ℕ) (v' : View) : Type 0 where
  pub same : v' ≡ record v { seen = v'.seen; begun = v'.begun; latest = v'.latest }
  pub seen_row : IsRow t v'.seen
  pub advanced : IsRowPast t row v'.seen
  pub asked : AreSeen t row v'.seen n
  pub counted : v'.begun ≡ v.begun + asking t row n
  pub few : asking t row n ≤ n
  pub found : ((asking t row n ≡ 0) × (v'.seen ≡ row)) ⊎ ((v'.mark < v'.latest) × IsMoved t row v'.seen)
