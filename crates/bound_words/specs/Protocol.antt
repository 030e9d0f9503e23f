-- The rule that the words of a table keep at each moment, whichever seats step in which order.
-- Word 0 counts the raises that are done, word 1 those that were begun, and word w + 2 is the word w of the row.
use Rattle.std.specs.Prelude.{◌≡◌, ℕ, zero, suc, ◌+◌, ◌*◌, ◌^◌, ◌<◌, ◌≤◌, true, false, ◌||◌, ◌==◌, cond, List, [], ◌∷◌, ◌++◌, length, take, drop, slice_index, slice_set}
use mathlib.Core.Option.{some}
use lib.ListN.{get_elem?}
use Rattle.atomic_table.specs.Table.{State}
use Rattle.bound_words.specs.declared.view.View.{View}
use Rattle.bound_words.specs.Rows.{Terms, IsPast, further, IsRow, AreMet, IsBetween}

abbrev pub total : (View → ℕ) → List View → ℕ
total f [] = 0
total f (v ∷ vs) = f v + total f vs

abbrev pub raises_in_hand : View → ℕ
raises_in_hand v = v.in_hand

abbrev pub raises_begun : View → ℕ
raises_begun v = v.begun

abbrev pub place_count : View → ℕ
place_count v = length v.places

-- how often a number stands in a list
abbrev pub occurs : ℕ → List ℕ → ℕ
occurs p [] = 0
occurs p (q ∷ qs) = cond (p == q) 1 0 + occurs p qs

abbrev pub has_place : ℕ → View → ℕ
has_place p v = occurs p v.places

-- the row is past what the list has, of the words that the list reaches
abbrev pub Reaches : Terms → List ℕ → List ℕ → Type 0
Reaches t known row = (w : ℕ) → w < length known → IsPast (t.direction w) (slice_index known w) (slice_index row w)

-- The rule's part on one view, where the counts are `done` and `begun`:
-- the row is past what the view saw and loaded; its mark and its latest count are no higher than the counts are;
-- while the count of begun raises is still the mark, what it loaded is what the row has;
-- where it is quiet, no rule asks for more;
-- it has begun at most one raise a rule and sweep, and made at most 2^26 sweeps a place
pub record IsViewOf (t : Terms) (done begun : ℕ) (row : List ℕ) (v : View) : Type 0 where
  pub saw : Reaches t v.seen row
  pub has_loaded : Reaches t v.loaded row
  pub marked : v.mark ≤ done
  pub latest_begun : v.latest ≤ begun
  pub fresh : v.mark ≡ begun → (w : ℕ) → w < length v.loaded → slice_index v.loaded w ≡ slice_index row w
  pub settled : v.quiet ≡ true → AreMet t row t.rules
  pub one_in_hand : v.in_hand ≤ 1
  pub few_in_hand : v.in_hand ≤ v.begun
  pub few_begun : v.begun ≤ t.rules * v.sweeps
  pub few_sweeps : v.sweeps ≤ 2 ^ 26 * length v.places

-- The rule: the row lies between the start row and the least closed row;
-- the count of begun raises is that of the done ones and those in hand, and is the sum of what the views have begun;
-- there are as many places as seats, and each stands in one view alone; and each view is as said
pub record Kept (t : Terms) (start : List ℕ) (seats : ℕ) (s : State (Unit {0}) View) : Type 0 where
  pub done : ℕ
  pub begun : ℕ
  pub row : List ℕ
  pub words_are : s.words ≡ done ∷ begun ∷ row
  pub is_row : IsRow t row
  pub between : IsBetween t start row
  pub in_hand : begun ≡ done + total raises_in_hand s.views
  pub announced : begun ≡ total raises_begun s.views
  pub shared_out : total place_count s.views ≡ seats
  pub each_place : (p : ℕ) → p < seats → total (has_place p) s.views ≡ 1
  pub few_seats : seats ≤ 16
  pub few_rules : t.rules < 2 ^ 32
  pub each_view : (id : ℕ) (v : View) → get_elem? s.views id ≡ some v → IsViewOf t done begun row v

-- the numbers from k on, n of them
abbrev pub from : ℕ → ℕ → List ℕ
from k zero = []
from k (suc n) = k ∷ from (k + 1) n

-- a view that has counted nothing
abbrev pub fresh_view : List ℕ → List ℕ → View
fresh_view seen places = record { seen = seen; loaded = []; places = places; mark = 0; latest = 0; sweeps = 0; begun = 0; in_hand = 0; quiet = false }

abbrev pub first_view : List ℕ → ℕ → View
first_view start seats = fresh_view start (from 0 seats)

-- What each kind of step leaves of the view v, where it found n

-- a load of the word w outside a sweep
abbrev pub looked : View → ℕ → ℕ → View
looked v w n = record v { seen = slice_set v.seen w n }

-- a load of the next word in a sweep
abbrev pub loaded : View → ℕ → ℕ → View
loaded v w n = record v { seen = slice_set v.seen w n; loaded = v.loaded ++ n ∷ [] }

-- a load of the count of done raises, with which a sweep begins
abbrev pub marked : View → ℕ → View
marked v n = record v { loaded = []; mark = n; sweeps = v.sweeps + 1 }

-- a raise is announced in the count of begun raises
abbrev pub begun : View → ℕ → View
begun v n = record v { latest = n + 1; begun = v.begun + 1; in_hand = 1 }

-- the word w is raised to y
abbrev pub raised : View → ℕ → ℕ → View
raised v w y = record v { seen = slice_set v.seen w y }

-- the raise in hand is counted as done
abbrev pub ended : View → View
ended v = record v { in_hand = 0 }

-- a load of the count of begun raises, with which a sweep ends
abbrev pub concluded : View → ℕ → View
concluded v n = record v { latest = n; quiet = v.quiet || (n == v.mark) }

-- a new seat takes the first place, and knows what the old one saw
abbrev pub after_handing : View → View
after_handing v = record v { places = drop 1 v.places }

abbrev pub handed : View → View
handed v = fresh_view v.seen (take 1 v.places)

-- the further value of each word, from the word w on
abbrev pub further_row : Terms → ℕ → List ℕ → List ℕ → List ℕ
further_row t w [] ys = []
further_row t w (x ∷ xs) [] = []
further_row t w (x ∷ xs) (y ∷ ys) = further (t.direction w) x y ∷ further_row t (w + 1) xs ys

-- a seat takes in what another knows and has
abbrev pub joined : Terms → View → View → View
joined t v u = record {
  seen = further_row t 0 v.seen u.seen;
  loaded = [];
  places = v.places ++ u.places;
  mark = 0;
  latest = 0;
  sweeps = v.sweeps + u.sweeps;
  begun = v.begun + u.begun;
  in_hand = 0;
  quiet = v.quiet || u.quiet;
}

abbrev pub spent : View
spent = fresh_view [] []
