-- Which seats fit a table.
use Rattle.std.specs.Prelude.{◌≡◌, ◌+◌, ◌*◌, ◌^◌, ◌<◌, ◌≤◌, [], length}
use Rattle.atomic_table.specs.Seated.{TableId}
use Rattle.atomic_table.specs.declared.shared.Seat.{Seat}
use Rattle.bound_words.specs.declared.view.View.{View}
use Rattle.bound_words.specs.Rows.{Terms, IsRow}

-- the seat is one of the table with this identity, for a system with these terms, and has no raise in hand
pub record IsFitting (t : Terms) (id : TableId) (s : Seat (Unit {0}) View) : Type 0 where
  pub sized : id.words ≡ t.words + 2
  pub no_slots : id.slots ≡ 0
  pub few_words : t.words < 2 ^ 32
  pub table : s.table_id ≡ id
  pub no_slot : s.me.1 ≡ []
  pub seen_row : IsRow t s.me.0.seen
  pub some_place : 0 < length s.me.0.places
  pub idle : s.me.0.in_hand ≡ 0
  pub few_begun : s.me.0.begun ≤ t.rules * s.me.0.sweeps
