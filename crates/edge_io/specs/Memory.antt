-- Files and a sink in memory, whose calls fail where their numbers say so.
use Rattle.std.specs.Prelude.{ℕ, ◌-◌, ◌==◌, Bool, ◌||◌, if◌then◌else◌, List, [], ◌++◌, length, take, drop, Option, None, unwrap_or}
use Rattle.std.specs.List.{list_any}
use Rattle.std.specs.Option.{option_map}
use Rattle.edge_io.specs.Causes.{counted}
use Rattle.edge_io.specs.Folder.{Folder, bytes_named}
use Rattle.edge_io.specs.declared.calls.Calls.{Calls}

-- the number of the next call is listed among those that fail
abbrev pub is_next_listed : Calls → Bool
is_next_listed calls = list_any (λ k. k == counted calls.made) calls.fails

-- after one more call, which failed or didn't
abbrev pub after_call : Calls → Bool → Calls
after_call calls failed = record calls {
  made = counted calls.made;
  faults = if failed then counted calls.faults else calls.faults;
}

-- files in memory
pub record FilesState : Type 0 where
  pub folder : Folder
  -- those of `begin` and `read` together
  pub calls : Calls
  -- how many calls of `begin` there were, and the count of faults as the last of them was made
  pub begun : ℕ
  pub mark : ℕ
  -- what is left of the file that is read, if one is
  pub left : Option (List ℕ)

abbrev pub after_begin : FilesState → List ℕ → FilesState
after_begin s name = record s {
  calls = after_call s.calls (is_next_listed s.calls);
  begun = counted s.begun;
  mark = s.calls.faults;
  left = if is_next_listed s.calls then None else bytes_named s.folder name;
}

-- the bytes that a read of at most `size` of them gives
abbrev pub bytes_given : FilesState → ℕ → List ℕ
bytes_given s size = if is_next_listed s.calls then [] else take size (unwrap_or s.left [])

abbrev pub after_read : FilesState → ℕ → FilesState
after_read s size = record s {
  calls = after_call s.calls (is_next_listed s.calls);
  left = option_map (λ bytes. drop (length (bytes_given s size)) bytes) s.left;
}

-- a sink in memory
pub record SinkState : Type 0 where
  -- how many bytes it holds at most
  pub room : ℕ
  pub calls : Calls
  pub written : List ℕ

abbrev pub room_left : SinkState → ℕ
room_left s = s.room - length s.written

-- the next write fails: its number is listed, or no room is left
abbrev pub is_refused : SinkState → Bool
is_refused s = is_next_listed s.calls || room_left s == 0

-- the bytes of a piece that a write appends
abbrev pub bytes_taken : SinkState → List ℕ → List ℕ
bytes_taken s piece = if is_refused s then [] else take (room_left s) piece

abbrev pub after_write : SinkState → List ℕ → SinkState
after_write s piece = record s {
  calls = after_call s.calls (is_refused s);
  written = s.written ++ bytes_taken s piece;
}
