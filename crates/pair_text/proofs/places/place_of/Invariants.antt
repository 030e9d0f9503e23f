use Rattle.std.proofs.Common.{◌≡◌, ◌≤◌, ◌+◌, take}
use Rattle.pair_text.specs.Places.{behind_line_feed, line_feeds}
use Rattle.pair_text.proofs.places.place_of.Given as goal

abbrev pub invariant-loop-byte : goal.invariant-loop-byte
invariant-loop-byte l =
    (l.line ≡ line_feeds (take l.byte-index l.front) + 1) × (l.column ≡ behind_line_feed (take l.byte-index l.front) + 1)
    × (l.line ≤ l.byte-index + 1) × (l.column ≤ l.byte-index + 1)
