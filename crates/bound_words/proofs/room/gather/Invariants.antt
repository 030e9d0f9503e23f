use Rattle.std.proofs.Common.{◌≡◌, ℕ, ◌+◌, ◌<◌, get_or}
use mathlib.Core.Option.{some}
use lib.ListN.{get_elem?}
use Rattle.bound_words.proofs.room.gather.Given as goal

abbrev pub invariant-loop-word : goal.invariant-loop-word
invariant-loop-word g l = (i : ℕ) → i < l.word → get_elem? l.closed.words.items (i + 2) ≡ some (get_or l.row i 0)
