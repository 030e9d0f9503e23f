use Rattle.std.proofs.Common.{◌≡◌, ℕ, ◌+◌, ◌*◌, ◌<◌, take, length}
use Rattle.box_model.specs.Boxes.{fluent_in}
use Rattle.box_words.specs.Words.{words_of, IsEndDec}
use Rattle.word_rows.specs.Views.{with_words}
use Rattle.word_rows.specs.Tables.{IsFitting}
use Rattle.dead_rows.specs.Seats.{store_id}
use Rattle.dead_rows.proofs.store.DeadRows.write.Given as goal

abbrev pub invariant-words : goal.invariant-words
invariant-words l = record {
  fits : IsFitting (store_id l.fn.self) l.seat;
  view : l.seat.me.0 ≡ with_words l.fn.seat.me.0 l.fn.row (take l.place (words_of l.fn.dead));
  decimals : (x : ℕ) → length l.fn.dead.facts + 8 * x < l.place → IsEndDec (fluent_in l.fn.dead x).0 × IsEndDec (fluent_in l.fn.dead x).1;
}
