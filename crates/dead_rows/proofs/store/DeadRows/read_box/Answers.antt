use Rattle.std.proofs.Common.{◌≡◌, map, length, sym, ap, ◌∙◌, subst}
use Rattle.std.specs.List.{range_with_len}
use Rattle.box_words.specs.Words.{interval_at}
use Rattle.word_rows.specs.declared.view.View.{View}
use Rattle.word_rows.specs.Views.{words_known}
use Rattle.dead_rows.specs.Readings.{AreEnds, AreInhabited}
use Rattle.dead_rows.specs.Seats.{task_of, row_words}
use Rattle.dead_rows.proofs.Reading.{ends_are, inhabited_are, box_is}
use Rattle.dead_rows.proofs.store.DeadRows.read_box.Goals as goal

pub read_fluents-requires-clause-ends : goal.read_fluents-requires-clause-ends
read_fluents-requires-clause-ends c = let store = c.args.self.now in let sp = c.requires.spells in let row = c.args.row in subst (λ (v : View). AreEnds store.shape (words_known v row)) (sym c.read_facts.ensures.view)
    (ends_are (task_of store) store.shape store.shape_is (row_words c.args.seat.now row) sp.0 sp.1)

pub read_fluents-requires-clause-inhabited : goal.read_fluents-requires-clause-inhabited
read_fluents-requires-clause-inhabited c = let store = c.args.self.now in let sp = c.requires.spells in let row = c.args.row in subst (λ (v : View). AreInhabited store.shape (words_known v row)) (sym c.read_facts.ensures.view)
    (inhabited_are (task_of store) store.shape store.shape_is (row_words c.args.seat.now row) sp.0 sp.1)

pub returns-clause-read : goal.returns-clause-read
returns-clause-read c = λ b sp. let store = c.args.self.now in let row = c.args.row in let words = row_words c.args.seat.now row in let facts = c.in_ok-facts.facts.items in let fluents = c.in_ok-fluents.fluents.items in
    let read : fluents ≡ map (interval_at store.shape.facts words) (range_with_len 0 (length store.shape.places)) =
    c.in_ok-fluents.ensures.fluents ∙ ap (λ (v : View). map (interval_at store.shape.facts (words_known v row)) (range_with_len 0 (length store.shape.places))) c.read_facts.ensures.view in
    box_is (task_of store) store.shape store.shape_is words b sp facts fluents c.in_ok-facts.ensures.facts read _ c.from_vec.ensures c.from_vec-2.ensures
