use Rattle.std.proofs.Common.{rules, ℕ, ◌<◌, length, IsTrue, IsFalse, sym, subst}
use Rattle.num_ends.specs.Ends.{has}
use Rattle.ground_task.specs.Meaning.{fluent_value}
use Rattle.box_words.specs.Words.{interval_at}
use Rattle.word_rows.specs.declared.view.View.{View}
use Rattle.word_rows.specs.Views.{words_known}
use Rattle.dead_rows.specs.Readings.{AreEnds}
use Rattle.dead_rows.specs.Seats.{task_of, row_words}
use Rattle.dead_rows.proofs.Reading.{ends_are, contains_by, value_decides}
use Rattle.dead_rows.proofs.store.DeadRows.contains.Goals as goal

pub has_values-requires-clause-ends : goal.has_values-requires-clause-ends
has_values-requires-clause-ends c = let store = c.args.self.now in let sp = c.requires.spells in let row = c.args.row in subst (λ (v : View). AreEnds store.shape (words_known v row)) (sym c.has_facts.ensures.view)
    (ends_are (task_of store) store.shape store.shape_is (row_words c.args.seat.now row) sp.0 sp.1)

pub returns-then-has_facts-clause-contains : goal.returns-then-has_facts-clause-contains
returns-then-has_facts-clause-contains c = λ all b sp. let store = c.args.self.now in let row = c.args.row in let s = c.args.state.now in let words = row_words c.args.seat.now row in let shape = store.shape in
    let facts : IsTrue c.has_facts.result = search rules in
    contains_by (task_of store) shape store.shape_is words b sp s c.requires.state (c.has_facts.ensures.all facts)
    (subst (λ (v : View). (x : ℕ) → x < length shape.places → IsTrue (has (interval_at shape.facts (words_known v row) x) (fluent_value shape.places s x))) c.has_facts.ensures.view (c.has_values.ensures.all all))

pub returns-then-has_facts-clause-without : goal.returns-then-has_facts-clause-without
returns-then-has_facts-clause-without c = λ one b sp. let store = c.args.self.now in let row = c.args.row in let s = c.args.state.now in let words = row_words c.args.seat.now row in let shape = store.shape in
    value_decides (task_of store) shape store.shape_is words b sp s
    (subst (λ (v : View). (x : ℕ) × (x < length shape.places) × IsFalse (has (interval_at shape.facts (words_known v row) x) (fluent_value shape.places s x))) c.has_facts.ensures.view (c.has_values.ensures.one one))
