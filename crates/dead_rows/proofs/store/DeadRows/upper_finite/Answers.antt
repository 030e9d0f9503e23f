use Rattle.std.proofs.Common.{ap, ◌+◌, ◌∙◌}
use Rattle.num_ends.specs.Ends.{is_below}
use Rattle.num_ends.specs.declared.ends.End.{End}
use Rattle.num_ends.specs.declared.ends.End.TheVariants.{PosInf}
use Rattle.dead_rows.specs.Seats.{row_words}
use Rattle.dead_rows.proofs.Steps.{read_after, finite_is_dec, four_words}
use Rattle.dead_rows.proofs.store.DeadRows.upper_finite.Goals as goal

pub upper_lets_in-requires-clause-decimal : goal.upper_lets_in-requires-clause-decimal
upper_lets_in-requires-clause-decimal c = let v0 = c.args.seat.now.me.0 in let row = c.args.row in let place = c.args.place in let first = c.word_from-places.ensures.view in let second = c.word_from-high.ensures.view in
    finite_is_dec (row_words c.args.seat.now row) place c.args.kind c.word_from-places.result c.word_from-high.result c.word_from-low.result c.requires.end c.requires.kind.0 c.requires.kind.1 c.word_from-places.ensures.word
    (read_after v0 c.word_from-places.new.seat.me.0 row (place + 2) c.word_from-high.result first c.word_from-high.ensures.word)
    (read_after v0 c.word_from-high.new.seat.me.0 row (place + 3) c.word_from-low.result (second ∙ first) c.word_from-low.ensures.word)

pub returns-clause-lets_in : goal.returns-clause-lets_in
returns-clause-lets_in c = let v0 = c.args.seat.now.me.0 in let row = c.args.row in let place = c.args.place in let first = c.word_from-places.ensures.view in let second = c.word_from-high.ensures.view in
    c.upper_lets_in.ensures ∙ ap (λ (e : End). is_below e c.args.value.now) (four_words PosInf (row_words c.args.seat.now row) place c.args.kind c.word_from-places.result c.word_from-high.result c.word_from-low.result c.requires.kind.1 c.word_from-places.ensures.word
    (read_after v0 c.word_from-places.new.seat.me.0 row (place + 2) c.word_from-high.result first c.word_from-high.ensures.word)
    (read_after v0 c.word_from-high.new.seat.me.0 row (place + 3) c.word_from-low.result (second ∙ first) c.word_from-low.ensures.word))
