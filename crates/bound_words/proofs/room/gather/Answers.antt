use Rattle.std.proofs.Common.{arith, ◌≡◌, length}
use Rattle.bound_words.proofs.Closing.{closes_row, closes_between, closes_past, closes_least}
use Rattle.bound_words.proofs.room.gather.Goals as goal

pub returns-clause-is_row : goal.returns-clause-is_row
returns-clause-is_row g c = let key = c.args.table.shared.key in let t = g.S.System.terms key.system.value in let wide : length c.loop-word.row ≡ t.words = omega (arith, c.loop-word.auto.row, c.requires.row) in
    let end = c.loop-word-test.false in closes_row t key.start.value key.seats c.args.seat.id c.args.seat.me.0 c.close_with-closed.result.words.items c.loop-word.row c.close_with-closed.result.slots.items c.close_with-closed.ensures.values.2 wide (λ i h. c.loop-word.invariant i (omega (arith, c.loop-word.auto.row)))

pub returns-clause-between : goal.returns-clause-between
returns-clause-between g c = let key = c.args.table.shared.key in let t = g.S.System.terms key.system.value in let wide : length c.loop-word.row ≡ t.words = omega (arith, c.loop-word.auto.row, c.requires.row) in
    let end = c.loop-word-test.false in closes_between t key.start.value key.seats c.args.seat.id c.args.seat.me.0 c.close_with-closed.result.words.items c.loop-word.row c.close_with-closed.result.slots.items c.close_with-closed.ensures.values.2 wide (λ i h. c.loop-word.invariant i (omega (arith, c.loop-word.auto.row)))

pub returns-clause-past : goal.returns-clause-past
returns-clause-past g c = let key = c.args.table.shared.key in let t = g.S.System.terms key.system.value in let wide : length c.loop-word.row ≡ t.words = omega (arith, c.loop-word.auto.row, c.requires.row) in
    let end = c.loop-word-test.false in closes_past t key.start.value key.seats c.args.seat.id c.args.seat.me.0 c.close_with-closed.result.words.items c.loop-word.row c.close_with-closed.result.slots.items c.close_with-closed.ensures.values.2 wide (λ i h. c.loop-word.invariant i (omega (arith, c.loop-word.auto.row)))
    c.requires.fits.seen_row.length_is

pub returns-clause-least : goal.returns-clause-least
returns-clause-least g c = let key = c.args.table.shared.key in let t = g.S.System.terms key.system.value in let wide : length c.loop-word.row ≡ t.words = omega (arith, c.loop-word.auto.row, c.requires.row) in
    let end = c.loop-word-test.false in closes_least t key.start.value key.seats c.args.seat.id c.args.seat.me.0 c.close_with-closed.result.words.items c.loop-word.row c.close_with-closed.result.slots.items c.close_with-closed.ensures.values.2 wide (λ i h. c.loop-word.invariant i (omega (arith, c.loop-word.auto.row)))
