use Rattle.std.proofs.Common.{arith, ◌≡◌, ◌+◌, ◌<◌, length, slice_set, sym, ap, ◌∙◌, subst}
use Rattle.bound_words.specs.Turns.{IsLoadedTo}
use Rattle.bound_words.proofs.Picks.{Mine}
use Rattle.bound_words.proofs.Turns.{loads_more}
use Rattle.bound_words.proofs.walk.load_row.Goals as goal

pub loop-word-preserved : goal.loop-word-preserved
loop-word-preserved g c = let t = g.S.System.terms c.args.shared.now.key.system.value in let i = c.loop-word.invariant in let e = c.load.ensures in let row = c.loop-word.row in let w = c.loop-word.word in let v = c.args.seat.now.me.0 in
    let wide : length row ≡ t.words = omega (arith, c.loop-word.auto.row, c.requires.row) in let h : w < t.words = omega (arith, c.loop-word.auto.row, c.requires.row, c.loop-word-test.true) in record {
      same_table = e.seat.0 ∙ i.same_table;
      same_id = e.seat.1 ∙ i.same_id;
      no_slot = ap (λ (m : Mine). m.1) e.view;
      loaded = subst (λ (m : Mine). IsLoadedTo t v (slice_set row w c.load.result) (w + 1) m.0) (sym e.view) (loads_more t v row w c.loop-word.seat.me.0 c.load.result i.loaded h wide e.past (omega arith));
    }
