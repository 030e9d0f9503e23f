use Rattle.std.proofs.Common.{arith, ◌<◌, ap, ◌∙◌}
use Rattle.bound_words.proofs.Turns.{raises_more}
use Rattle.bound_words.proofs.walk.raise_row.Goals as goal

pub loop-rule-preserved : goal.loop-rule-preserved
loop-rule-preserved g c = let i = c.loop-rule.invariant in let e = c.evaluate.ensures in let t = g.S.System.terms c.args.shared.now.key.system.value in
    let mono = (g.met.S.System g.world.𝓛 g.world.𝓜 g.world.𝓡 ((λ s p. p), (λ p. p), (λ p. p), λ p. p)).monotone c.args.shared.now.key.system.value in
    let count = ap (λ s. (g.S.System.terms s).rules) c.requires.system in let all = c.rules-rule-end.ensures in let lt = c.loop-rule-test.true in let h : c.loop-rule.rule < t.rules = omega arith in record {
      same_table = e.seat.0 ∙ i.same_table;
      same_id = e.seat.1 ∙ i.same_id;
      no_slot = e.seat.2;
      raised = raises_more t c.args.row.now c.args.seat.now.me.0 c.loop-rule.rule c.loop-rule.seat.me.0 c.evaluate.new.seat.me.0 i.raised c.requires.fits.idle mono c.requires.row.0 h e.view;
    }
