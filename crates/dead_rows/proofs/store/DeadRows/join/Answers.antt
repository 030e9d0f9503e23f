use Rattle.std.proofs.Common.{sym, subst}
use Rattle.word_rows.specs.declared.view.View.{View}
use Rattle.dead_rows.specs.Knowledge.{IsJoined}
use Rattle.dead_rows.proofs.Drawing.{joined_is}
use Rattle.dead_rows.proofs.store.DeadRows.join.Goals as goal

pub returns-clause-joined : goal.returns-clause-joined
returns-clause-joined c = let v = c.args.first.me.0 in let u = c.args.second.me.0 in subst (λ (w : View). IsJoined v u w) (sym c.join.ensures.view) (joined_is v u)
