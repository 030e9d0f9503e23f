use Rattle.std.proofs.Common.{rules, ◌≡◌, true, sym, ◌∙◌, subst}
use Rattle.word_rows.specs.declared.view.View.{View}
use Rattle.dead_rows.specs.Looks.{HasLooked, WasReady}
use Rattle.dead_rows.proofs.Growing.{looked_learnt, learnt_is}
use Rattle.dead_rows.proofs.store.DeadRows.look.Goals as goal

pub returns-clause-looked : goal.returns-clause-looked
returns-clause-looked c = let v = c.args.seat.now.me.0 in let ready : c.load_ready.result ≡ true = search rules in let r = c.load_ready.ensures.ready ready in
    subst (λ (w : View). HasLooked v w c.args.row) (sym (c.contains.ensures.view ∙ r.1)) (looked_learnt v c.args.row r.0)

pub returns-clause-ready : goal.returns-clause-ready
returns-clause-ready c = λ _. let v = c.args.seat.now.me.0 in let ready : c.load_ready.result ≡ true = search rules in let r = c.load_ready.ensures.ready ready in
    subst (λ (w : View). WasReady v w c.args.row) (sym (c.contains.ensures.view ∙ r.1)) (learnt_is v c.args.row r.0)
