use Rattle.std.proofs.Common.{rules, arith, ◌≡◌, ◌<◌, ◌≤◌, ℕ, refl, sym, ap, ◌∙◌, subst}
use Rattle.word_rows.specs.declared.view.View.{View}
use Rattle.word_rows.specs.Views.{claimed, with_words, opened, Knows}
use Rattle.box_words.specs.Words.{words_of}
use Rattle.box_words.proofs.Decoding.{count}
use Rattle.dead_rows.specs.Knowledge.{HasDrawn}
use Rattle.dead_rows.specs.Seats.{task_of}
use Rattle.dead_rows.proofs.Reading.{width_is}
use Rattle.dead_rows.proofs.Drawing.{drawn_only, drawn_written, written_known}
use Rattle.dead_rows.proofs.store.DeadRows.publish.Goals as goal

pub returns-then-number-ge-ROWS-clause-full : goal.returns-then-number-ge-ROWS-clause-full
returns-then-number-ge-ROWS-clause-full c = λ n e. let v = c.args.seat.me.0 in let number : ℕ = c.claim-number.result in let same : number ≡ n = cc in let many : 1024 ≤ number = search rules in
    subst (λ (k : ℕ). (1024 ≤ k) × HasDrawn v k c.claim-number.new.seat.me.0) same (many, subst (λ (u : View). HasDrawn v number u) (sym c.claim-number.ensures.view) (drawn_only v number))

pub open-requires-clause-whole : goal.open-requires-clause-whole
open-requires-clause-whole c = let store = c.args.self.now in let b = c.args.dead.now in let w = width_is (task_of store) store.shape b store.shape_is c.requires.dead in let wide = store.wide in let a = w.0 in let x = w.1 in
    (words_of b, ap (λ v. v.writing) c.write.ensures.view, omega (arith, count b), (b, record { dead = c.requires.dead; wordable = c.write.ensures.wordable; spelled = refl }))

pub returns-clause-at : goal.returns-clause-at
returns-clause-at c = λ row e. let v = c.args.seat.me.0 in let ws = words_of c.args.dead.now in let number : ℕ = c.claim-number.result in let same : number ≡ row = cc in let few : number < 1024 = search rules in
    let is : c.open.new.seat.me.0 ≡ opened (with_words (claimed v number) number ws) = c.open.ensures.view ∙ (ap opened c.write.ensures.view ∙ ap (λ (u : View). opened (with_words u number ws)) c.claim-number.ensures.view) in
    subst (λ (k : ℕ). (k < 1024) × HasDrawn v k c.open.new.seat.me.0 × Knows c.open.new.seat.me.0 k ws) same
    (subst (λ (u : View). (number < 1024) × HasDrawn v number u × Knows u number ws) (sym is) (few, drawn_written v number ws, written_known v number ws))

pub returns-clause-claims : goal.returns-clause-claims
returns-clause-claims c = let ws = words_of c.args.dead.now in let number : ℕ = c.claim-number.result in
    ap (λ (u : View). u.claims) (c.open.ensures.view ∙ (ap opened c.write.ensures.view ∙ ap (λ (u : View). opened (with_words u number ws)) c.claim-number.ensures.view))
