use Rattle.std.proofs.Common.{arith, ◌≤◌, ◌<◌, ◌+◌, ◌*◌, ℕ, [], ◌∷◌, ◌++◌, length, take, sym, ap, ◌∙◌}
use Rattle.std.proofs.lemmas.List.{take_all, take_more, length-take-le}
use mathlib.Core.Logic.{dite}
use native.Mathlib.Decide.{ℕ_discrete}
use Rattle.box_words.specs.Words.{words_of}
use Rattle.box_words.proofs.Decoding.{count}
use Rattle.word_rows.specs.Views.{with_words, pushed}
use Rattle.dead_rows.specs.Seats.{task_of}
use Rattle.dead_rows.proofs.Reading.{width_is}
use Rattle.dead_rows.proofs.store.DeadRows.write.Goals as goal

pub word_at-requires : goal.word_at-requires
word_at-requires c = let b = c.args.dead.now in let w = width_is (task_of c.args.self.now) c.args.self.now.shape b c.args.self.now.shape_is c.requires.dead in let lt = c.words-test.true in let e = c.width-place-end.ensures in let a = w.0 in let x = w.1 in omega arith

pub store-requires-clause-writes : goal.store-requires-clause-writes
store-requires-clause-writes c = let b = c.args.dead.now in let ws = words_of b in let inv = c.words.invariant in let w = width_is (task_of c.args.self.now) c.args.self.now.shape b c.args.self.now.shape_is c.requires.dead in
    let lt = c.words-test.true in let e = c.width-place-end.ensures in let a = w.0 in let x = w.1 in let le : c.words.place ≤ length ws = omega (arith, count b) in
    (take c.words.place ws, ap (λ v. v.writing) inv.view, length-take-le c.words.place ws le)

pub words-preserved : goal.words-preserved
words-preserved c = let b = c.args.dead.now in let ws = words_of b in let inv = c.words.invariant in let w = width_is (task_of c.args.self.now) c.args.self.now.shape b c.args.self.now.shape_is c.requires.dead in
    let test = c.words-test.true in let e = c.width-place-end.ensures in let a = w.0 in let x = w.1 in let p = c.words.place in let lt : p < length ws = omega (arith, count b) in record {
      fits = c.store.ensures.seat;
      view = c.store.ensures.view ∙ (ap (λ v. pushed v c.word_at.result) inv.view ∙ ap (with_words c.args.seat.now.me.0 c.args.row) (ap (λ (n : ℕ). take p ws ++ n ∷ []) c.word_at.ensures.word ∙ sym (take_more ws p 0 lt)));
      decimals = λ x less. dite (ℕ_discrete p (length b.facts + 8 * x)) (λ e. c.word_at.ensures.decimals x e) (λ ne. inv.decimals x (omega arith));
    }

pub returns-clause-view : goal.returns-clause-view
returns-clause-view c = let b = c.args.dead.now in let ws = words_of b in let inv = c.words.invariant in let w = width_is (task_of c.args.self.now) c.args.self.now.shape b c.args.self.now.shape_is c.requires.dead in
    let test = c.words-test.false in let e = c.width-place-end.ensures in let a = w.0 in let x = w.1 in let p = c.words.place in let le : length ws ≤ p = omega (arith, count b) in
    inv.view ∙ ap (with_words c.args.seat.now.me.0 c.args.row) (take_all p ws le)

pub returns-clause-wordable : goal.returns-clause-wordable
returns-clause-wordable c = let b = c.args.dead.now in let inv = c.words.invariant in let w = width_is (task_of c.args.self.now) c.args.self.now.shape b c.args.self.now.shape_is c.requires.dead in
    let test = c.words-test.false in let e = c.width-place-end.ensures in let a = w.0 in let y = w.1 in record {
      inhabited = c.requires.dead.a_box.inhabited;
      lower_dec = λ x lt. (inv.decimals x (omega arith)).0;
      upper_dec = λ x lt. (inv.decimals x (omega arith)).1;
    }
