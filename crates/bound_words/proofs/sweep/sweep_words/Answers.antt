use Rattle.std.proofs.Common.{arith, ◌≡◌, ℕ, List, length, sym, ap, ◌∙◌, subst}
use Rattle.bound_words.specs.declared.view.View.{View}
use Rattle.bound_words.specs.Sweeps.{AreSeen, IsMoved}
use Rattle.bound_words.proofs.Picks.{Mine}
use Rattle.bound_words.proofs.SweepLaws.{sweep_asked, sweep_moves}
use Rattle.bound_words.proofs.sweep.sweep_words.Goals as goal

pub returns-then-begun-done-clause-asked : goal.returns-then-begun-done-clause-asked
returns-then-begun-done-clause-asked g c = let t = g.S.System.terms c.args.shared.now.key.system.value in let v₀ : View = c.args.seat.now.me.0 in
    let mono = (g.met.S.System g.world.𝓛 g.world.𝓜 g.world.𝓡 ((λ s p. p), (λ p. p), (λ p. p), λ p. p)).monotone c.args.shared.now.key.system.value in
    let wide : length c.load_row.new.row ≡ t.words = omega (arith, c.load_row.auto.row, c.requires.row) in
    subst (λ (m : Mine). AreSeen t m.0.loaded m.0.seen t.rules × AreSeen t v₀.seen m.0.seen t.rules) (sym c.load_begun-begun.ensures.view)
    (sweep_asked t v₀ c.load_done-done.new.seat.me.0 c.load_row.new.seat.me.0 c.raise_row.new.seat.me.0 c.load_row.new.row wide (ap (λ (m : Mine). m.0.seen) c.load_done-done.ensures.view)
    c.load_row.ensures.view c.raise_row.ensures.view mono c.requires.fits.seen_row)

pub returns-else-begun-done-clause-asked : goal.returns-else-begun-done-clause-asked
returns-else-begun-done-clause-asked g c = let t = g.S.System.terms c.args.shared.now.key.system.value in let v₀ : View = c.args.seat.now.me.0 in
    let mono = (g.met.S.System g.world.𝓛 g.world.𝓜 g.world.𝓡 ((λ s p. p), (λ p. p), (λ p. p), λ p. p)).monotone c.args.shared.now.key.system.value in
    let wide : length c.load_row.new.row ≡ t.words = omega (arith, c.load_row.auto.row, c.requires.row) in
    subst (λ (m : Mine). AreSeen t m.0.loaded m.0.seen t.rules × AreSeen t v₀.seen m.0.seen t.rules) (sym c.load_begun-begun.ensures.view)
    (sweep_asked t v₀ c.load_done-done.new.seat.me.0 c.load_row.new.seat.me.0 c.raise_row.new.seat.me.0 c.load_row.new.row wide (ap (λ (m : Mine). m.0.seen) c.load_done-done.ensures.view)
    c.load_row.ensures.view c.raise_row.ensures.view mono c.requires.fits.seen_row)

pub returns-else-begun-done-clause-sole : goal.returns-else-begun-done-clause-sole
returns-else-begun-done-clause-sole g c = λ every _. let t = g.S.System.terms c.args.shared.now.key.system.value in let v₀ : View = c.args.seat.now.me.0 in
    let wide : length c.load_row.new.row ≡ t.words = omega (arith, c.load_row.auto.row, c.requires.row) in let d = c.load_done-done.ensures in let r = c.load_row.ensures.view in let u = c.raise_row.ensures.view in
    let places : c.raise_row.new.seat.me.0.places ≡ v₀.places = ap (λ (v : View). v.places) u.same ∙ (ap (λ (v : View). v.places) r.same ∙ ap (λ (m : Mine). m.0.places) d.view) in
    subst (λ (m : Mine). IsMoved t v₀.seen m.0.seen) (sym c.load_begun-begun.ensures.view)
    (sweep_moves t v₀ c.load_done-done.new.seat.me.0 c.load_row.new.seat.me.0 c.raise_row.new.seat.me.0 c.load_row.new.row wide (ap (λ (m : Mine). m.0.seen) d.view) r u
    c.load_done-done.result c.load_begun-begun.result (ap (λ (m : Mine). m.0.begun) d.view) (d.sole every) (c.load_begun-begun.ensures.sole (ap (λ (l : List ℕ). length l) places ∙ every)) c.if-begun-done.false)
