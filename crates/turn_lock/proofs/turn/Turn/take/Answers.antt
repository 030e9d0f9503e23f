use Rattle.std.proofs.Common.{rules, ◌≡◌, Some, subst, sym, ap, ◌∙◌}
use Rattle.turn_lock.specs.Turns.{Took}
use Rattle.turn_lock.specs.Words.{worker_in}
use Rattle.turn_lock.specs.Locks.{origin}
use Rattle.turn_lock.proofs.turn.Turn.take.Goals as goal

pub lift-requires-clause-took : goal.lift-requires-clause-took
lift-requires-clause-took g c κs within = let place = c.into_place-worker.result.1 in let before = c.of-before.result.value in let said = Some (origin c.args.self.now) in
    let same : before ≡ place = c.of-before.ensures in let still : c.tries.place.me ≡ place.me = search rules in
    let worker : worker_in before.me.0 ≡ c.into_place-worker.result.0 =
    ap (λ p. worker_in p.me.0) same ∙ (ap (λ m. worker_in m.0) c.into_place-worker.ensures.place.1 ∙ sym c.into_place-worker.ensures.worker) in
    let took : Took g.T.Told.terms g.T.Told.journal said before.me c.try_turn.new.place.me =
    subst (λ m. Took g.T.Told.terms g.T.Told.journal said m c.try_turn.new.place.me) (still ∙ ap (λ p. p.me) (sym same)) (c.try_turn.ensures.took c.if-try_turn-eq0.true) in (worker, took)
