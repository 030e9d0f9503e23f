use Rattle.std.proofs.Common.{rules, ◌≡◌, ◌<◌, ℕ, length, get_or, map, All, subst, sym, ap, ◌∙◌}
use Rattle.turn_lock.specs.declared.seat.TurnSeat.{TurnSeat}
use Rattle.turn_lock.specs.Seats.{lock_of_seat, worker_of}
use Rattle.turn_lock.specs.Locks.{lock_id}
use Rattle.turn_lock.proofs.Rows.{same_workers}
use Rattle.thread_tests.proofs.diaries.all_turn.Goals as goal

pub returns : goal.returns
returns g c = let seats = c.args.seats in let after = c.in_ok-all.all.items in let jobs = c.into_vec.result.items in let same : jobs ≡ seats = c.into_vec.ensures in
    let called : (i : ℕ) (d : TurnSeat) → i < length jobs → (lock_of_seat (get_or after i d) ≡ lock_id c.args.turn.now) × ((get_or after i d).worker ≡ (get_or jobs i d).worker) =
    λ i d lt. let j = (c.in_ok-all.ensures.each i d lt).1 in let p = j.call.met in (p.0, p.1 ∙ ap (λ s. s.worker) (sym (j.job_is d))) in
    let len : length after ≡ length jobs = search rules in
    let list : c.from_vec.result ≡ after = search rules in (
      ap (map worker_of) list ∙ (same_workers jobs after len (λ i d lt. (called i d lt).1) ∙ (ap (map worker_of) same ∙ c.requires.0)),
      subst (All (λ s. lock_of_seat s ≡ lock_id c.args.turn.now)) (sym list) (λ k d lt. (called k d (subst (λ n. k < n) len lt)).0),
    )
