use Rattle.std.proofs.Common.{rules, ◌≡◌, [], ◌∷◌, ◌++◌, map, All, subst, sym, ap, ◌∙◌}
use Rattle.atomic_table.specs.Table.{Joins}
use Rattle.turn_lock.specs.declared.view.View.{View}
use Rattle.turn_lock.specs.Turns.{Kept}
use Rattle.turn_lock.specs.Words.{waiting}
use Rattle.turn_lock.specs.Locks.{origin, seats_of, lock_id}
use Rattle.turn_lock.specs.Seats.{lock_of_seat, mark_of}
use Rattle.turn_lock.proofs.SeatSteps.{joins}
use Rattle.turn_lock.proofs.Rows.{gathered, fewer}
use Rattle.turn_lock.proofs.turn.Turn.gather.Goals as goal

pub join_seat-requires : goal.join_seat-requires
join_seat-requires g c = let t = g.T.Told in let lock = c.args.self.now in let place = c.seats.place in let other = c.into_place-other.result.1 in
    let mine : place.me.0 ≡ waiting place.me.0.marks = ap (λ m. m.0) c.seats.invariant.1 in
    let theirs : other.me.0 ≡ waiting (mark_of c.in-Some-pop.seat ∷ []) = ap (λ m. m.0) c.into_place-other.ensures.place.1 in (
      search rules,
      search rules,
      search rules,
      search rules,
      subst (λ (v : View × View). Joins (Kept t.terms t.journal (origin lock) (seats_of lock)) place.id v.0 other.id v.1 (waiting (v.1.marks ++ v.0.marks)) (waiting [])) (λ i. (sym mine i, sym theirs i))
          (joins t.terms t.journal (origin lock) (seats_of lock) place.id other.id place.me.0.marks (mark_of c.in-Some-pop.seat ∷ [])),
    )

pub seats-preserved : goal.seats-preserved
seats-preserved g c = let inv = c.seats.invariant in let old = c.seats.place in let seat = c.in-Some-pop.seat in let rest = c.pop-in-seats.new.self.items in
    let popped : c.seats.seats.items ≡ rest ++ seat ∷ [] = c.in-Some-pop.ensures.items in
    let now : c.join_seat.new.seat.me ≡ (waiting (mark_of seat ∷ old.me.0.marks), []) = c.join_seat.ensures.2 ∙ (λ i. (waiting ((c.into_place-other.ensures.place.1 i).0.marks ++ old.me.0.marks), (inv.1 i).1)) in
    let marks : c.join_seat.new.seat.me.0.marks ≡ mark_of seat ∷ old.me.0.marks = ap (λ m. m.0.marks) now in (
      c.join_seat.ensures.0 ∙ inv.0,
      now ∙ ap (λ ms. (waiting ms, [])) (sym marks),
      ap (λ ms. map mark_of rest ++ ms) marks ∙ gathered c.seats.seats.items rest seat old.me.0.marks (map mark_of c.args.seats.items) popped inv.2,
      fewer (λ s. lock_of_seat s ≡ lock_id c.args.self.now) rest seat (subst (All (λ s. lock_of_seat s ≡ lock_id c.args.self.now)) popped inv.3),
    )
