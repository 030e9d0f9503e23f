use Rattle.std.proofs.Common.{rules, arith, ◌≡◌, ◌+◌, ◌-◌, [], ◌∷◌, ◌++◌, length, map, All, subst, sym, ap, ◌∙◌}
use Rattle.std.proofs.lemmas.List.Elements.{All-push}
use Rattle.std.proofs.lemmas.List.{append-nil}
use Rattle.atomic_table.specs.Table.{Splits}
use Rattle.turn_lock.specs.History.{Journal}
use Rattle.turn_lock.specs.Turns.{Kept}
use Rattle.turn_lock.specs.Words.{mark, idle, waiting, marks_from, numbers_from, first_mark, later_marks, seen_in, known_in}
use Rattle.turn_lock.specs.Locks.{origin, seats_of, lock_id}
use Rattle.turn_lock.specs.Seats.{seen_by, lock_of_seat, worker_of, mark_of}
use Rattle.turn_lock.proofs.SeatSteps.{splits}
use Rattle.turn_lock.proofs.Rows.{next_marks, dealt, dealt_all}
use Rattle.turn_lock.proofs.turn.Turn.deal.Goals as goal

pub split_seat-next-requires : goal.split_seat-next-requires
split_seat-next-requires g c = let t = g.T.Told in let lock = c.args.self.now in let J : Journal = t.journal (origin lock) in let w = c.seats.worker in let left = c.args.seats - (w + 1) in
    let marks : c.seats.place.me.0.marks ≡ mark w J (length J) ∷ marks_from (w + 1) left J = ap (λ m. m.0.marks) c.seats.invariant.1 ∙ next_marks w c.args.seats J (search rules) in
    let stands : c.seats.place.me.0 ≡ waiting (mark w J (length J) ∷ marks_from (w + 1) left J) = ap (λ m. m.0) c.seats.invariant.1 ∙ ap waiting (next_marks w c.args.seats J (search rules)) in (
      search rules,
      search rules,
      subst (λ v. Splits (Kept t.terms t.journal (origin lock) (seats_of lock)) c.seats.place.id v (waiting (later_marks v.marks)) (waiting (first_mark v.marks))) (sym stands)
          (splits t.terms t.journal (origin lock) (seats_of lock) c.seats.place.id w left J),
    )

pub of_place-requires : goal.of_place-requires
of_place-requires g c = let J : Journal = g.T.Told.journal (origin c.args.self.now) in let w = c.seats.worker in let left = c.args.seats - (w + 1) in
    let stands : c.seats.place.me.0 ≡ waiting (mark w J (length J) ∷ marks_from (w + 1) left J) = ap (λ m. m.0) c.seats.invariant.1 ∙ ap waiting (next_marks w c.args.seats J (search rules)) in
    let is : c.split_seat-next.result.me ≡ (idle w J (length J), []) = c.split_seat-next.ensures.4 ∙ ap (λ v. (waiting (first_mark v.marks), [])) stands in is ∙ ap (λ m. (idle w (seen_in m.0) (known_in m.0), [])) (sym is)

pub seats-preserved : goal.seats-preserved
seats-preserved g c = let J : Journal = g.T.Told.journal (origin c.args.self.now) in let w = c.seats.worker in let left = c.args.seats - (w + 1) in let inv = c.seats.invariant in
    let before : c.seats.place.me ≡ (waiting (mark w J (length J) ∷ marks_from (w + 1) left J), []) = inv.1 ∙ ap (λ ms. (waiting ms, [])) (next_marks w c.args.seats J (search rules)) in
    let is : c.split_seat-next.result.me ≡ (idle w J (length J), []) = c.split_seat-next.ensures.4 ∙ ap (λ m. (waiting (first_mark m.0.marks), [])) before in
    let seat = c.of_place.result in let seen : mark_of seat ≡ mark w J (length J) = λ i. mark (c.of_place.ensures.0 i) ((c.of_place.ensures.2 ∙ ap (λ m. seen_in m.0) is) i) ((c.of_place.ensures.3 ∙ ap (λ m. known_in m.0) is) i) in
    let row : c.push_reserved.new.self.items ≡ c.seats.row.items ++ seat ∷ [] = c.push_reserved.ensures.items in (
      c.split_seat-next.ensures.0 ∙ inv.0,
      c.split_seat-next.ensures.2 ∙ ap (λ m. (waiting (later_marks m.0.marks), m.1)) before,
      ap (λ xs. map mark_of xs ++ marks_from (w + 1) left J) row ∙ dealt c.seats.row.items seat (mark w J (length J)) (marks_from (w + 1) left J) (marks_from 0 c.args.seats J)
          (ap (λ ms. map mark_of c.seats.row.items ++ ms) (sym (next_marks w c.args.seats J (search rules))) ∙ inv.2) seen,
      subst (All (λ s. lock_of_seat s ≡ c.args.place.table_id)) (sym row) (All-push (λ s. lock_of_seat s ≡ c.args.place.table_id) c.seats.row.items seat inv.3 (c.of_place.ensures.1 ∙ (c.split_seat-next.ensures.3 ∙ inv.0))),
      search rules,
      search rules,
    )

pub returns : goal.returns
returns g c = let J : Journal = g.T.Told.journal (origin c.args.self.now) in let w = c.seats.worker in let inv = c.seats.invariant in
    let last : w ≡ c.args.seats - 1 = search rules in let one : c.args.seats - w ≡ 1 = omega arith in
    let before : c.seats.place.me ≡ (idle w J (length J), []) = inv.1 ∙ ap (λ k. (waiting (marks_from w k J), [])) one in let seat = c.of_place-2.result in
    let seen : mark_of seat ≡ mark w J (length J) = λ i. mark ((c.of_place-2.ensures.0 ∙ sym last) i) ((c.of_place-2.ensures.2 ∙ ap (λ m. seen_in m.0) before) i) ((c.of_place-2.ensures.3 ∙ ap (λ m. known_in m.0) before) i) in
    let row : c.push_reserved-2.new.self.items ≡ c.seats.row.items ++ seat ∷ [] = c.push_reserved-2.ensures.items in
    let list : c.from_vec.result ≡ c.seats.row.items ++ seat ∷ [] = c.from_vec.ensures ∙ row in
    let whole : map mark_of (c.seats.row.items ++ seat ∷ []) ++ [] ≡ marks_from 0 c.args.seats J = dealt c.seats.row.items seat (mark w J (length J)) [] (marks_from 0 c.args.seats J)
    (ap (λ k. map mark_of c.seats.row.items ++ marks_from w k J) (sym one) ∙ inv.2) seen in
    let t = dealt_all (c.seats.row.items ++ seat ∷ []) 0 c.args.seats J (sym (append-nil (map mark_of (c.seats.row.items ++ seat ∷ []))) ∙ whole) in (
      (
        ap (map worker_of) list ∙ (t.0 ∙ ap (numbers_from 0) c.requires.lock.1),
        subst (All (λ s. lock_of_seat s ≡ lock_id c.args.self.now)) (sym list) (All-push (λ s. lock_of_seat s ≡ lock_id c.args.self.now) c.seats.row.items seat (search rules) (search rules)),
      ),
      subst (All (λ s. seen_by s ≡ J)) (sym list) t.1,
    )
