-- The steps that seats come and go by keep the rule: how the lock begins, split, join, and what stands at the end.
use Rattle.std.proofs.Common.{◌≡◌, ◌≢◌, ℕ, zero, suc, ◌+◌, ◌<◌, ◌≤◌, List, [], ◌∷◌, ◌++◌, map, length, get_or, set, sym, refl, ap, ◌∙◌, subst, arith, All, Option, Some, length-set, cond, eqb, eq-eqb, ne_eqb, inl, inr, ⊎_elim}
use mathlib.Core.Logic.{dite}
use mathlib.Core.Option.{some, some-injective}
use native.Mathlib.Decide.{ℕ_discrete}
use lib.ListN.{get_elem?}
use Rattle.std.proofs.lemmas.List.Elements.{All-nil, All-cons, All-head, All-tail, All-append}
use Rattle.atomic_table.specs.Table.{State, opening, Splits, Joins}
use Rattle.atomic_table.proofs.Lists.{set_here, set_else, at_longer, at_last}
use Rattle.turn_lock.specs.History.{Journal, OthersAfter}
use Rattle.turn_lock.specs.declared.view.Mark.{Mark}
use Rattle.turn_lock.specs.declared.view.Stage.{Stage}
use Rattle.turn_lock.specs.declared.view.Stage.TheVariants.{Waits, Holds, Counted}
use Rattle.turn_lock.specs.declared.view.View.{View}
use Rattle.turn_lock.specs.Words.{mark, waiting, marks_from, numbers_from, worker_of_mark}
use Rattle.turn_lock.specs.Turns.{MarkHolds, StageHolds, SeatHolds, IsOwn, HasNumber, HasWorker, StandsIn, Kept}
use Rattle.turn_lock.proofs.Seats.{all_set, all_snoc, all_goes, all_both, all_one, at_inside}
use Rattle.turn_lock.proofs.Histories.{stays, read_as}
use Rattle.turn_lock.proofs.Marks.{known}

-- f with another value at one number
abbrev put : (ℕ → ℕ) → ℕ → ℕ → ℕ → ℕ
put f i c j = cond (eqb j i) c (f j)

put_here : (f : ℕ → ℕ) (i c : ℕ) → put f i c i ≡ c
put_here f i c = ap (λ b. cond b c (f i)) (eq-eqb i i refl)

put_else : (f : ℕ → ℕ) (i c j : ℕ) → j ≢ i → put f i c j ≡ f j
put_else f i c j other = ap (λ b. cond b c (f j)) (ne_eqb j i other)

-- f with the numbers of one seat handed to another
abbrev handed : (ℕ → ℕ) → ℕ → ℕ → ℕ → ℕ
handed f from to j = cond (eqb (f j) from) to (f j)

handed_here : (f : ℕ → ℕ) (from to j : ℕ) → f j ≡ from → handed f from to j ≡ to
handed_here f from to j e = ap (λ b. cond b to (f j)) (eq-eqb (f j) from e)

handed_else : (f : ℕ → ℕ) (from to j : ℕ) → f j ≢ from → handed f from to j ≡ f j
handed_else f from to j other = ap (λ b. cond b to (f j)) (ne_eqb (f j) from other)

-- a seat keeps what it has, where its numbers stay its own
seat_stays : (seats : ℕ) (now : Journal) (count holder seat : ℕ) (owner owner' : ℕ → ℕ) (v : View) → ((n : ℕ) → owner n ≡ seat → owner' n ≡ seat)
    → SeatHolds seats now count holder owner seat v → SeatHolds seats now count holder owner' seat v
seat_stays seats now count holder seat owner owner' v still h =
    (all_goes (MarkHolds seats now count owner seat) (MarkHolds seats now count owner' seat) (λ m t. (t.0, still m.worker t.1, t.2, t.3)) v.marks h.0, stage_stays v.stage h.1)
  where
    stage_stays : (st : Stage) → StageHolds now count holder owner seat st → StageHolds now count holder owner' seat st
    stage_stays Waits t = t
    stage_stays (Holds taken) t = t
    stage_stays (Counted taken back) t = (t.0, t.1, t.2, read_as (IsOwn owner seat) (IsOwn owner' seat) (λ entry o. (o.0, o.1, still o.0 o.2)) now back t.3)

-- the marks from a number on
first_marks : (seats first count long : ℕ) (J : Journal) (owner : ℕ → ℕ) (seat : ℕ) → ((n : ℕ) → owner n ≡ seat) → first + count ≤ seats → length J ≤ long → All (MarkHolds seats J long owner seat) (marks_from first count J)
first_marks seats first zero long J owner seat all le fits = All-nil (MarkHolds seats J long owner seat)
first_marks seats first (suc count) long J owner seat all le fits =
    All-cons (MarkHolds seats J long owner seat) (mark first J (length J)) (marks_from (first + 1) count J) (omega arith, all first, stays (λ entry. entry.worker ≢ Some first) J, fits)
    (first_marks seats (first + 1) count long J owner seat all (omega arith) fits)

later : (first low count : ℕ) (J : Journal) → low < first → All (λ (m : Mark). low < m.worker) (marks_from first count J)
later first low zero J lt = All-nil (λ (m : Mark). low < m.worker)
later first low (suc count) J lt = All-cons (λ (m : Mark). low < m.worker) (mark first J (length J)) (marks_from (first + 1) count J) lt (later (first + 1) low count J (omega arith))

abbrev first_or : ℕ → List ℕ → ℕ
first_or d [] = d
first_or d (x ∷ xs) = x

abbrev rest_of : List ℕ → List ℕ
rest_of [] = []
rest_of (x ∷ xs) = xs

stands : (n first count : ℕ) (J : Journal) → first ≤ n → n < first + count → StandsIn n (marks_from first count J)
stands n first zero J low high = absurd (omega arith)
stands n first (suc count) J low high = dite (ℕ_discrete first n) inl (λ other. inr (stands n (first + 1) count J (omega arith) (omega arith)))

stands_left : (n : ℕ) (os ms : List Mark) → StandsIn n os → StandsIn n (os ++ ms)
stands_left n [] ms h = absurd h
stands_left n (o ∷ os) ms h = ⊎_elim inl (λ t. inr (stands_left n os ms t)) h

stands_right : (n : ℕ) (os ms : List Mark) → StandsIn n ms → StandsIn n (os ++ ms)
stands_right n [] ms h = h
stands_right n (o ∷ os) ms h = inr (stands_right n os ms h)

-- a seat that has all the numbers has each of them
owns : (seats : ℕ) (now : Journal) (long : ℕ) (owner : ℕ → ℕ) (seat first count : ℕ) (ms : List Mark) → map worker_of_mark ms ≡ numbers_from first count → All (MarkHolds seats now long owner seat) ms
    → (n : ℕ) → first ≤ n → n < first + count → owner n ≡ seat
owns seats now long owner seat first zero ms e h n low high = absurd (omega arith)
owns seats now long owner seat first (suc count) [] e h n low high = absurd (let l = ap length e in omega arith)
owns seats now long owner seat first (suc count) (m ∷ ms) e h n low high = dite (ℕ_discrete n first)
    (λ is. ap owner (is ∙ sym (ap (first_or 0) e)) ∙ (All-head (MarkHolds seats now long owner seat) m ms h).1)
    (λ other. owns seats now long owner seat (first + 1) count ms (ap rest_of e) (All-tail (MarkHolds seats now long owner seat) m ms h) n (omega arith) (omega arith))

module _ {T X : Type 0} (terms : T → X) (journal : T → Journal) (origin : T) (seats : ℕ) where
  abbrev St : Type 0
  St = State (Option T) View

  abbrev Rule : St → Type 0
  Rule = Kept terms journal origin seats

  pub opens : (count : ℕ) → count ≡ length (journal origin) → Rule (opening (count ∷ 0 ∷ []) (Some origin ∷ []) (waiting (marks_from 0 seats (journal origin))))
  opens count is = known terms journal origin seats (count ∷ 0 ∷ []) (some (Some origin) ∷ []) (v ∷ []) (journal origin) count 0 0 (λ _. 0) refl refl refl refl each
      (λ n lt. (waiting (marks_from 0 seats (journal origin)), refl, stands n 0 seats (journal origin) (omega arith) (omega arith))) (λ _. (refl, is, (origin, refl, refl, refl))) (λ seat e. absurd (omega arith))
    where
      v : View
      v = waiting (marks_from 0 seats (journal origin))

      each : (seat : ℕ) (u : View) → get_elem? (waiting (marks_from 0 seats (journal origin)) ∷ []) seat ≡ some u → SeatHolds seats (journal origin) count 0 (λ _. 0) seat u
      each = all_snoc (SeatHolds seats (journal origin) count 0 (λ _. 0)) [] (waiting (marks_from 0 seats (journal origin)))
          (first_marks seats 0 seats count (journal origin) (λ _. 0) 0 (λ _. refl) (omega arith) (omega (arith, is)), λ e. omega arith) (λ j u e. absurd (let l = at_inside [] j u e in omega arith))

  pub splits : (id first count : ℕ) (J : Journal)
      → Splits Rule id (waiting (marks_from first (suc count) J)) (waiting (marks_from (first + 1) count J)) (waiting (mark first J (length J) ∷ []))
  splits id first count J s r at = known terms journal origin seats s.words s.homes (set s.views id left ++ right ∷ []) r.now (get_or s.words 0 0) (get_or s.words 1 0) r.holder owner'
      r.two_words r.one_slot refl refl (all_snoc (SeatHolds seats r.now (get_or s.words 0 0) r.holder owner') (set s.views id left) right new
      (all_set (SeatHolds seats r.now (get_or s.words 0 0) r.holder owner') s.views id left mine others)) numbers r.at_rest (λ seat e. ((r.in_turn seat e).0, there seat e (r.in_turn seat e).1))
    where
      left : View
      left = waiting (marks_from (first + 1) count J)

      right : View
      right = waiting (mark first J (length J) ∷ [])

      owner' : ℕ → ℕ
      owner' = put r.owner first (length s.views)

      before : SeatHolds seats r.now (get_or s.words 0 0) r.holder r.owner id (waiting (marks_from first (suc count) J))
      before = r.each_seat id (waiting (marks_from first (suc count) J)) at

      head : MarkHolds seats r.now (get_or s.words 0 0) r.owner id (mark first J (length J))
      head = All-head (MarkHolds seats r.now (get_or s.words 0 0) r.owner id) (mark first J (length J)) (marks_from (first + 1) count J) before.0

      tail : All (MarkHolds seats r.now (get_or s.words 0 0) r.owner id) (marks_from (first + 1) count J)
      tail = All-tail (MarkHolds seats r.now (get_or s.words 0 0) r.owner id) (mark first J (length J)) (marks_from (first + 1) count J) before.0

      waits : r.holder ≢ suc id
      waits = before.1

      mine : SeatHolds seats r.now (get_or s.words 0 0) r.holder (put r.owner first (length s.views)) id (waiting (marks_from (first + 1) count J))
      mine = (
        all_both (λ (m : Mark). first < m.worker) (MarkHolds seats r.now (get_or s.words 0 0) r.owner id) (MarkHolds seats r.now (get_or s.words 0 0) (put r.owner first (length s.views)) id)
            (λ m lt h. (h.0, put_else r.owner first (length s.views) m.worker (λ e. omega arith) ∙ h.1, h.2, h.3)) (marks_from (first + 1) count J) (later (first + 1) first count J (omega arith)) tail,
        waits,
      )

      others : (j : ℕ) (u : View) → j ≢ id → get_elem? s.views j ≡ some u → SeatHolds seats r.now (get_or s.words 0 0) r.holder (put r.owner first (length s.views)) j u
      others j u other e = seat_stays seats r.now (get_or s.words 0 0) r.holder j r.owner (put r.owner first (length s.views)) u
          (λ n o. put_else r.owner first (length s.views) n (λ is. other (sym o ∙ (ap r.owner is ∙ head.1))) ∙ o) (r.each_seat j u e)

      new : SeatHolds seats r.now (get_or s.words 0 0) r.holder (put r.owner first (length s.views)) (length (set s.views id left)) (waiting (mark first J (length J) ∷ []))
      new = subst (λ (n : ℕ). SeatHolds seats r.now (get_or s.words 0 0) r.holder (put r.owner first (length s.views)) n (waiting (mark first J (length J) ∷ []))) (sym (length-set s.views id left)) (
        all_one (MarkHolds seats r.now (get_or s.words 0 0) (put r.owner first (length s.views)) (length s.views)) (mark first J (length J)) (head.0, put_here r.owner first (length s.views), head.2, head.3),
        λ e. let t = (r.in_turn (length s.views) e).1 in let l = at_inside s.views (length s.views) t.0 t.3 in omega arith,
      )

      same_view : (v : View) → get_elem? s.views id ≡ some v → v ≡ waiting (marks_from first (suc count) J)
      same_view v e = some-injective v (waiting (marks_from first (suc count) J)) (sym e ∙ at)

      moved : (n : ℕ) → n ≢ first → (v : View) → get_elem? s.views id ≡ some v → StandsIn n v.marks → StandsIn n (marks_from (first + 1) count J)
      moved n other v e h = ⊎_elim (λ (t : first ≡ n). absurd (other (sym t))) (λ (t : StandsIn n (marks_from (first + 1) count J)). t) (subst (λ (u : View). StandsIn n u.marks) (same_view v e) h)

      elsewhere : (n : ℕ) → n ≢ first → HasWorker s.views (r.owner n) n → HasWorker (set s.views id left ++ right ∷ []) (r.owner n) n
      elsewhere n other h = dite (ℕ_discrete (r.owner n) id)
          (λ is. (
            left,
            at_longer (set s.views id left) (right ∷ []) (r.owner n) left (ap (get_elem? (set s.views id left)) is ∙ set_here s.views id left (at_inside s.views id (waiting (marks_from first (suc count) J)) at)),
            moved n other h.0 (sym (ap (get_elem? s.views) is) ∙ h.1) h.2,
          ))
          (λ apart. (h.0, at_longer (set s.views id left) (right ∷ []) (r.owner n) h.0 (set_else s.views id (r.owner n) left apart ∙ h.1), h.2))

      numbers : (n : ℕ) → n < seats → HasWorker (set s.views id left ++ right ∷ []) (put r.owner first (length s.views) n) n
      numbers n lt = dite (ℕ_discrete n first)
          (λ is. (
            right,
            ap (λ k. get_elem? (set s.views id left ++ right ∷ []) (put r.owner first (length s.views) k)) is ∙ (ap (get_elem? (set s.views id left ++ right ∷ [])) (put_here r.owner first (length s.views))
                ∙ at_last (set s.views id left) right (length s.views) (length-set s.views id left)),
            inl (sym is),
          ))
          (λ other. subst (λ k. HasWorker (set s.views id left ++ right ∷ []) k n) (sym (put_else r.owner first (length s.views) n other)) (elsewhere n other (r.each_number n lt)))

      there : (seat : ℕ) → r.holder ≡ suc seat → HasNumber s.views seat → HasNumber (set s.views id left ++ right ∷ []) seat
      there seat e t = (t.0, t.1, t.2, at_longer (set s.views id left) (right ∷ []) seat t.0 (set_else s.views id seat left (λ is. waits (e ∙ ap suc is)) ∙ t.3), t.4)

  pub joins : (id other : ℕ) (ms os : List Mark) → Joins Rule id (waiting ms) other (waiting os) (waiting (os ++ ms)) (waiting [])
  joins id other ms os s r at apart there = known terms journal origin seats s.words s.homes (set (set s.views id both) other (waiting [])) r.now (get_or s.words 0 0) (get_or s.words 1 0) r.holder owner'
      r.two_words r.one_slot refl refl (all_set (SeatHolds seats r.now (get_or s.words 0 0) r.holder owner') (set s.views id both) other (waiting []) gone rest) numbers r.at_rest
      (λ seat e. ((r.in_turn seat e).0, still seat e (r.in_turn seat e).1))
    where
      both : View
      both = waiting (os ++ ms)

      owner' : ℕ → ℕ
      owner' = handed r.owner other id

      count : ℕ
      count = get_or s.words 0 0

      before : SeatHolds seats r.now (get_or s.words 0 0) r.holder r.owner id (waiting ms)
      before = r.each_seat id (waiting ms) at

      theirs : SeatHolds seats r.now (get_or s.words 0 0) r.holder r.owner other (waiting os)
      theirs = r.each_seat other (waiting os) (sym (set_else s.views id other (waiting (os ++ ms)) apart) ∙ there)

      mine : SeatHolds seats r.now (get_or s.words 0 0) r.holder (handed r.owner other id) id (waiting (os ++ ms))
      mine = (
        All-append (MarkHolds seats r.now (get_or s.words 0 0) (handed r.owner other id) id) os ms
            (all_goes (MarkHolds seats r.now (get_or s.words 0 0) r.owner other) (MarkHolds seats r.now (get_or s.words 0 0) (handed r.owner other id) id) (λ m h. (h.0, handed_here r.owner other id m.worker h.1, h.2, h.3)) os theirs.0)
            (all_goes (MarkHolds seats r.now (get_or s.words 0 0) r.owner id) (MarkHolds seats r.now (get_or s.words 0 0) (handed r.owner other id) id) (λ m h. (h.0, handed_else r.owner other id m.worker (λ e. apart (sym e ∙ h.1)) ∙ h.1, h.2, h.3)) ms before.0),
        before.1,
      )

      gone : SeatHolds seats r.now (get_or s.words 0 0) r.holder (handed r.owner other id) other (waiting [])
      gone = (All-nil (MarkHolds seats r.now (get_or s.words 0 0) (handed r.owner other id) other), theirs.1)

      others : (j : ℕ) (u : View) → j ≢ id → j ≢ other → get_elem? s.views j ≡ some u → SeatHolds seats r.now (get_or s.words 0 0) r.holder (handed r.owner other id) j u
      others j u ne other_too e = seat_stays seats r.now (get_or s.words 0 0) r.holder j r.owner (handed r.owner other id) u
          (λ n o. handed_else r.owner other id n (λ is. other_too (sym o ∙ is)) ∙ o) (r.each_seat j u e)

      rest : (j : ℕ) (u : View) → j ≢ other → get_elem? (set s.views id (waiting (os ++ ms))) j ≡ some u → SeatHolds seats r.now (get_or s.words 0 0) r.holder (handed r.owner other id) j u
      rest j u apart_from e = all_set (λ k w. k ≢ other → SeatHolds seats r.now (get_or s.words 0 0) r.holder (handed r.owner other id) k w) s.views id (waiting (os ++ ms)) (λ _. mine)
          (λ k w ne f k_no. others k w ne k_no f) j u e apart_from

      here : get_elem? (set (set s.views id (waiting (os ++ ms))) other (waiting [])) id ≡ some (waiting (os ++ ms))
      here = set_else (set s.views id (waiting (os ++ ms))) other id (waiting []) (λ e. apart (sym e)) ∙ set_here s.views id (waiting (os ++ ms)) (at_inside s.views id (waiting ms) at)

      theirs_at : get_elem? s.views other ≡ some (waiting os)
      theirs_at = sym (set_else s.views id other (waiting (os ++ ms)) apart) ∙ there

      marks_at : (seat n : ℕ) (u : View) → get_elem? s.views seat ≡ some u → HasWorker s.views (r.owner n) n → r.owner n ≡ seat → StandsIn n u.marks
      marks_at seat n u e h is = subst (λ (v : View). StandsIn n v.marks) (some-injective h.0 u (sym h.1 ∙ (ap (get_elem? s.views) is ∙ e))) h.2

      numbers : (n : ℕ) → n < seats → HasWorker (set (set s.views id (waiting (os ++ ms))) other (waiting [])) (handed r.owner other id n) n
      numbers n lt = let h = r.each_number n lt in dite (ℕ_discrete (r.owner n) other)
          (λ is. (waiting (os ++ ms), ap (get_elem? (set (set s.views id (waiting (os ++ ms))) other (waiting []))) (handed_here r.owner other id n is) ∙ here, stands_left n os ms (marks_at other n (waiting os) theirs_at h is)))
          (λ not_other. subst (λ k. HasWorker (set (set s.views id (waiting (os ++ ms))) other (waiting [])) k n) (sym (handed_else r.owner other id n not_other)) (dite (ℕ_discrete (r.owner n) id)
          (λ is. (waiting (os ++ ms), ap (get_elem? (set (set s.views id (waiting (os ++ ms))) other (waiting []))) is ∙ here, stands_right n os ms (marks_at id n (waiting ms) at h is)))
          (λ not_id. (h.0, set_else (set s.views id (waiting (os ++ ms))) other (r.owner n) (waiting []) not_other ∙ (set_else s.views id (r.owner n) (waiting (os ++ ms)) not_id ∙ h.1), h.2))))

      still : (seat : ℕ) → r.holder ≡ suc seat → HasNumber s.views seat → HasNumber (set (set s.views id (waiting (os ++ ms))) other (waiting [])) seat
      still seat e t = (
        t.0,
        t.1,
        t.2,
        set_else (set s.views id (waiting (os ++ ms))) other seat (waiting []) (λ is. theirs.1 (e ∙ ap suc is)) ∙ (set_else s.views id seat (waiting (os ++ ms)) (λ is. before.1 (e ∙ ap suc is)) ∙ t.3),
        t.4,
      )

  -- where one seat has all the numbers and holds no turn, the value is at home
  pub ends : (id : ℕ) (ms : List Mark) (s : St) → (r : Rule s) → get_elem? s.views id ≡ some (waiting ms) → map worker_of_mark ms ≡ numbers_from 0 seats
      → (value : T) × (get_elem? s.homes 0 ≡ some (some (Some value))) × (terms value ≡ terms origin) × All (λ m. OthersAfter m.worker m.seen (journal value) × (m.known ≤ length (journal value))) ms
  ends id ms s r at all = go r.holder refl
    where
      Ends : Type 0
      Ends = (value : T) × (get_elem? s.homes 0 ≡ some (some (Some value))) × (terms value ≡ terms origin) × All (λ m. OthersAfter m.worker m.seen (journal value) × (m.known ≤ length (journal value))) ms

      before : SeatHolds seats r.now (get_or s.words 0 0) r.holder r.owner id (waiting ms)
      before = r.each_seat id (waiting ms) at

      nobody : (seat : ℕ) → r.holder ≡ suc seat → ⊥
      nobody seat e = let t = (r.in_turn seat e).1 in let h = (r.each_seat seat t.0 t.3).0 in
          let m : MarkHolds seats r.now (get_or s.words 0 0) r.owner seat t.1 = All-head (MarkHolds seats r.now (get_or s.words 0 0) r.owner seat) t.1 t.2 (subst (All (MarkHolds seats r.now (get_or s.words 0 0) r.owner seat)) t.4 h) in
          before.1 (e ∙ ap suc (sym m.1 ∙ owns seats r.now (get_or s.words 0 0) r.owner id 0 seats ms all before.0 t.1.worker (omega arith) (let l = m.0 in omega arith)))

      go : (h : ℕ) → r.holder ≡ h → Ends
      go zero e = let home = (r.at_rest e).2 in let counted = (r.at_rest e).1 in (
        home.0,
        home.1,
        home.2,
        subst (λ (J : Journal). All (λ (m : Mark). OthersAfter m.worker m.seen J × (m.known ≤ length J)) ms) (sym home.3)
            (all_goes (MarkHolds seats r.now (get_or s.words 0 0) r.owner id) (λ m. OthersAfter m.worker m.seen r.now × (m.known ≤ length r.now)) (λ m h. (h.2, let l = h.3 in omega arith)) ms before.0),
      )
      go (suc seat) e = absurd (nobody seat e)
