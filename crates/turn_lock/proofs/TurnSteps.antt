-- Each step of a turn keeps the rule: try, count, release, and the load of the count.
use Rattle.std.proofs.Common.{◌≡◌, ◌≢◌, ℕ, zero, suc, ◌≤◌, [], ◌∷◌, length, get_or, set, sym, refl, ap, ◌∙◌, subst, arith, Option, Some, None, length-set, get_or-set_other, get_or-set_same, eqb}
use mathlib.Core.Option.{none, some}
use prog.Atomic.{either}
use lib.ListN.{get_elem?}
use Rattle.atomic_table.specs.Table.{State, Me, step, Act, keeps, takes, gives, stepped, carried_after, Valid, Allows}
use Rattle.atomic_table.proofs.Lists.{set_here, set_else, exchanged}
use Rattle.turn_lock.specs.History.{Journal, Continues, OthersAfter, OwnAfter}
use Rattle.turn_lock.specs.declared.view.Mark.{Mark}
use Rattle.turn_lock.specs.declared.view.View.{View}
use Rattle.turn_lock.specs.Words.{mark, idle, holding, counted}
use Rattle.turn_lock.specs.Turns.{MarkHolds, StageHolds, SeatHolds, IsOwn, HasNumber, Kept, tried, noted, released, looked}
use Rattle.turn_lock.proofs.Seats.{all_set, all_goes, all_one, only_one, at_inside}
use Rattle.turn_lock.proofs.Histories.{stays, goes_on, read_as, no_shorter}
use Rattle.turn_lock.proofs.Marks.{stage_beside, stage_waits, stage_count, numbers_stay, known, unmoved}

module _ {T X : Type 0} (terms : T → X) (journal : T → Journal) (origin : T) (seats : ℕ) where
  abbrev St : Type 0
  St = State (Option T) View

  abbrev Rule : St → Type 0
  Rule = Kept terms journal origin seats

  -- the count is no less than the length of the history
  count_reaches : (s : St) (r : Rule s) → length r.now ≤ get_or s.words 0 0
  count_reaches s r = go r.holder refl
    where
      go : (h : ℕ) → r.holder ≡ h → length r.now ≤ get_or s.words 0 0
      go zero e = let l = (r.at_rest e).1 in omega arith
      go (suc j) e = let t = (r.in_turn j e).1 in stage_count r.now (get_or s.words 0 0) r.holder j r.owner t.0.stage e (r.each_seat j t.0 t.3).1

  -- what the rule has of a worker that holds no turn
  mark_of_idle : (s : St) (r : Rule s) (id n : ℕ) (p : Journal) (k : ℕ) → get_elem? s.views id ≡ some (idle n p k) → MarkHolds seats r.now (get_or s.words 0 0) r.owner id (mark n p k)
  mark_of_idle s r id n p k at = only_one (MarkHolds seats r.now (get_or s.words 0 0) r.owner id) (mark n p k) (r.each_seat id (idle n p k) at).0

  -- the lock after a load of the count
  told : (s : St) (r : Rule s) (id n : ℕ) (p : Journal) (k : ℕ) → get_elem? s.views id ≡ some (idle n p k)
      → Rule (stepped s 0 (get_or s.words 0 0) id [] (idle n p (get_or s.words 0 0)) keeps)
  told s r id n p k at = let count : ℕ = get_or s.words 0 0 in
      known terms journal origin seats (set s.words 0 count) s.homes (set s.views id (idle n p count)) r.now count (get_or s.words 1 0) r.holder r.owner
      (length-set s.words 0 count ∙ r.two_words) r.one_slot (get_or-set_same s.words 0 count 0 (let l = r.two_words in omega arith)) (get_or-set_other s.words 0 1 count 0 (λ e. omega arith))
      (all_set (SeatHolds seats r.now count r.holder r.owner) s.views id (idle n p count) mine (λ j u other e. r.each_seat j u e))
      (numbers_stay seats s.views id (idle n p k) (idle n p count) r.owner at (λ x h. h) r.each_number) r.at_rest
      (λ seat e. ((r.in_turn seat e).0, there seat e (r.in_turn seat e).1))
    where
      before : SeatHolds seats r.now (get_or s.words 0 0) r.holder r.owner id (idle n p k)
      before = r.each_seat id (idle n p k) at

      mine : SeatHolds seats r.now (get_or s.words 0 0) r.holder r.owner id (idle n p (get_or s.words 0 0))
      mine = let m = mark_of_idle s r id n p k at in
          (all_one (MarkHolds seats r.now (get_or s.words 0 0) r.owner id) (mark n p (get_or s.words 0 0)) (m.0, m.1, m.2, omega arith), before.1)

      there : (seat : ℕ) → r.holder ≡ suc seat → HasNumber s.views seat → HasNumber (set s.views id (idle n p (get_or s.words 0 0))) seat
      there seat e t = (t.0, t.1, t.2, set_else s.views id seat (idle n p (get_or s.words 0 0)) (λ is. before.1 (e ∙ ap suc is)) ∙ t.3, t.4)

  pub looks : (slots id n : ℕ) (p : Journal) (k : ℕ) → Allows Rule slots id (idle n p k, []) 0 (λ c. c) (looked (step slots 0 0 0 none) (idle n p k, []))
  looks slots id n p k s r one at small = (idle n p (get_or s.words 0 0), keeps, tt, told s r id n p k at, (refl, seen, (mark_of_idle s r id n p k at).3))
    where
      seen : length p ≤ get_or s.words 0 0
      seen = let m = mark_of_idle s r id n p k at in let l = no_shorter (λ entry. entry.worker ≢ Some n) p r.now m.2 in let c = count_reaches s r in omega arith

  -- the lock after a try that takes the turn
  taken : (s : St) (r : Rule s) (id n : ℕ) (p : Journal) (k : ℕ) (value : T) → r.holder ≡ 0 → get_elem? s.views id ≡ some (idle n p k) → get_or s.words 0 0 ≡ length r.now → journal value ≡ r.now
      → Rule (stepped s 1 1 id [] (holding n (journal value) k) (takes 0 (Some value)))
  taken s r id n p k value free at counts is = let count : ℕ = get_or s.words 0 0 in
      subst (λ (J : Journal). Rule (stepped s 1 1 id [] (holding n J k) (takes 0 (Some value)))) (sym is)
      (known terms journal origin seats (set s.words 1 1) (set s.homes 0 none) (set s.views id (holding n r.now k)) r.now count 1 (suc id) r.owner (length-set s.words 1 1 ∙ r.two_words) (length-set s.homes 0 none ∙ r.one_slot)
      (get_or-set_other s.words 1 0 1 0 (λ e. omega arith)) (get_or-set_same s.words 1 1 0 (let l = r.two_words in omega arith))
      (all_set (SeatHolds seats r.now count (suc id) r.owner) s.views id (holding n r.now k) mine others) (numbers_stay seats s.views id (idle n p k) (holding n r.now k) r.owner at (λ x h. h) r.each_number) (λ e. absurd (omega arith))
      (λ seat e. (refl, there seat (omega arith))))
    where
      mine : SeatHolds seats r.now (get_or s.words 0 0) (suc id) r.owner id (holding n r.now k)
      mine = let m = mark_of_idle s r id n p k at in
          (all_one (MarkHolds seats r.now (get_or s.words 0 0) r.owner id) (mark n r.now k) (m.0, m.1, stays (λ entry. entry.worker ≢ Some n) r.now, m.3), (refl, refl, counts))

      others : (j : ℕ) (u : View) → j ≢ id → get_elem? s.views j ≡ some u → SeatHolds seats r.now (get_or s.words 0 0) (suc id) r.owner j u
      others j u other e = let h = r.each_seat j u e in (h.0, stage_beside r.now (get_or s.words 0 0) id j r.owner u.stage other (subst (λ (x : ℕ). StageHolds r.now (get_or s.words 0 0) x r.owner j u.stage) free h.1))

      there : (seat : ℕ) → seat ≡ id → HasNumber (set s.views id (holding n r.now k)) seat
      there seat e = subst (HasNumber (set s.views id (holding n r.now k))) (sym e) (holding n r.now k, mark n r.now k, [], set_here s.views id (holding n r.now k) (at_inside s.views id (idle n p k) at), refl)

  abbrev number_or : Option ℕ → ℕ
  number_or None = 0
  number_or (Some x) = x

  worker_or_same : (x y : ℕ) → Some x ≡ Some y → x ≡ y
  worker_or_same x y e = ap number_or e

  abbrev terms_or : T → Option T → X
  terms_or x None = terms x
  terms_or x (Some y) = terms y

  pub tries : (said : Option T) (slots id n : ℕ) (p : Journal) (k : ℕ) → said ≡ Some origin
      → Allows Rule slots id (idle n p k, []) 1 (λ w. either (eqb w 0) 1 w) (tried terms journal said (step slots 1 0 1 none) (idle n p k, []))
  tries said slots id n p k told s r one at small = exchanged (get_or s.words 1 0) 0 1 Next hit miss
    where
      Then : ℕ → Me (Option T) View → Type 0
      Then = tried terms journal said (step slots 1 0 1 none) (idle n p k, [])

      Next : ℕ → Type 0
      Next w = (v : View) × (a : Act (Option T)) × Valid s.homes [] a × Rule (stepped s 1 w id [] v a) × Then (get_or s.words 1 0) (v, carried_after [] a)

      free : (h : ℕ) → r.holder ≡ h → get_or s.words 1 0 ≡ 0 → h ≡ 0
      free zero e w = refl
      free (suc j) e w = absurd (let o = (r.in_turn j e).0 in omega arith)

      long : (value : T) → get_or s.words 0 0 ≡ length r.now → journal value ≡ r.now → k ≤ length (journal value)
      long value counts is = let m = mark_of_idle s r id n p k at in let e = ap length is in let l = m.3 in omega arith

      hit : get_or s.words 1 0 ≡ 0 → Next 1
      hit w = let none_holds = free r.holder refl w in let home = r.at_rest none_holds in let value : T = home.2.0 in (
        holding n (journal value) k,
        takes 0 (Some value),
        home.2.1,
        taken s r id n p k value none_holds at home.1 home.2.3,
        (
          (λ _. (value, refl, subst (OthersAfter n p) (sym home.2.3) (mark_of_idle s r id n p k at).2, long value home.1 home.2.3, λ x e. home.2.2 ∙ ap (terms_or x) (sym told ∙ e))),
          (λ e. absurd (e w)),
        ),
      )

      miss : get_or s.words 1 0 ≢ 0 → Next (get_or s.words 1 0)
      miss w = (idle n p k, keeps, tt, unmoved terms journal origin seats s 1 id [] (idle n p k) at r, ((λ e. absurd (w e)), λ _. refl))

  pub counts : (slots id n count : ℕ) (J : Journal) (k : ℕ) (value : T) → count ≡ length (journal value) → OwnAfter n J (journal value)
      → Allows Rule slots id (holding n J k, (0, Some value) ∷ []) 0 (λ _. count) (λ _. noted journal (step slots 0 count 0 none) (holding n J k, (0, Some value) ∷ []) count)
  counts slots id n count J k value is own s r one at small = (counted n J k (journal value), keeps, tt, kept, refl)
    where
      before : SeatHolds seats r.now (get_or s.words 0 0) r.holder r.owner id (holding n J k)
      before = r.each_seat id (holding n J k) at

      own_mark : MarkHolds seats r.now (get_or s.words 0 0) r.owner id (mark n J k)
      own_mark = only_one (MarkHolds seats r.now (get_or s.words 0 0) r.owner id) (mark n J k) before.0

      no_less : get_or s.words 0 0 ≤ count
      no_less = let l = no_shorter (λ entry. entry.worker ≡ Some n) J (journal value) own in let e = ap length before.1.1 in let f = before.1.2 in omega arith

      longer : (j : ℕ) (m : Mark) → MarkHolds seats r.now (get_or s.words 0 0) r.owner j m → MarkHolds seats r.now count r.owner j m
      longer j m h = (h.0, h.1, h.2, let l = h.3 in let g = no_less in omega arith)

      mine : SeatHolds seats r.now count r.holder r.owner id (counted n J k (journal value))
      mine = (
        all_goes (MarkHolds seats r.now (get_or s.words 0 0) r.owner id) (MarkHolds seats r.now count r.owner id) (longer id) (mark n J k ∷ []) before.0,
        (
          before.1.0,
          before.1.1,
          is,
          subst (λ (x : Journal). Continues (IsOwn r.owner id) x (journal value)) before.1.1
              (read_as _ (IsOwn r.owner id) (λ entry e. (n, e, own_mark.1)) J (journal value) own),
        ),
      )

      others : (j : ℕ) (u : View) → j ≢ id → get_elem? s.views j ≡ some u → SeatHolds seats r.now count r.holder r.owner j u
      others j u other e = let h = r.each_seat j u e in
          (all_goes (MarkHolds seats r.now (get_or s.words 0 0) r.owner j) (MarkHolds seats r.now count r.owner j) (longer j) u.marks h.0, stage_waits r.now r.now (get_or s.words 0 0) count r.holder r.holder id j r.owner u.stage other before.1.0 (λ g. other (let f = before.1.0 in omega arith)) h.1)

      there : (seat : ℕ) → seat ≡ id → HasNumber (set s.views id (counted n J k (journal value))) seat
      there seat e = subst (HasNumber (set s.views id (counted n J k (journal value)))) (sym e)
          (counted n J k (journal value), mark n J k, [], set_here s.views id (counted n J k (journal value)) (at_inside s.views id (holding n J k) at), refl)

      kept : Rule (stepped s 0 count id ((0, Some value) ∷ []) (counted n J k (journal value)) keeps)
      kept = known terms journal origin seats (set s.words 0 count) s.homes (set s.views id (counted n J k (journal value))) r.now count (get_or s.words 1 0) r.holder r.owner
          (length-set s.words 0 count ∙ r.two_words) r.one_slot (get_or-set_same s.words 0 count 0 (let l = r.two_words in omega arith)) (get_or-set_other s.words 0 1 count 0 (λ e. omega arith))
          (all_set (SeatHolds seats r.now count r.holder r.owner) s.views id (counted n J k (journal value)) mine others)
          (numbers_stay seats s.views id (holding n J k) (counted n J k (journal value)) r.owner at (λ x h. h) r.each_number) (λ e. absurd (let f = before.1.0 in omega arith))
          (λ seat e. ((r.in_turn seat e).0, there seat (let f = before.1.0 in omega arith)))

  pub releases : (slots id n : ℕ) (J : Journal) (k : ℕ) (value : T) → terms value ≡ terms origin
      → Allows Rule slots id (counted n J k (journal value), (0, Some value) ∷ []) 1 (λ _. 0) (λ _. released journal (step slots 1 0 0 none) (counted n J k (journal value), (0, Some value) ∷ []) 0)
  releases slots id n J k value same s r one at small = (idle n (journal value) k, gives, tt, kept, refl)
    where
      before : SeatHolds seats r.now (get_or s.words 0 0) r.holder r.owner id (counted n J k (journal value))
      before = r.each_seat id (counted n J k (journal value)) at

      own_mark : MarkHolds seats r.now (get_or s.words 0 0) r.owner id (mark n J k)
      own_mark = only_one (MarkHolds seats r.now (get_or s.words 0 0) r.owner id) (mark n J k) before.0

      grown : Continues (IsOwn r.owner id) r.now (journal value)
      grown = before.1.3

      mine : SeatHolds seats (journal value) (get_or s.words 0 0) 0 r.owner id (idle n (journal value) k)
      mine = (all_one (MarkHolds seats (journal value) (get_or s.words 0 0) r.owner id) (mark n (journal value) k) (own_mark.0, own_mark.1, stays (λ entry. entry.worker ≢ Some n) (journal value), own_mark.3), (λ e. omega arith))

      -- the entries of the holder aren't those of a worker in another seat
      not_theirs : (j : ℕ) → j ≢ id → (m : Mark) → MarkHolds seats r.now (get_or s.words 0 0) r.owner j m → MarkHolds seats (journal value) (get_or s.words 0 0) r.owner j m
      not_theirs j other m h = (
        h.0,
        h.1,
        goes_on (λ entry. entry.worker ≢ Some m.worker) m.seen r.now (journal value) h.2
            (read_as (IsOwn r.owner id) (λ entry. entry.worker ≢ Some m.worker) (λ entry o e. other (sym h.1 ∙ (ap r.owner (worker_or_same m.worker o.0 (sym e ∙ o.1)) ∙ o.2))) r.now (journal value) grown),
        h.3,
      )

      others : (j : ℕ) (u : View) → j ≢ id → get_elem? s.views j ≡ some u → SeatHolds seats (journal value) (get_or s.words 0 0) 0 r.owner j u
      others j u other e = let h = r.each_seat j u e in (
        all_goes (MarkHolds seats r.now (get_or s.words 0 0) r.owner j) (MarkHolds seats (journal value) (get_or s.words 0 0) r.owner j) (not_theirs j other) u.marks h.0,
        stage_waits r.now (journal value) (get_or s.words 0 0) (get_or s.words 0 0) r.holder 0 id j r.owner u.stage other before.1.0 (λ g. omega arith) h.1,
      )

      kept : Rule (stepped s 1 0 id ((0, Some value) ∷ []) (idle n (journal value) k) gives)
      kept = known terms journal origin seats (set s.words 1 0) (set s.homes 0 (some (Some value))) (set s.views id (idle n (journal value) k)) (journal value) (get_or s.words 0 0) 0 0 r.owner
          (length-set s.words 1 0 ∙ r.two_words) (length-set s.homes 0 (some (Some value)) ∙ r.one_slot) (get_or-set_other s.words 1 0 0 0 (λ e. omega arith)) (get_or-set_same s.words 1 0 0 (let l = r.two_words in omega arith))
          (all_set (SeatHolds seats (journal value) (get_or s.words 0 0) 0 r.owner) s.views id (idle n (journal value) k) mine others)
          (numbers_stay seats s.views id (counted n J k (journal value)) (idle n (journal value) k) r.owner at (λ x h. h) r.each_number)
          (λ _. (refl, before.1.2, (value, set_here s.homes 0 (some (Some value)) (let l = r.one_slot in omega arith), same, refl))) (λ seat e. absurd (omega arith))
