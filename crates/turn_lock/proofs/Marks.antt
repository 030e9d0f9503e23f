-- What stays true of one seat, and of the whole lock, over a step.
use Rattle.std.proofs.Common.{◌≡◌, ◌≢◌, ℕ, suc, ◌<◌, ◌≤◌, List, length, get_or, set, sym, ap, ◌∙◌, subst, arith, Option}
use mathlib.Core.Logic.{dite}
use mathlib.Core.Option.{some, some-injective}
use native.Mathlib.Decide.{ℕ_discrete}
use mathlib.Core.Option as maybe
use lib.ListN.{get_elem?}
use lib.Seq.{set-get_or}
use Rattle.atomic_table.specs.Table.{State, keeps, stepped}
use Rattle.atomic_table.proofs.Lists.{set_again, set_here, set_else}
use Rattle.turn_lock.specs.History.{Journal}
use Rattle.turn_lock.specs.declared.view.Stage.{Stage}
use Rattle.turn_lock.specs.declared.view.Stage.TheVariants.{Waits, Holds, Counted}
use Rattle.turn_lock.specs.declared.view.View.{View}
use Rattle.turn_lock.specs.Turns.{StageHolds, SeatHolds, IsOwn, HasNumber, HasWorker, StandsIn, AtHome, Kept}
use Rattle.turn_lock.proofs.Seats.{at_inside}
use Rattle.turn_lock.proofs.Histories.{no_shorter}

-- nobody holds the turn, and then another seat does
pub stage_beside : (now : Journal) (count id seat : ℕ) (owner : ℕ → ℕ) (st : Stage) → seat ≢ id → StageHolds now count 0 owner seat st → StageHolds now count (suc id) owner seat st
stage_beside now count id seat owner Waits other h = λ e. other (omega arith)
stage_beside now count id seat owner (Holds taken) other h = absurd (let e = h.0 in omega arith)
stage_beside now count id seat owner (Counted taken back) other h = absurd (let e = h.0 in omega arith)

-- another seat holds the turn, and goes on or gives it back
pub stage_waits : (now now' : Journal) (count count' holder holder' id seat : ℕ) (owner : ℕ → ℕ) (st : Stage) → seat ≢ id → holder ≡ suc id → holder' ≢ suc seat
    → StageHolds now count holder owner seat st → StageHolds now' count' holder' owner seat st
stage_waits now now' count count' holder holder' id seat owner Waits other is next h = next
stage_waits now now' count count' holder holder' id seat owner (Holds taken) other is next h = absurd (let e = h.0 in other (omega arith))
stage_waits now now' count count' holder holder' id seat owner (Counted taken back) other is next h = absurd (let e = h.0 in other (omega arith))

-- where a seat holds the turn, the count is no less than the length of the history
pub stage_count : (now : Journal) (count holder seat : ℕ) (owner : ℕ → ℕ) (st : Stage) → holder ≡ suc seat → StageHolds now count holder owner seat st → length now ≤ count
stage_count now count holder seat owner Waits is h = absurd (h is)
stage_count now count holder seat owner (Holds taken) is h = let e = h.2 in omega arith
stage_count now count holder seat owner (Counted taken back) is h = let e = h.2 in let l = no_shorter (IsOwn owner seat) now back h.3 in omega arith

-- a seat whose view changes keeps its worker numbers
pub numbers_stay : (seats : ℕ) (views : List View) (id : ℕ) (v w : View) (owner : ℕ → ℕ) → get_elem? views id ≡ some v → ((n : ℕ) → StandsIn n v.marks → StandsIn n w.marks)
    → ((n : ℕ) → n < seats → HasWorker views (owner n) n) → (n : ℕ) → n < seats → HasWorker (set views id w) (owner n) n
numbers_stay seats views id v w owner at goes old n lt = let h = old n lt in dite (ℕ_discrete (owner n) id)
    (λ is. let same : h.0 ≡ v = some-injective h.0 v (sym h.1 ∙ (ap (get_elem? views) is ∙ at)) in
    (w, ap (get_elem? (set views id w)) is ∙ set_here views id w (at_inside views id v at), goes n (subst (λ (u : View). StandsIn n u.marks) same h.2)))
    (λ other. (h.0, set_else views id (owner n) w other ∙ h.1, h.2))

module _ {T X : Type 0} (terms : T → X) (journal : T → Journal) (origin : T) (seats : ℕ) where
  abbrev pub Rule : State (Option T) View → Type 0
  Rule = Kept terms journal origin seats

  -- the rule of a state whose words are known
  pub known : (words : List ℕ) (homes : List (maybe.Option (Option T))) (views : List View) (now : Journal) (count turn holder : ℕ) (owner : ℕ → ℕ)
      → length words ≡ 2 → length homes ≡ 1 → get_or words 0 0 ≡ count → get_or words 1 0 ≡ turn
      → ((seat : ℕ) (v : View) → get_elem? views seat ≡ some v → SeatHolds seats now count holder owner seat v)
      → ((worker : ℕ) → worker < seats → HasWorker views (owner worker) worker) → (holder ≡ 0 → (turn ≡ 0) × (count ≡ length now) × AtHome terms journal origin now homes)
      → ((seat : ℕ) → holder ≡ suc seat → (turn ≡ 1) × HasNumber views seat)
      → Rule record { words = words; homes = homes; views = views }
  known words homes views now count turn holder owner two one at0 at1 each numbers rest turns = record {
    now = now;
    holder = holder;
    owner = owner;
    two_words = two;
    one_slot = one;
    each_seat = subst (λ (c : ℕ). (seat : ℕ) (v : View) → get_elem? views seat ≡ some v → SeatHolds seats now c holder owner seat v) (sym at0) each;
    each_number = numbers;
    at_rest = subst (λ (c : ℕ × ℕ). holder ≡ 0 → (c.1 ≡ 0) × (c.0 ≡ length now) × AtHome terms journal origin now homes) (λ i. (sym at0 i, sym at1 i)) rest;
    in_turn = subst (λ (c : ℕ). (seat : ℕ) → holder ≡ suc seat → (c ≡ 1) × HasNumber views seat) (sym at1) turns;
  }

  -- a load leaves the lock as it was
  pub unmoved : (s : State (Option T) View) (i id : ℕ) (carried : List (ℕ × Option T)) (v : View) → get_elem? s.views id ≡ some v → Rule s → Rule (stepped s i (get_or s.words i 0) id carried v keeps)
  unmoved s i id carried v at r = subst (λ (x : List ℕ × List View). Rule record { words = x.0; homes = s.homes; views = x.1 }) (λ k. (sym (set-get_or s.words i 0) k, sym (set_again s.views id v at) k)) r
