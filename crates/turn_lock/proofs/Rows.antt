-- Lists of seats, and the marks of them all.
use Rattle.std.proofs.Common.{◌≡◌, ℕ, zero, suc, ◌+◌, ◌-◌, ◌<◌, List, [], ◌∷◌, ◌++◌, map, length, sym, refl, ap, ◌∙◌, arith, All, subst, get_or, length-append}
use lib.ListN.{get_or-append}
use mathlib.Core.List.{map-append}
use Rattle.std.proofs.lemmas.List.{append_assoc}
use Rattle.std.proofs.lemmas.List.Elements.{All-nil, All-cons, All-head, All-tail}
use Rattle.turn_lock.specs.History.{Journal}
use Rattle.turn_lock.specs.declared.view.Mark.{Mark}
use Rattle.turn_lock.specs.declared.seat.TurnSeat.{TurnSeat}
use Rattle.turn_lock.specs.Words.{mark, marks_from, numbers_from, worker_of_mark}
use Rattle.turn_lock.specs.Seats.{seen_by, worker_of, mark_of}

-- a mark of the rest goes to a seat of the row
pub dealt : (row : List TurnSeat) (seat : TurnSeat) (m : Mark) (rest whole : List Mark) → map mark_of row ++ m ∷ rest ≡ whole → mark_of seat ≡ m → map mark_of (row ++ seat ∷ []) ++ rest ≡ whole
dealt row seat m rest whole e is = ap (λ (x : List Mark). x ++ rest) (map-append mark_of row (seat ∷ [])) ∙ (append_assoc (map mark_of row) (mark_of seat ∷ []) rest ∙ (ap (λ (x : Mark). map mark_of row ++ x ∷ rest) is ∙ e))

-- the last seat of a row goes, and its mark comes in front of those that were gathered
pub gathered : (row row' : List TurnSeat) (seat : TurnSeat) (rest whole : List Mark) → row ≡ row' ++ seat ∷ [] → map mark_of row ++ rest ≡ whole → map mark_of row' ++ mark_of seat ∷ rest ≡ whole
gathered row row' seat rest whole e is = sym (append_assoc (map mark_of row') (mark_of seat ∷ []) rest) ∙ (ap (λ (x : List Mark). x ++ rest) (sym (map-append mark_of row' (seat ∷ [])) ∙ sym (ap (map mark_of) e)) ∙ is)

pub fewer : {A : Type 0} (P : A → Type 0) (l : List A) (a : A) → All P (l ++ a ∷ []) → All P l
fewer P l a h k d lt = subst P (get_or-append l (a ∷ []) d k lt) (h k d (let e = length-append l (a ∷ []) in omega arith))

pub next_marks : (first all : ℕ) (J : Journal) → first < all → marks_from first (all - first) J ≡ mark first J (length J) ∷ marks_from (first + 1) (all - (first + 1)) J
next_marks first all J lt = ap (λ (k : ℕ). marks_from first k J) (next first all lt)
  where
    next : (m n : ℕ) → m < n → n - m ≡ suc (n - (m + 1))
    next m n l = omega arith

abbrev head_or : Mark → List Mark → Mark
head_or d [] = d
head_or d (m ∷ ms) = m

abbrev rest_of : List Mark → List Mark
rest_of [] = []
rest_of (m ∷ ms) = ms

-- the seats whose marks are those of the numbers from the first on
pub dealt_all : (seats : List TurnSeat) (first count : ℕ) (J : Journal) → map mark_of seats ≡ marks_from first count J → (map worker_of seats ≡ numbers_from first count) × All (λ seat. seen_by seat ≡ J) seats
dealt_all [] first zero J e = (refl, All-nil (λ seat. seen_by seat ≡ J))
dealt_all [] first (suc count) J e = absurd (let l = ap length e in omega arith)
dealt_all (x ∷ xs) first zero J e = absurd (let l = ap length e in omega arith)
dealt_all (x ∷ xs) first (suc count) J e = let m : mark_of x ≡ mark first J (length J) = ap (head_or (mark 0 [] 0)) e in let t = dealt_all xs (first + 1) count J (ap rest_of e) in
    ((λ i. (m i).worker ∷ t.0 i), All-cons (λ seat. seen_by seat ≡ J) x xs (ap (λ (y : Mark). y.seen) m) t.1)

pub workers_of_marks : (seats : List TurnSeat) → map worker_of_mark (map mark_of seats) ≡ map worker_of seats
workers_of_marks [] = refl
workers_of_marks (x ∷ xs) = ap (λ (ns : List ℕ). x.worker ∷ ns) (workers_of_marks xs)

pub of_marks : (P : Mark → Type 0) (seats : List TurnSeat) → All P (map mark_of seats) → All (λ seat. P (mark_of seat)) seats
of_marks P [] h = All-nil (λ seat. P (mark_of seat))
of_marks P (x ∷ xs) h = All-cons (λ seat. P (mark_of seat)) x xs (All-head P (mark_of x) (map mark_of xs) h) (of_marks P xs (All-tail P (mark_of x) (map mark_of xs) h))

pub same_workers : (seats after : List TurnSeat) → length after ≡ length seats → ((i : ℕ) (d : TurnSeat) → i < length seats → (get_or after i d).worker ≡ (get_or seats i d).worker) → map worker_of after ≡ map worker_of seats
same_workers [] [] e h = refl
same_workers [] (y ∷ ys) e h = absurd (omega arith)
same_workers (x ∷ xs) [] e h = absurd (omega arith)
same_workers (x ∷ xs) (y ∷ ys) e h = let first = h 0 x (omega arith) in let rest = same_workers xs ys (omega arith) (λ i d lt. h (suc i) d (omega arith)) in λ k. first k ∷ rest k
