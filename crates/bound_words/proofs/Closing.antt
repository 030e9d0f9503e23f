-- The seats of a new table, and the row of a closed one.
use Rattle.std.proofs.Common.{◌≡◌, ◌⊎◌, ℕ, zero, suc, ◌+◌, ◌-◌, ◌*◌, ◌^◌, ◌<◌, ◌≤◌, true, List, [], ◌∷◌, ◌++◌, length, drop, take, get_or, sym, refl, ap, ◌∙◌, subst, inl, inr, ⊎_elim, arith, ext_get_or}
use mathlib.Core.Option.{some, some-injective, some-ne-none}
use lib.ListN.{get_elem?}
use Rattle.atomic_table.specs.Table.{Me, Final, Seen}
use Rattle.atomic_table.specs.Seated.{TableId}
use Rattle.bound_words.specs.declared.view.View.{View}
use Rattle.bound_words.specs.declared.seat.RelaxSeat.{RelaxSeat}
use Rattle.bound_words.specs.Rows.{Terms, IsPast, IsRow, IsRowPast, IsBetween, IsLeastClosed}
use Rattle.bound_words.specs.Protocol.{Kept, from, fresh_view}
use Rattle.bound_words.specs.Seats.{IsNewSeat, IsFreshAt}
use Rattle.bound_words.proofs.Rows.{row_past_refl}
use Rattle.std.specs.List.{All}
use Rattle.std.proofs.lemmas.List.{get_or_default}
use Rattle.atomic_table.proofs.Lists.{at_index}

elem_or : (l : List ℕ) (i x : ℕ) → get_elem? l i ≡ some x → get_or l i 0 ≡ x
elem_or [] i x e = absurd (some-ne-none x (sym e))
elem_or (y ∷ ys) zero x e = some-injective y x e
elem_or (y ∷ ys) (suc i) x e = elem_or ys i x e

pub at_push : {A : Type 0} (l : List A) (a b : A) (i : ℕ) → get_elem? (l ++ a ∷ []) i ≡ some b → (get_elem? l i ≡ some b) ⊎ ((i ≡ length l) × (a ≡ b))
at_push [] a b zero e = inr (refl, some-injective a b e)
at_push [] a b (suc i) e = absurd (some-ne-none b (sym e))
at_push (x ∷ xs) a b zero e = inl e
at_push (x ∷ xs) a b (suc i) e = ⊎_elim (λ (p : get_elem? xs i ≡ some b). inl p) (λ (p : (i ≡ length xs) × (a ≡ b)). inr (ap suc p.0, p.1)) (at_push xs a b i e)

abbrev Mine : Type 0
Mine = Me (Unit {0}) View

-- what is left of the places n, n + 1, .. after the first is handed over, and the first
left_over : (n m : ℕ) → n < m → drop 1 (from n (m - n)) ≡ from (n + 1) (m - (n + 1))
left_over n m h = let e : m - n ≡ suc (m - (n + 1)) = omega arith in ap (λ (k : ℕ). drop 1 (from n k)) e

first_of : (n m : ℕ) → n < m → take 1 (from n (m - n)) ≡ n ∷ []
first_of n m h = let e : m - n ≡ suc (m - (n + 1)) = omega arith in ap (λ (k : ℕ). take 1 (from n k)) e

pub rest_of : (start : List ℕ) (n m : ℕ) (me me' : Mine) → n < m → me ≡ (fresh_view start (from n (m - n)), []) → me' ≡ (fresh_view me.0.seen (drop 1 me.0.places), []) → me' ≡ (fresh_view start (from (n + 1) (m - (n + 1))), [])
rest_of start n m me me' h e e' = e' ∙ (ap (λ (q : Mine). (fresh_view q.0.seen (drop 1 q.0.places), [])) e ∙ ap (λ (l : List ℕ). (fresh_view start l, [])) (left_over n m h))

pub head_of : (start : List ℕ) (n m : ℕ) (me me' : Mine) → n < m → me ≡ (fresh_view start (from n (m - n)), []) → me' ≡ (fresh_view me.0.seen (take 1 me.0.places), []) → me' ≡ (fresh_view start (n ∷ []), [])
head_of start n m me me' h e e' = e' ∙ (ap (λ (q : Mine). (fresh_view q.0.seen (take 1 q.0.places), [])) e ∙ ap (λ (l : List ℕ). (fresh_view start l, [])) (first_of n m h))

pub last_of : (start : List ℕ) (n m : ℕ) (me : Mine) → m ≡ n + 1 → me ≡ (fresh_view start (from n (m - n)), []) → me ≡ (fresh_view start (n ∷ []), [])
last_of start n m me h e = let one : m - n ≡ 1 = omega arith in e ∙ ap (λ (k : ℕ). (fresh_view start (from n k), [])) one

module _ (t : Terms) (start : List ℕ) where
  pub new_seat : (id : TableId) (n : ℕ) (s : RelaxSeat) → IsRow t start → t.words < 2 ^ 32 → id.words ≡ t.words + 2 → id.slots ≡ 0 → s.seat.table_id ≡ id → s.seat.me ≡ (fresh_view start (n ∷ []), []) → length s.row.items ≡ length start → s.number ≡ n
      → IsNewSeat t start id n s
  new_seat id n s is_row few sized slots table me room number = record {
    seat_at = record {
      fitting = record {
        sized = sized;
        no_slots = slots;
        few_words = few;
        table = table;
        no_slot = ap (λ (q : Mine). q.1) me;
        seen_row = subst (λ (q : Mine). IsRow t q.0.seen) (sym me) is_row;
        some_place = subst (λ (q : Mine). 0 < length q.0.places) (sym me) (omega arith);
        idle = ap (λ (q : Mine). q.0.in_hand) me;
        few_begun = subst (λ (q : Mine). q.0.begun ≤ t.rules * q.0.sweeps) (sym me) (omega arith);
      };
      room = room ∙ is_row.length_is;
      start_row = is_row;
      between = subst (λ (q : Mine). IsBetween t start q.0.seen) (sym me) record { after_start = row_past_refl t start; before_closed = λ c closed past. past };
    };
    numbered = number;
    placed = ap (λ (q : Mine). q.0.places) me;
    sees_start = ap (λ (q : Mine). q.0.seen) me;
    no_sweep = ap (λ (q : Mine). q.0.sweeps) me;
  }

  module _ (seats id : ℕ) (v : View) (items row : List ℕ) (xs : List (Unit {0})) (last : Final (Seen (Kept t start seats) id v) items xs) (wide : length row ≡ t.words) (each : (i : ℕ) → i < length row → get_elem? items (i + 2) ≡ some (get_or row i 0)) where
    row_is : (k : Kept t start seats last.0) → last.0.words ≡ items → k.row ≡ row
    row_is k is = let len = k.is_row.length_is in ext_get_or 0 k.row row (len ∙ sym wide) (λ i h. let n : i + 2 ≡ suc (suc i) = omega arith in
        elem_or k.row i (get_or row i 0) (ap (λ (j : ℕ). get_elem? (k.done ∷ k.begun ∷ k.row) j) (sym n) ∙ (ap (λ (l : List ℕ). get_elem? l (i + 2)) (sym k.words_are ∙ is) ∙ each i (omega arith))))

    pub closes_row : IsRow t row
    closes_row = let k = last.1.0 in subst (IsRow t) (row_is k last.2) k.is_row

    pub closes_between : IsBetween t start row
    closes_between = let k = last.1.0 in subst (IsBetween t start) (row_is k last.2) k.between

    pub closes_past : length v.seen ≡ t.words → IsRowPast t v.seen row
    closes_past len w h = let k = last.1.0 in subst (λ (l : List ℕ). IsPast (t.direction w) (get_or v.seen w 0) (get_or l w 0)) (row_is k last.2) ((k.each_view id v last.1.1).saw w (omega arith))

    pub closes_least : v.quiet ≡ true → IsLeastClosed t start row
    closes_least q = let k = last.1.0 in subst (IsLeastClosed t start) (row_is k last.2) record { closed = record { is_row = k.is_row; met = (k.each_view id v last.1.1).settled q }; between = k.between }

pub all_new : (t : Terms) (start : List ℕ) (id : TableId) (l : List RelaxSeat) → ((i : ℕ) (s : RelaxSeat) → get_elem? l i ≡ some s → IsNewSeat t start id i s) → All (IsFreshAt t start id) l
all_new t start id l each k d h = let s : RelaxSeat = get_or l k d in of_new s k (each k s (at_index l k s h (get_or_default l k d s h)))
  where
    of_new : (s : RelaxSeat) (i : ℕ) → IsNewSeat t start id i s → IsFreshAt t start id s
    of_new s i n = record { seat_at = n.seat_at; one_place = ap (λ (l : List ℕ). length l) n.placed; sees_start = n.sees_start; no_sweep = n.no_sweep }
