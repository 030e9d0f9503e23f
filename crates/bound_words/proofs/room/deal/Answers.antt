use Rattle.std.proofs.Common.{rules, arith, ◌≡◌, ℕ, ◌-◌, List, length, sym, refl, ap, ◌∙◌, subst, ⊎_elim}
use mathlib.Core.Option.{some}
use lib.ListN.{get_elem?}
use Rattle.bound_words.specs.declared.seat.RelaxSeat.{RelaxSeat}
use Rattle.bound_words.specs.Seats.{IsNewSeat}
use Rattle.bound_words.proofs.Closing.{at_push, rest_of, head_of, last_of, new_seat}
use Rattle.bound_words.proofs.room.deal.Goals as goal

pub loop-number-preserved : goal.loop-number-preserved
loop-number-preserved g c = let t = g.S.System.terms c.args.shared.now.key.system.value in let start = c.args.start.now in let id = c.args.shared.now.table_id in let n = c.loop-number.number in let inv = c.loop-number.invariant in
    let h = c.loop-number-test.true in let a : RelaxSeat = record { number = n; row = c.in_ok-row.row; seat = c.hand_over-seat.result } in
    let same : c.in_ok-row.row.items ≡ start = c.in_ok-row.ensures.items_if_clones_equal (λ x y e. e) in
    let fresh = new_seat t start id n a c.requires.start.0 c.requires.start.1 c.requires.table.0 c.requires.table.1 (c.hand_over-seat.ensures.other.0 ∙ (inv.same_table ∙ c.requires.table.2))
    (head_of start n c.args.seats c.loop-number.rest.me c.hand_over-seat.result.me (omega arith) inv.rest c.hand_over-seat.ensures.other.1) (ap (λ (l : List ℕ). length l) same) refl in record {
      same_table = c.hand_over-seat.ensures.seat.0 ∙ inv.same_table;
      rest = rest_of start n c.args.seats c.loop-number.rest.me c.hand_over-seat.new.seat.me (omega arith) inv.rest c.hand_over-seat.ensures.seat.1;
      count = search rules;
      room = search rules;
      each = λ i s at. ⊎_elim (inv.each i s) (λ (p : (i ≡ length c.loop-number.list.items) × (a ≡ s)). subst (λ (z : RelaxSeat). IsNewSeat t start id i z) p.1 (subst (λ (k : ℕ). IsNewSeat t start id k a) (sym (p.0 ∙ inv.count)) fresh))
          (at_push c.loop-number.list.items a s i (subst (λ (l : List RelaxSeat). get_elem? l i ≡ some s) c.push_reserved.ensures.items at));
    }

pub returns-clause-each : goal.returns-clause-each
returns-clause-each g c = λ i s at. let t = g.S.System.terms c.args.shared.now.key.system.value in let start = c.args.start.now in let id = c.args.shared.now.table_id in let n = c.loop-number.number in let inv = c.loop-number.invariant in
    let h = c.loop-number-test.false in let h' = c.loop-number.auto.number-end in let some_seat = c.requires.some in let is : c.args.seats - 1 ≡ n = omega arith in let a : RelaxSeat = record { number = c.args.seats - 1; row = c.args.row; seat = c.loop-number.rest } in
    let fresh = new_seat t start id n a c.requires.start.0 c.requires.start.1 c.requires.table.0 c.requires.table.1 (inv.same_table ∙ c.requires.table.2)
    (last_of start n c.args.seats c.loop-number.rest.me (omega arith) inv.rest) c.requires.row is in
    ⊎_elim (inv.each i s) (λ (p : (i ≡ length c.loop-number.list.items) × (a ≡ s)). subst (λ (z : RelaxSeat). IsNewSeat t start id i z) p.1 (subst (λ (k : ℕ). IsNewSeat t start id k a) (sym (p.0 ∙ inv.count)) fresh))
    (at_push c.loop-number.list.items a s i (subst (λ (l : List RelaxSeat). get_elem? l i ≡ some s) c.push_reserved-2.ensures.items at))
