-- A seat still fits its table after a step.
use Rattle.std.proofs.Common.{arith, ◌≡◌, ℕ, ◌≤◌, [], sym, ap, ◌∙◌, subst}
use Rattle.atomic_table.specs.Seated.{TableId}
use Rattle.atomic_table.specs.Table.{Me}
use Rattle.atomic_table.specs.declared.shared.Seat.{Seat}
use Rattle.word_rows.specs.declared.view.View.{View}
use Rattle.word_rows.specs.Views.{fresh_view}
use Rattle.word_rows.specs.Tables.{IsFitting, IsFresh}

pub fits_after : (id : TableId) (s s' : Seat (Unit {0}) View) (v : View) → IsFitting id s → s'.table_id ≡ s.table_id → s'.me ≡ (v, s.me.1) → v.seats ≡ s.me.0.seats → IsFitting id s'
fits_after id s s' v fits table me seats = record {
  table = table ∙ fits.table;
  no_slot = ap (λ (m : Me (Unit {0}) View). m.1) me ∙ fits.no_slot;
  some_seat = subst (λ (n : ℕ). 1 ≤ n) (sym (ap (λ (m : Me (Unit {0}) View). m.0.seats) me ∙ seats)) fits.some_seat;
}

pub fits_still : (id : TableId) (s s' : Seat (Unit {0}) View) → IsFitting id s → s'.table_id ≡ s.table_id → s'.me ≡ s.me → IsFitting id s'
fits_still id s s' fits table me = record {
  table = table ∙ fits.table;
  no_slot = ap (λ (m : Me (Unit {0}) View). m.1) me ∙ fits.no_slot;
  some_seat = subst (λ (n : ℕ). 1 ≤ n) (sym (ap (λ (m : Me (Unit {0}) View). m.0.seats) me)) fits.some_seat;
}

pub fresh_seat : (id : TableId) (s : Seat (Unit {0}) View) → s.table_id ≡ id → s.me ≡ (fresh_view 1, []) → IsFresh id s
fresh_seat id s table me = record {
  idle = record {
    fits = record {
      table = table;
      no_slot = ap (λ (m : Me (Unit {0}) View). m.1) me;
      some_seat = subst (λ (n : ℕ). 1 ≤ n) (sym (ap (λ (m : Me (Unit {0}) View). m.0.seats) me)) (omega arith);
    };
    idle = ap (λ (m : Me (Unit {0}) View). m.0.writing) me;
  };
  me = me;
}
