-- A number that is no fluent's has the value 0.
use Rattle.std.proofs.Common.{◌≡◌, ℕ, ◌≤◌, ℤ, length, pos, sym, ap₂, arith}
use Rattle.std.proofs.Math.ListN.{get_or-eq_default}
use Rattle.num_ends.specs.Decimal.{origin, trimmed}
use Rattle.ground_task.specs.Meaning.{fluent_value}
use Rattle.ground_task.specs.Placed.{IsPlaced}
use Rattle.ground_task.specs.States.{StateValue}
use Rattle.ground_task.specs.Tasks.{TaskValue, IsStateOf}

pub unknown_fluent : (t : TaskValue) (s : StateValue) (x : ℕ) → IsStateOf t s → IsPlaced t.raw t.places → length t.raw.fluents ≤ x
    → origin ≡ trimmed (fluent_value t.places s x)
unfolding trimmed
unknown_fluent t s x a_state placed past =
    let values : length s.values ≤ x = omega (arith, a_state.a_number_each) in
    let counts : length t.places ≤ x = omega (arith, placed.a_count_each) in
    sym (ap₂ (λ (n : ℤ) (p : ℕ). trimmed (record { n = n; p = p })) (get_or-eq_default s.values (pos 0) values) (get_or-eq_default t.places 0 counts))
