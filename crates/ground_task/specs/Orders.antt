-- The equality and the order of states, and their laws.
use Rattle.std.proofs.Common.{◌≡◌, ◌&&◌, ℤ, Bool, true, List, ap, ◌∙◌, refl}
use Rattle.std.specs.Bool.{beq}
use Rattle.std.specs.declared.cmp.Ordering.{Ordering}
use Rattle.std.specs.Cmp.{and_equiv, bool_cmp_total, bool_eq_equiv, both_tied, first_so, int_cmp_total, int_eq_equiv, on_equiv, on_total, second_so, then_total, IsEquivalence, IsTotalOrder}
use Rattle.std.specs.Cmp.Lexicographic.{pointwise, slice_cmp, lists_equiv, lists_ties, lists_total}
use Rattle.std.specs.Cmp.Rules.{signed_items}
use Rattle.std.specs.Ordering.{bool_cmp, eq_by_cmp, int_cmp, int_eq, ordering_then}
use Rattle.ground_task.specs.Bits.{bits_tied, same_bits}
use Rattle.ground_task.specs.States.{StateValue}

-- the same facts and the same values
abbrev pub is_same_state : StateValue → StateValue → Bool
is_same_state x y = pointwise beq x.facts y.facts && pointwise int_eq x.values y.values

-- by the facts in order with false first, and then by the values in order
abbrev pub state_cmp : StateValue → StateValue → Ordering
state_cmp x y = ordering_then (slice_cmp bool_cmp x.facts y.facts) (slice_cmp int_cmp x.values y.values)

-- ---- laws

abbrev facts_of : StateValue → List Bool
facts_of s = s.facts

abbrev values_of : StateValue → List ℤ
values_of s = s.values

abbrev state_of : List Bool → List ℤ → StateValue
state_of facts values = record { facts = facts; values = values }

-- equal states are one
pub same_state : (x y : StateValue) → is_same_state x y ≡ true → x ≡ y
same_state x y e =
    let facts : x.facts ≡ y.facts = same_bits x.facts y.facts (first_so (pointwise beq x.facts y.facts) (pointwise int_eq x.values y.values) e) in
    let values : x.values ≡ y.values = (signed_items x.values y.values).0 (second_so (pointwise beq x.facts y.facts) (pointwise int_eq x.values y.values) e) in
    ap (λ (bits : List Bool). state_of bits x.values) facts ∙ ap (state_of y.facts) values

pub same_state_equiv : IsEquivalence is_same_state
same_state_equiv = and_equiv (on_equiv facts_of (lists_equiv bool_eq_equiv)) (on_equiv values_of (lists_equiv int_eq_equiv))

pub state_cmp_total : IsTotalOrder state_cmp
state_cmp_total = then_total (on_total facts_of (lists_total bool_cmp_total)) (on_total values_of (lists_total int_cmp_total))

signed_tied : (x y : ℤ) → int_eq x y ≡ eq_by_cmp int_cmp x y
signed_tied x y = refl

pub states_tied : (x y : StateValue) → is_same_state x y ≡ eq_by_cmp state_cmp x y
states_tied x y =
    both_tied (pointwise beq x.facts y.facts) (pointwise int_eq x.values y.values) (slice_cmp bool_cmp x.facts y.facts) (slice_cmp int_cmp x.values y.values)
    (lists_ties bool_cmp bits_tied x.facts y.facts) (lists_ties int_cmp signed_tied x.values y.values)
