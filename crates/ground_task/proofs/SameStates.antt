-- Equal states are one, and one state is equal to itself.
use Rattle.std.proofs.Common.{◌≡◌, ◌&&◌, Bool, true, ap, ◌∙◌}
use Rattle.std.specs.Cmp.{bool_eq_equiv}
use Rattle.std.specs.Cmp.Lexicographic.{pointwise, lists_equiv}
use Rattle.std.specs.Ordering.{int_eq}
use Rattle.std.proofs.lemmas.Cmp.{int_eq_equiv}
use Rattle.ground_task.specs.Orders as order
use Rattle.ground_task.specs.Orders.{is_same_state}
use Rattle.ground_task.specs.States.{StateValue}

-- equal states are one
pub same_state : (x y : StateValue) → is_same_state x y ≡ true → x ≡ y
same_state = order.same_state

-- and a state equals itself
pub state_itself : (x : StateValue) → is_same_state x x ≡ true
state_itself x =
    ap (λ (b : Bool). b && pointwise int_eq x.values x.values) ((lists_equiv bool_eq_equiv).refl x.facts)
    ∙ (lists_equiv int_eq_equiv).refl x.values
