-- Rows with no more words than their numbers need are equal exactly where their states are.
use Rattle.std.proofs.Common.{◌≡◌, ℤ, Bool, true, false, List, refl, sym, ap, ◌∙◌, subst}
use Rattle.ground_task.specs.Orders.{is_same_state, same_state}
use Rattle.ground_task.specs.Rows.{needs_two_words, state_of_row, HasLeastWords, RowValue}
use Rattle.ground_task.specs.States.{StateValue}
use Rattle.ground_task.proofs.SameStates.{state_itself}

abbrev row : List Bool → List ℤ → Bool → RowValue
row facts values is_wide = record { facts = facts; values = values; is_wide = is_wide }

rows_of : (r s : RowValue) → HasLeastWords r → HasLeastWords s → state_of_row r ≡ state_of_row s → r ≡ s
rows_of r s one other e =
    let facts : r.facts ≡ s.facts = ap (λ (x : StateValue). x.facts) e in
    let values : r.values ≡ s.values = ap (λ (x : StateValue). x.values) e in
    let width : r.is_wide ≡ s.is_wide = one ∙ ap needs_two_words values ∙ sym other in
    ap (λ (xs : List Bool). row xs r.values r.is_wide) facts
    ∙ ap (λ (ns : List ℤ). row s.facts ns r.is_wide) values
    ∙ ap (row s.facts s.values) width

both_ways : (s t : Bool) → (s ≡ true → t ≡ true) → (t ≡ true → s ≡ true) → s ≡ t
both_ways true t f g = sym (f refl)
both_ways false true f g = g refl
both_ways false false f g = refl

pub same_rows : (r s : RowValue) (x y : StateValue) (b : Bool) → HasLeastWords r → HasLeastWords s → state_of_row r ≡ x → state_of_row s ≡ y → (b ≡ true → r ≡ s) → (r ≡ s → b ≡ true) → b ≡ is_same_state x y
same_rows r s x y b one other r_is s_is equal itself =
    both_ways b (is_same_state x y)
    (λ h. subst (λ (z : StateValue). is_same_state x z ≡ true) (sym r_is ∙ ap state_of_row (equal h) ∙ s_is) (state_itself x))
    (λ h. itself (rows_of r s one other (r_is ∙ same_state x y h ∙ sym s_is)))
