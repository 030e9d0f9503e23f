-- The sizes of value and gain in the code.
use Rattle.std.proofs.Common.{if◌then◌else◌, ◌≡◌, Bool, true, false, Some, None, unsigned_abs, refl, sym, ap₂, ◌∙◌}
use Rattle.num_ends.specs.Decimal.{Decimal, InRange, aligned, common_places, number_at}
use Rattle.num_ends.specs.Range.{operands_fit}
use Rattle.num_ends.proofs.Ranges.{operands_test, operands_tested}
use Rattle.simple_atoms.specs.Repetitions.{sizes_of}

chosen : {X : Type 0} (b : Bool) (x y : X) → b ≡ true → (if b then x else y) ≡ x
chosen true x y e = refl
chosen false x y e = cc

left_out : {X : Type 0} (b : Bool) (x y : X) → (b ≡ true → ⊥) → (if b then x else y) ≡ y
left_out true x y e = absurd (e refl)
left_out false x y e = refl

pub sizes_given : (value gain d e : Decimal) → d ≡ aligned (common_places value gain) value → InRange (number_at (common_places value gain) value)
    → e ≡ aligned (common_places value gain) gain → InRange (number_at (common_places value gain) gain)
    → sizes_of value gain ≡ Some (unsigned_abs d.n, unsigned_abs e.n)
unfolding sizes_of
sizes_given value gain d e dis dfits eis efits =
    chosen (operands_fit value gain) _ None (operands_test value gain (record { first = dfits; second = efits }))
    ∙ ap₂ (λ (x y : Decimal). Some (unsigned_abs x.n, unsigned_abs y.n)) (sym dis) (sym eis)

pub sizes_refused : (value gain : Decimal) → (InRange (number_at (common_places value gain) value) → InRange (number_at (common_places value gain) gain) → ⊥)
    → sizes_of value gain ≡ None
unfolding sizes_of
sizes_refused value gain out = left_out (operands_fit value gain) _ None (λ e. let h = operands_tested value gain e in out h.first h.second)
