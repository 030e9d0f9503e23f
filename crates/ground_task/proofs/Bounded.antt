-- What has a value within the range has the same value without bounds.
use Rattle.std.proofs.Common.{◌≡◌, ℕ, Bool, true, false, List, Option, Some, None, refl, sym, ap, ap₂, ◌∙◌}
use Rattle.num_ends.specs.Decimal.{Decimal, difference_of, product_of, sum_of}
use Rattle.num_ends.specs.Range.{where_fits}
use Rattle.ground_task.specs.declared.raw.GExpr.{GExpr}
use Rattle.ground_task.specs.Meaning.{fluent_value, value_layer, value_of}
use Rattle.ground_task.specs.Placed.{places_of}
use Rattle.ground_task.specs.Ranged.{combined, ranged_difference, ranged_product, ranged_sum, ranged_value}
use Rattle.ground_task.specs.States.{StateValue}
use Rattle.ground_task.proofs.Layers.{ranged_Const, ranged_Read, ranged_Add, ranged_Sub, ranged_Mul}
use Rattle.ground_task.proofs.Places.{places_in_state}
use Rattle.ground_task.proofs.Trees.{fold-Const, fold-Read, fold-Add, fold-Sub, fold-Mul, induct_expression}

-- the second is the value of the first, where that has one
abbrev pub Bounded : Option Decimal → Decimal → Type 0
Bounded x y = (d : Decimal) → x ≡ Some d → y ≡ d

fitting : (fits : Bool) (x : Decimal) → Bounded (where_fits fits x) x
fitting true x d h = cc
fitting false x d h = cc

combined_bounded : (ranged : Decimal → Decimal → Option Decimal) (exact : Decimal → Decimal → Decimal) → ((a b : Decimal) → Bounded (ranged a b) (exact a b)) → (x y : Option Decimal) (u v : Decimal) → Bounded x u → Bounded y v → Bounded (combined ranged x y) (exact u v)
combined_bounded ranged exact each None y u v f g d h = cc
combined_bounded ranged exact each (Some a) None u v f g d h = cc
combined_bounded ranged exact each (Some a) (Some b) u v f g d h = ap₂ exact (f a refl) (g b refl) ∙ each a b d h

pub value_bounded : (places : List ℕ) (s : StateValue) (x : GExpr) → Bounded (ranged_value places s x) (value_of places s x)
value_bounded places s =
    induct_expression (λ x. Bounded (ranged_value places s x) (value_of places s x))
    (λ d c h. fold-Const (value_layer v) d ∙ some_same (sym (ranged_Const places s d) ∙ h))
    (λ x c h. fold-Read (value_layer v) x ∙ some_same (sym (ranged_Read places s x) ∙ h))
    (λ a b f g c h. fold-Add (value_layer v) a b ∙ combined_bounded ranged_sum sum_of (λ d e. fitting _ (sum_of d e)) _ _ _ _ f g c (sym (ranged_Add places s a b) ∙ h))
    (λ a b f g c h. fold-Sub (value_layer v) a b ∙ combined_bounded ranged_difference difference_of (λ d e. fitting _ (difference_of d e)) _ _ _ _ f g c (sym (ranged_Sub places s a b) ∙ h))
    (λ a b f g c h. fold-Mul (value_layer v) a b ∙ combined_bounded ranged_product product_of (λ d e. fitting _ (product_of d e)) _ _ _ _ f g c (sym (ranged_Mul places s a b) ∙ h))
  where
    v : ℕ → Decimal
    v = fluent_value places s

    some_same : {x y : Decimal} → Some x ≡ Some y → x ≡ y
    some_same e = cc

-- such a value has the places of the expression
pub bounded_places : (places : List ℕ) (s : StateValue) (x : GExpr) (d : Decimal) → ranged_value places s x ≡ Some d → d.p ≡ places_of places x
bounded_places places s x d h = sym (ap (λ (e : Decimal). e.p) (value_bounded places s x d h)) ∙ places_in_state places s x
