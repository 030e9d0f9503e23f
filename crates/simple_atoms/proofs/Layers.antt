-- The form of an expression, one equation for each variant.
use Rattle.std.proofs.Common.{◌≡◌, ◌∷◌, [], ℕ, Some}
use Rattle.num_ends.specs.Decimal.{Decimal, origin, trimmed}
use Rattle.ground_task.proofs.Trees.{fold-Const, fold-Read, fold-Add, fold-Sub, fold-Mul}
use Rattle.ground_task.specs.declared.raw.GExpr.{GExpr}
use Rattle.ground_task.specs.declared.raw.GExpr.TheVariants as e
use Rattle.simple_atoms.specs.Forms.{combined, difference_of_forms, form_layer, form_of, one, product_of_forms, sum_of_forms}

pub form_of_Const : (c : Decimal) → form_of (e.Const c) ≡ Some (record { terms = []; constant = trimmed c })
unfolding form_of
form_of_Const c = fold-Const form_layer c

pub form_of_Read : (x : ℕ) → form_of (e.Read x) ≡ Some (record { terms = (x, one) ∷ []; constant = origin })
unfolding form_of
form_of_Read x = fold-Read form_layer x

pub form_of_Add : (a b : GExpr) → form_of (e.Add a b) ≡ combined sum_of_forms (form_of a) (form_of b)
unfolding form_of
form_of_Add a b = fold-Add form_layer a b

pub form_of_Sub : (a b : GExpr) → form_of (e.Sub a b) ≡ combined difference_of_forms (form_of a) (form_of b)
unfolding form_of
form_of_Sub a b = fold-Sub form_layer a b

pub form_of_Mul : (a b : GExpr) → form_of (e.Mul a b) ≡ combined product_of_forms (form_of a) (form_of b)
unfolding form_of
form_of_Mul a b = fold-Mul form_layer a b
