-- Linear forms: a constant and, in the order of the fluents, coefficients that are not 0. Every decimal is trimmed.
use Rattle.std.specs.Prelude.{ℕ, ◌==◌, Bool, true, false, List, [], ◌∷◌, Option, Some, None, pos, length, map, nat_lt, option_map, if◌then◌else◌}
use Rattle.std.specs.Option.{option_and_then}
use Rattle.std.specs.Ordering.{int_eq}
use Rattle.num_ends.specs.Arithmetic.{negative_of}
use Rattle.num_ends.specs.Decimal.{Decimal, origin, trimmed}
use Rattle.ground_task.specs.declared.raw.Rel.{Rel}
use Rattle.ground_task.specs.declared.raw.Rel.TheVariants.{Less, LessEqual, Equal, GreaterEqual, Greater}
use Rattle.ground_task.specs.declared.raw.GExpr.{GExpr, GExpr-F, fold-GExpr}
use Rattle.ground_task.specs.declared.raw.GExpr.TheOpen as expr
use Rattle.simple_atoms.specs.declared.combination.Combination.{Combination}
use Rattle.simple_atoms.specs.declared.linear.Linear.{Linear}
use Rattle.simple_atoms.specs.Ranged.{trimmed_sum, trimmed_product}

-- a fluent and its coefficient
abbrev pub Term : Type 0
Term = ℕ × Decimal

-- a term before others, where its coefficient is not 0
abbrev pub with_term : Term → List Term → List Term
with_term t ts = if int_eq t.1.n (pos 0) then ts else t ∷ ts

-- ---- sums

-- a term put in its place among terms; `rest` puts what follows it among those behind that place
unfoldable pub placed : Term → (List Term → Option (List Term)) → List Term → Option (List Term)
placed t rest [] = option_map (λ ts. t ∷ ts) (rest [])
placed t rest (u ∷ us) =
    if nat_lt t.0 u.0 then option_map (λ ts. t ∷ ts) (rest (u ∷ us))
    else (if t.0 == u.0 then option_and_then (λ c. option_map (λ ts. with_term (t.0, c) ts) (rest us)) (trimmed_sum t.1 u.1)
    else option_map (λ ts. u ∷ ts) (placed t rest us))

-- the terms of both, in order; two of one fluent become one
unfoldable pub merged : List Term → List Term → Option (List Term)
merged [] us = Some us
merged (t ∷ ts) us = placed t (merged ts) us

abbrev pub joined : Option (List Term) → Option Decimal → Option Combination
joined terms constant = option_and_then (λ ts. option_map (λ c. record { terms = ts; constant = c }) constant) terms

abbrev pub sum_of_forms : Combination → Combination → Option Combination
sum_of_forms a b = joined (merged a.terms b.terms) (trimmed_sum a.constant b.constant)

abbrev pub negative_form : Combination → Combination
negative_form a = record { terms = map (λ t. (t.0, negative_of t.1)) a.terms; constant = negative_of a.constant }

abbrev pub difference_of_forms : Combination → Combination → Option Combination
difference_of_forms a b = sum_of_forms a (negative_form b)

-- ---- products

unfoldable pub scaled_terms : Decimal → List Term → Option (List Term)
scaled_terms k [] = Some []
scaled_terms k (t ∷ ts) = option_and_then (λ c. option_map (λ us. with_term (t.0, c) us) (scaled_terms k ts)) (trimmed_product k t.1)

abbrev pub scaled : Decimal → Combination → Option Combination
scaled k a = joined (scaled_terms k a.terms) (trimmed_product k a.constant)

-- a product is linear where one factor has no terms
abbrev pub product_of_forms : Combination → Combination → Option Combination
product_of_forms a b =
    if length a.terms == 0 then scaled a.constant b
    else (if length b.terms == 0 then scaled b.constant a else None)

-- ---- expressions and comparisons

abbrev pub one : Decimal
one = record { n = pos 1; p = 0 }

abbrev pub combined : (Combination → Combination → Option Combination) → Option Combination → Option Combination → Option Combination
combined operate x y = option_and_then (λ a. option_and_then (operate a) y) x

abbrev pub form_layer : GExpr-F (Option Combination) → Option Combination
form_layer (expr.Const c) = Some (record { terms = []; constant = trimmed c })
form_layer (expr.Read x) = Some (record { terms = (x, one) ∷ []; constant = origin })
form_layer (expr.Add a b) = combined sum_of_forms a b
form_layer (expr.Sub a b) = combined difference_of_forms a b
form_layer (expr.Mul a b) = combined product_of_forms a b

-- the form of an expression, where it is linear and nothing leaves the range on the way
unfoldable pub form_of : GExpr → Option Combination
form_of = fold-GExpr (Option Combination) form_layer

-- the left side is to be the greater one, or equal
abbrev pub is_upward : Rel → Bool
is_upward Less = false
is_upward LessEqual = false
is_upward Equal = true
is_upward GreaterEqual = true
is_upward Greater = true

abbrev pub is_strict : Rel → Bool
is_strict Less = true
is_strict LessEqual = false
is_strict Equal = false
is_strict GreaterEqual = false
is_strict Greater = true

abbrev pub is_equation : Rel → Bool
is_equation Less = false
is_equation LessEqual = false
is_equation Equal = true
is_equation GreaterEqual = false
is_equation Greater = false

-- what a form is to be, by the comparison
abbrev pub marked : Rel → Combination → Linear
marked r a = record { strict = is_strict r; equal = is_equation r; terms = a.terms; constant = a.constant }

abbrev pub form_of_difference : GExpr → GExpr → Option Combination
form_of_difference a b = combined difference_of_forms (form_of a) (form_of b)

-- the form of a comparison: the greater side minus the smaller one
abbrev pub linear_form : Rel → GExpr → GExpr → Option Linear
linear_form r a b = option_map (marked r) (if is_upward r then form_of_difference a b else form_of_difference b a)
