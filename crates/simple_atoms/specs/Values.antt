-- The value of a linear form in a state, and its gain by an action.
use Rattle.std.specs.Prelude.{ℕ, List, [], ◌∷◌, Option, Some, None, Bool, if◌then◌else◌}
use Rattle.std.specs.Option.{option_and_then}
use Rattle.num_ends.specs.Decimal.{Decimal, origin, is_less, is_at_most, is_same_value, sum_of, product_of, trimmed}
use Rattle.ground_task.specs.declared.raw.GExpr.{GExpr, GExpr-F, out-GExpr}
use Rattle.ground_task.specs.declared.raw.GExpr.TheOpen as expr
use Rattle.ground_task.specs.declared.raw.Change.{Change}
use Rattle.ground_task.specs.declared.raw.Change.TheVariants.{Add, Set}
use Rattle.ground_task.specs.declared.raw.Ground.{Ground}
use Rattle.ground_task.specs.Meaning.{fluent_value}
use Rattle.ground_task.specs.States.{StateValue}
use Rattle.ground_task.specs.Steps.{change_of}
use Rattle.simple_atoms.specs.declared.linear.Linear.{Linear}
use Rattle.simple_atoms.specs.Forms.{Term}
use Rattle.simple_atoms.specs.Ranged.{trimmed_sum, trimmed_product}

-- ---- without bounds

unfoldable pub value_of_terms : (ℕ → Decimal) → List Term → Decimal
value_of_terms v [] = origin
value_of_terms v (t ∷ ts) = sum_of (product_of t.1 (v t.0)) (value_of_terms v ts)

-- the value of a form where the fluents have these values
abbrev pub value_of_form : (ℕ → Decimal) → Linear → Decimal
value_of_form v f = sum_of f.constant (value_of_terms v f.terms)

-- the value is 0, above 0, or at least 0, as the form is to be
abbrev pub is_met : Linear → Decimal → Bool
is_met f value =
    if f.equal then is_same_value value origin
    else (if f.strict then is_less origin value else is_at_most origin value)

-- ---- within the range

-- a term added to a sum, with this number for its fluent
abbrev pub term_added : Decimal → Decimal → Decimal → Option Decimal
term_added total coefficient number = option_and_then (trimmed_sum total) (trimmed_product coefficient number)

-- from a start, in order, coefficient times the number of the fluent is added
unfoldable pub weighted : (ℕ → Option Decimal) → Decimal → List Term → Option Decimal
weighted number total [] = Some total
weighted number total (t ∷ ts) =
    option_and_then (λ sum. weighted number sum ts) (option_and_then (term_added total t.1) (number t.0))

abbrev pub number_in : List ℕ → StateValue → ℕ → Option Decimal
number_in places s x = Some (trimmed (fluent_value places s x))

-- the value of a form in a state
abbrev pub form_value : List ℕ → StateValue → Linear → Option Decimal
form_value places s f = weighted (number_in places s) f.constant f.terms

abbrev pub constant_layer : GExpr-F GExpr → Option Decimal
constant_layer (expr.Const c) = Some (trimmed c)
constant_layer (expr.Read x) = None
constant_layer (expr.Add a b) = None
constant_layer (expr.Sub a b) = None
constant_layer (expr.Mul a b) = None

-- the value of an expression that is a constant
abbrev pub constant_of : GExpr → Option Decimal
constant_of e = constant_layer (out-GExpr e)

-- by how much a change lets a fluent grow, where that is a constant
abbrev pub growth_by : Option Change → Option Decimal
growth_by None = Some origin
growth_by (Some (Add e)) = constant_of e
growth_by (Some (Set e)) = None

-- by how much an action lets a fluent grow
abbrev pub growth : Ground → ℕ → Option Decimal
growth a x = growth_by (change_of x a.nums)

-- by how much an action lets a form grow, where that is a constant
abbrev pub gain_of : Linear → Ground → Option Decimal
gain_of f a = weighted (growth a) origin f.terms
