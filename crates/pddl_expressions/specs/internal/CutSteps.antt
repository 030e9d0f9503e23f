-- What is built of parts that were built.
use Rattle.std.specs.Prelude.{ℕ, ◌+◌, ◌==◌, List, [], ◌∷◌, ◌++◌, Option, Some, None, fold, length, map, max, nat_lt, if◌then◌else◌}
use Rattle.num_ends.specs.Decimal.{origin}
use Rattle.pddl_terms.specs.declared.expressions.Op.{Op}
use Rattle.pddl_terms.specs.declared.expressions.Expr.{Expr}
use Rattle.pddl_terms.specs.declared.expressions.Expr.TheVariants as expr
use Rattle.pddl_terms.specs.declared.conditions.Rel.{Rel}
use Rattle.pddl_terms.specs.declared.conditions.Cond.{Cond}
use Rattle.pddl_terms.specs.declared.conditions.Cond.TheVariants as condition
use Rattle.pddl_terms.specs.Heights.{condition_height}
use Rattle.pddl_terms.specs.declared.limits.TheConstants.{MAX_HEIGHT}
use Rattle.pddl_trees.specs.declared.faults.Reason.TheVariants.{TooDeep}
use Rattle.pddl_trees.specs.declared.faults.Fault.{Fault}
use Rattle.pddl_expressions.specs.declared.found.Found.{Found}
use Rattle.pddl_expressions.specs.declared.found.Found.TheVariants.{Misfit, TooHigh, Fine}
use Rattle.pddl_trees.specs.Faults.{fault_at}
use Rattle.pddl_trees.specs.Forms.{Form, missing}
use Rattle.pddl_trees.specs.Expressions.{extra_operands, fewest_operands}
use Rattle.pddl_expressions.specs.Cut.{cut}

-- two parts, with the height of the higher one
abbrev pub paired : {A : Type 0} → Found A → Found A → Found (A × A)
paired Misfit y = Misfit
paired TooHigh Misfit = Misfit
paired TooHigh TooHigh = TooHigh
paired TooHigh (Fine y m) = TooHigh
paired (Fine x n) Misfit = Misfit
paired (Fine x n) TooHigh = TooHigh
paired (Fine x n) (Fine y m) = Fine (x, y) (max n m)

-- what is made of parts is one higher than the highest of them
abbrev pub raised : {A B : Type 0} → (A → B) → Found A → Found B
raised make Misfit = Misfit
raised make TooHigh = TooHigh
raised make (Fine x n) = if nat_lt n MAX_HEIGHT then Fine (make x) (n + 1) else TooHigh

-- what is too high is a fault
abbrev pub height_faults : {A : Type 0} → ℕ → Found A → List Fault
height_faults at Misfit = []
height_faults at TooHigh = fault_at at TooDeep ∷ []
height_faults at (Fine x n) = []

abbrev pub joined : ℕ → Op → Found Expr → Found Expr → Found Expr
joined at o x y = raised (λ p. expr.Op at o p.0 p.1) (paired x y)

-- the operands so far with one more
abbrev pub with_operand : ℕ → Op → Option (Found Expr) → Found Expr → Option (Found Expr)
with_operand at o None x = Some x
with_operand at o (Some sum) x = Some (joined at o sum x)

-- the operands that an operation lacks, and those that are too many for it
abbrev pub misfits : ℕ → Op → List Form → List Fault
misfits at o ts = missing at (fewest_operands o) ts ++ extra_operands o ts

-- a single operand is taken from 0
abbrev pub completed : ℕ → Op → ℕ → Option (Found Expr) → Found Expr
completed at o count None = Misfit
completed at o count (Some x) = if count == 1 then joined at o (Fine (expr.Lit origin at) 1) x else x

-- the operation on operands that were grouped
abbrev pub operation_found : ℕ → Op → List Form → Option (Found Expr) → Found Expr
operation_found at o ts grouped = if nat_lt 0 (length (misfits at o ts)) then Misfit else completed at o (length ts) grouped

-- the height of the highest of conditions
abbrev pub highest : List Cond → ℕ
highest cs = fold max 0 (map condition_height cs)

abbrev pub cut_conds : Option (List Cond) → Found (List Cond)
cut_conds value = cut highest value

-- the conditions so far with one more
abbrev pub with_condition : Found (List Cond) → Found Cond → Found (List Cond)
with_condition Misfit y = Misfit
with_condition TooHigh Misfit = Misfit
with_condition TooHigh TooHigh = TooHigh
with_condition TooHigh (Fine y m) = TooHigh
with_condition (Fine xs n) Misfit = Misfit
with_condition (Fine xs n) TooHigh = TooHigh
with_condition (Fine xs n) (Fine y m) = Fine (xs ++ y ∷ []) (max n m)

abbrev pub negated_found : Found Cond → Found Cond
negated_found x = raised condition.Not x

abbrev pub implied_found : Found Cond → Found Cond → Found Cond
implied_found x y = raised (λ p. condition.Imply p.0 p.1) (paired x y)

abbrev pub compared_found : Rel → Found Expr → Found Expr → Found Cond
compared_found r x y = raised (λ p. condition.Cmp r p.0 p.1) (paired x y)

-- what is found of so many parts, where there are so many
abbrev pub where_count : {A : Type 0} → ℕ → List Form → Found A → Found A
where_count count ts found = if length ts == count then found else Misfit
