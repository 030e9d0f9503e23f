-- What stands in a pair: its atoms with what they are used for, its arguments, its divisors and its typed lists.
use Rattle.std.specs.Prelude.{◌++◌, List, [], ◌∷◌, map, flat_map}
use Rattle.pddl_terms.specs.declared.names.Arg.{Arg}
use Rattle.pddl_terms.specs.declared.names.Atom.{Atom}
use Rattle.pddl_terms.specs.declared.names.Typed.{Typed}
use Rattle.pddl_terms.specs.declared.expressions.Op.TheVariants as op
use Rattle.pddl_terms.specs.declared.expressions.Expr.{Expr, Expr-F, fold-Expr}
use Rattle.pddl_terms.specs.declared.expressions.Expr.TheOpen as expression
use Rattle.pddl_terms.specs.declared.conditions.Cond.{Cond, Cond-F, fold-Cond}
use Rattle.pddl_terms.specs.declared.conditions.Cond.TheOpen as condition
use Rattle.pddl_terms.specs.declared.actions.Effect.{Effect}
use Rattle.pddl_terms.specs.declared.actions.Effect.TheVariants as effect
use Rattle.pddl_terms.specs.declared.actions.Schema.{Schema}
use Rattle.pddl_types.specs.declared.faults.Side.{Side}
use Rattle.pddl_types.specs.declared.faults.Side.TheVariants as side
use Rattle.pddl_types.specs.declared.pairs.Pair.{Pair}
use Rattle.pddl_types.specs.declared.pairs.Sort.{Sort}
use Rattle.pddl_types.specs.declared.pairs.Sort.TheVariants.{Predicate, Function}

-- an atom with the file that it stands in, the parameters that its variables are of, and what its name stands for
pub record Use : Type 0 where
  pub side : Side
  pub params : List Typed
  pub sort : Sort
  pub atom : Atom

-- an argument with its file and parameters
pub record Mention : Type 0 where
  pub side : Side
  pub params : List Typed
  pub arg : Arg

-- the functions that are read in an expression, and those that its divisors read
pub record Reads : Type 0 where
  pub all : List Atom
  pub in_divisors : List Atom

abbrev pub expression_reads_layer : Expr-F Reads → Reads
expression_reads_layer (expression.Lit d at) = record { all = []; in_divisors = [] }
expression_reads_layer (expression.Read a) = record { all = a ∷ []; in_divisors = [] }
expression_reads_layer (expression.Op at op.Add x y) = record { all = x.all ++ y.all; in_divisors = x.in_divisors ++ y.in_divisors }
expression_reads_layer (expression.Op at op.Sub x y) = record { all = x.all ++ y.all; in_divisors = x.in_divisors ++ y.in_divisors }
expression_reads_layer (expression.Op at op.Mul x y) = record { all = x.all ++ y.all; in_divisors = x.in_divisors ++ y.in_divisors }
expression_reads_layer (expression.Op at op.Div x y) = record { all = x.all ++ y.all; in_divisors = x.in_divisors ++ y.all }

abbrev pub expression_reads : Expr → Reads
expression_reads = fold-Expr Reads expression_reads_layer

-- the facts, the compared expressions and the compared arguments of a condition
pub record Parts : Type 0 where
  pub facts : List Atom
  pub numbers : List Expr
  pub objects : List Arg

abbrev pub joined_parts : List Parts → Parts
joined_parts parts = record { facts = flat_map (λ p. p.facts) parts; numbers = flat_map (λ p. p.numbers) parts; objects = flat_map (λ p. p.objects) parts }

abbrev pub condition_parts_layer : Cond-F Parts → Parts
condition_parts_layer (condition.And cs) = joined_parts cs
condition_parts_layer (condition.Or cs) = joined_parts cs
condition_parts_layer (condition.Not c) = c
condition_parts_layer (condition.Imply b c) = joined_parts (b ∷ c ∷ [])
condition_parts_layer (condition.Fact a) = record { facts = a ∷ []; numbers = []; objects = [] }
condition_parts_layer (condition.Same a b) = record { facts = []; numbers = []; objects = a ∷ b ∷ [] }
condition_parts_layer (condition.Cmp r e f) = record { facts = []; numbers = e ∷ f ∷ []; objects = [] }

abbrev pub condition_parts : Cond → Parts
condition_parts = fold-Cond Parts condition_parts_layer

abbrev pub fact_changed : Effect → List Atom
fact_changed (effect.Add a) = a ∷ []
fact_changed (effect.Del a) = a ∷ []
fact_changed (effect.Num how a e) = []

abbrev pub fluent_changed : Effect → List Atom
fluent_changed (effect.Add a) = []
fluent_changed (effect.Del a) = []
fluent_changed (effect.Num how a e) = a ∷ []

-- the expression by which an effect changes a fluent
abbrev pub right_sides : Effect → List Expr
right_sides (effect.Add a) = []
right_sides (effect.Del a) = []
right_sides (effect.Num how a e) = e ∷ []

abbrev pub all_used : Side → List Typed → Sort → List Atom → List Use
all_used side params sort atoms = map (λ a. record { side = side; params = params; sort = sort; atom = a }) atoms

abbrev pub all_read : List Expr → List Atom
all_read es = flat_map (λ e. (expression_reads e).all) es

abbrev pub all_dividing : List Expr → List Atom
all_dividing es = flat_map (λ e. (expression_reads e).in_divisors) es

-- the atoms of a condition
abbrev pub uses_in : Side → List Typed → Cond → List Use
uses_in side params c = all_used side params Predicate (condition_parts c).facts ++ all_used side params Function (all_read (condition_parts c).numbers)

abbrev pub schema_uses : Schema → List Use
schema_uses s =
    uses_in side.Domain s.params s.pre
    ++ all_used side.Domain s.params Predicate (flat_map fact_changed s.effects)
    ++ all_used side.Domain s.params Function (flat_map fluent_changed s.effects)
    ++ all_used side.Domain s.params Function (all_read (flat_map right_sides s.effects))

-- the atoms of a pair
abbrev pub uses_of : Pair → List Use
uses_of p =
    flat_map schema_uses p.domain.schemas
    ++ all_used side.Problem [] Predicate p.problem.facts
    ++ all_used side.Problem [] Function (map (λ v. v.0) p.problem.values)
    ++ uses_in side.Problem [] p.problem.goal

abbrev pub mentions_in : Side → List Typed → List Arg → List Mention
mentions_in side params args = map (λ a. record { side = side; params = params; arg = a }) args

-- the arguments of a pair: those of its atoms, and the compared ones
abbrev pub mentions_of : Pair → List Mention
mentions_of p =
    flat_map (λ u. mentions_in u.side u.params u.atom.args) (uses_of p)
    ++ flat_map (λ s. mentions_in side.Domain s.params (condition_parts s.pre).objects) p.domain.schemas
    ++ mentions_in side.Problem [] (condition_parts p.problem.goal).objects

-- the functions that divisors read
abbrev pub divisors_of : Pair → List Atom
divisors_of p =
    flat_map (λ s. all_dividing (condition_parts s.pre).numbers ++ all_dividing (flat_map right_sides s.effects)) p.domain.schemas
    ++ all_dividing (condition_parts p.problem.goal).numbers

-- the typed lists of a pair
abbrev pub typed_lists : Pair → List (List Typed)
typed_lists p =
    p.domain.types ∷ p.domain.constants ∷ p.problem.objects
    ∷ map (λ s. s.params) p.domain.predicates ++ map (λ s. s.params) p.domain.functions ++ map (λ s. s.params) p.domain.schemas

-- the lists of parameters
abbrev pub parameter_lists : Pair → List (List Typed)
parameter_lists p = map (λ s. s.params) p.domain.predicates ++ map (λ s. s.params) p.domain.functions ++ map (λ s. s.params) p.domain.schemas
