-- The faults of what uses names: atoms, expressions, conditions, effects and initial values.
use Rattle.std.specs.Prelude.{ℕ, ◌++◌, ◌||◌, ◌&&◌, ◌==◌, Bool, true, false, not, List, [], ◌∷◌, Option, None, drop, length, bytes_eq, slice_get, flat_map, if◌then◌else◌}
use Rattle.std.specs.Option.{option_map_or}
use Rattle.std.specs.List.{list_any}
use Rattle.std.specs.Cmp.Lexicographic.{pointwise}
use Rattle.num_ends.specs.Decimal.{Decimal}
use Rattle.pddl_terms.specs.declared.names.Arg.{Arg}
use Rattle.pddl_terms.specs.declared.names.Arg.TheVariants.{Var, Obj}
use Rattle.pddl_terms.specs.declared.names.Atom.{Atom}
use Rattle.pddl_terms.specs.declared.names.Typed.{Typed}
use Rattle.pddl_terms.specs.declared.names.Sig.{Sig}
use Rattle.pddl_terms.specs.declared.expressions.Op.{Op}
use Rattle.pddl_terms.specs.declared.expressions.Op.TheVariants as op
use Rattle.pddl_terms.specs.declared.expressions.Expr.{Expr, Expr-F, fold-Expr}
use Rattle.pddl_terms.specs.declared.expressions.Expr.TheOpen as expression
use Rattle.pddl_terms.specs.declared.conditions.Cond.{Cond, Cond-F, fold-Cond}
use Rattle.pddl_terms.specs.declared.conditions.Cond.TheOpen as condition
use Rattle.pddl_terms.specs.declared.actions.Effect.{Effect}
use Rattle.pddl_terms.specs.declared.actions.Effect.TheVariants as effect
use Rattle.name_table.specs.Tables.{is_text_among}
use Rattle.type_order.specs.Types.{descends, is_within}
use Rattle.pddl_types.specs.declared.faults.Side.{Side}
use Rattle.pddl_types.specs.declared.faults.Side.TheVariants as side
use Rattle.pddl_types.specs.declared.faults.CheckKind.TheVariants.{UnknownName, Arity, WrongType, Duplicate, Divide}
use Rattle.pddl_types.specs.declared.faults.Fault.{Fault}
use Rattle.pddl_types.specs.declared.pairs.Pair.{Pair}
use Rattle.pddl_types.specs.declared.pairs.Sort.{Sort}
use Rattle.pddl_types.specs.declared.pairs.Sort.TheVariants.{Predicate, Function}
use Rattle.pddl_types.specs.Faults.{check_fault}
use Rattle.pddl_types.specs.Pairs.{argument_name, changed_functions, fluent_of}
use Rattle.pddl_types.specs.Meanings.{named_by, sig_of}
use Rattle.pddl_types.specs.DeclarationFaults.{unless}

-- ---- atoms

-- an object is of the type that is wanted; of a variable it must be possible
abbrev pub suits : List Typed → Arg → List ℕ → List ℕ → Bool
suits types (Var n) own wanted = is_within types own wanted || descends types wanted own
suits types (Obj n) own wanted = is_within types own wanted

abbrev pub kind_faults : Pair → Side → Option Typed → Arg → Typed → List Fault
kind_faults p side wanted a own =
    option_map_or (λ w. unless (suits p.domain.types a own.kind.text w.kind.text) (check_fault side WrongType (argument_name a))) wanted []

-- the faults of an argument in the place of a parameter, if it stands in the place of one
abbrev pub argument_faults : Pair → Side → List Typed → Option Typed → Arg → List Fault
argument_faults p side params wanted a =
    option_map_or (kind_faults p side wanted a) (named_by p side params a) (check_fault side UnknownName (argument_name a) ∷ [])

-- the faults of arguments, each in the place of the parameter of its number, where there is one
abbrev pub arguments_faults : Pair → Side → List Typed → List Typed → List Arg → List Fault
arguments_faults p side params wanted [] = []
arguments_faults p side params wanted (a ∷ args) =
    argument_faults p side params (slice_get wanted 0) a ++ arguments_faults p side params (drop 1 wanted) args

-- an atom whose name is declared has as many arguments as its declaration; only then have these their types
abbrev pub declared_faults : Pair → Side → List Typed → Atom → Sig → List Fault
declared_faults p side params a s =
    if length s.params == length a.args then arguments_faults p side params s.params a.args
    else check_fault side Arity a.head ∷ arguments_faults p side params [] a.args

abbrev pub atom_faults : Pair → Side → List Typed → Sort → Atom → List Fault
atom_faults p side params sort a =
    option_map_or (declared_faults p side params a) (sig_of p.domain sort a.head.text)
    (check_fault side UnknownName a.head ∷ arguments_faults p side params [] a.args)

-- ---- expressions and conditions

abbrev pub is_division : Op → Bool
is_division op.Add = false
is_division op.Sub = false
is_division op.Mul = false
is_division op.Div = true

-- a read, in a divisor or not
abbrev pub read_faults : Pair → Side → List Typed → Atom → Bool → List Fault
read_faults p side params a divisor =
    atom_faults p side params Function a
    ++ unless (not (divisor && is_text_among a.head.text (changed_functions p.domain))) (check_fault side Divide a.head)

abbrev pub expression_faults_layer : Pair → Side → List Typed → Expr-F (Bool → List Fault) → Bool → List Fault
expression_faults_layer p side params (expression.Lit d at) divisor = []
expression_faults_layer p side params (expression.Read a) divisor = read_faults p side params a divisor
expression_faults_layer p side params (expression.Op at o x y) divisor = x divisor ++ y (divisor || is_division o)

-- the faults of an expression that stands in a divisor or not
unfoldable pub expression_faults : Pair → Side → List Typed → Expr → Bool → List Fault
expression_faults p side params = fold-Expr (Bool → List Fault) (expression_faults_layer p side params)

abbrev pub condition_faults_layer : Pair → Side → List Typed → Cond-F (List Fault) → List Fault
condition_faults_layer p side params (condition.And cs) = flat_map (λ fs. fs) cs
condition_faults_layer p side params (condition.Or cs) = flat_map (λ fs. fs) cs
condition_faults_layer p side params (condition.Not c) = c
condition_faults_layer p side params (condition.Imply b c) = b ++ c
condition_faults_layer p side params (condition.Fact a) = atom_faults p side params Predicate a
condition_faults_layer p side params (condition.Same a b) = argument_faults p side params None a ++ argument_faults p side params None b
condition_faults_layer p side params (condition.Cmp r e f) = expression_faults p side params e false ++ expression_faults p side params f false

unfoldable pub condition_faults : Pair → Side → List Typed → Cond → List Fault
condition_faults p side params = fold-Cond (List Fault) (condition_faults_layer p side params)

abbrev pub effect_faults : Pair → Side → List Typed → Effect → List Fault
effect_faults p side params (effect.Add a) = atom_faults p side params Predicate a
effect_faults p side params (effect.Del a) = atom_faults p side params Predicate a
effect_faults p side params (effect.Num how a e) = atom_faults p side params Function a ++ expression_faults p side params e false

-- ---- the initial state

unfoldable pub facts_faults : Pair → Side → List Typed → List Atom → List Fault
facts_faults p side params facts = flat_map (λ a. atom_faults p side params Predicate a) facts

unfoldable pub fluents_faults : Pair → Side → List Typed → List (Atom × Decimal) → List Fault
fluents_faults p side params values = flat_map (λ v. atom_faults p side params Function v.0) values

-- a fluent was given a value before
abbrev pub has_value : List (List ℕ) → List (List (List ℕ)) → Bool
has_value fluent seen = list_any (λ f. pointwise bytes_eq fluent f) seen

abbrev pub with_fluent : List (List (List ℕ)) → List (List ℕ) → List (List (List ℕ))
with_fluent seen fluent = if has_value fluent seen then seen else seen ++ fluent ∷ []

-- the fluents that are given a value again
abbrev pub repeated_values : List (List (List ℕ)) → List (Atom × Decimal) → List Fault
repeated_values seen [] = []
repeated_values seen (v ∷ vs) =
    unless (not (has_value (fluent_of v.0) seen)) (check_fault side.Problem Duplicate v.0.head) ++ repeated_values (with_fluent seen (fluent_of v.0)) vs
