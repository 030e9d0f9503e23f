-- What holds of a domain and a problem that are spelled by texts: what is named is named by names, and the limits of files hold.
use Rattle.std.specs.Prelude.{ℕ, ◌≤◌, ◌^◌, ◌==◌, ◌&&◌, Bool, true, false, List, [], ◌∷◌, length, nat_le, IsTrue}
use Rattle.std.specs.List.{All, list_all}
use Rattle.num_ends.specs.Decimal.{Decimal}
use Rattle.num_ends.specs.Names.{is_name}
use Rattle.pddl_terms.specs.declared.names.Arg.{Arg}
use Rattle.pddl_terms.specs.declared.names.Arg.TheVariants.{Var, Obj}
use Rattle.pddl_terms.specs.declared.names.Atom.{Atom}
use Rattle.pddl_terms.specs.declared.names.Typed.{Typed}
use Rattle.pddl_terms.specs.declared.names.Sig.{Sig}
use Rattle.pddl_terms.specs.declared.expressions.Expr.{Expr, Expr-F, fold-Expr}
use Rattle.pddl_terms.specs.declared.expressions.Expr.TheOpen as expression
use Rattle.pddl_terms.specs.declared.conditions.Cond.{Cond, Cond-F, fold-Cond}
use Rattle.pddl_terms.specs.declared.conditions.Cond.TheOpen as condition
use Rattle.pddl_terms.specs.declared.actions.Effect.{Effect}
use Rattle.pddl_terms.specs.declared.actions.Effect.TheVariants as effect
use Rattle.pddl_terms.specs.declared.actions.Schema.{Schema}
use Rattle.pddl_terms.specs.declared.files.Domain.{Domain}
use Rattle.pddl_terms.specs.declared.files.Problem.{Problem}
use Rattle.pddl_terms.specs.declared.limits.TheConstants.{MAX_OBJECTS, MAX_PARAMETERS, MAX_EFFECTS, MAX_LETTERS, MAX_HEIGHT}
use Rattle.pddl_terms.specs.Heights.{expression_height, condition_height}

-- ---- names

-- a name that isn't too long
abbrev pub is_short_name : List ℕ → Bool
is_short_name text = is_name text && nat_le (length text) MAX_LETTERS

-- `?` and such a name
abbrev pub is_short_variable : List ℕ → Bool
is_short_variable [] = false
is_short_variable (b ∷ name) = b == 63 && is_short_name name

-- a type, a constant or an object, with its type
abbrev pub is_readable_item : Typed → Bool
is_readable_item t = is_short_name t.name.text && is_short_name t.kind.text

-- a parameter with its type
abbrev pub is_readable_parameter : Typed → Bool
is_readable_parameter t = is_short_variable t.name.text && is_short_name t.kind.text

abbrev pub is_readable_argument : Arg → Bool
is_readable_argument (Var n) = is_short_variable n.text
is_readable_argument (Obj n) = is_short_name n.text

abbrev pub is_readable_atom : Atom → Bool
is_readable_atom a = is_short_name a.head.text && list_all is_readable_argument a.args

-- ---- expressions and conditions: all atoms and arguments in them are readable

abbrev pub readable_expression_layer : Expr-F Bool → Bool
readable_expression_layer (expression.Lit d at) = true
readable_expression_layer (expression.Read a) = is_readable_atom a
readable_expression_layer (expression.Op at o x y) = x && y

unfoldable pub is_readable_expression : Expr → Bool
is_readable_expression = fold-Expr Bool readable_expression_layer

abbrev pub readable_condition_layer : Cond-F Bool → Bool
readable_condition_layer (condition.And cs) = list_all (λ c. c) cs
readable_condition_layer (condition.Or cs) = list_all (λ c. c) cs
readable_condition_layer (condition.Not c) = c
readable_condition_layer (condition.Imply b c) = b && c
readable_condition_layer (condition.Fact a) = is_readable_atom a
readable_condition_layer (condition.Same a b) = is_readable_argument a && is_readable_argument b
readable_condition_layer (condition.Cmp r e f) = is_readable_expression e && is_readable_expression f

unfoldable pub is_readable_condition : Cond → Bool
is_readable_condition = fold-Cond Bool readable_condition_layer

abbrev pub IsReadableEffect : Effect → Type 0
IsReadableEffect (effect.Add a) = IsTrue (is_readable_atom a)
IsReadableEffect (effect.Del a) = IsTrue (is_readable_atom a)
IsReadableEffect (effect.Num how a e) = IsTrue (is_readable_atom a) × IsTrue (is_readable_expression e) × expression_height e ≤ MAX_HEIGHT

-- ---- declarations

pub record IsReadableSignature (s : Sig) : Type 0 where
  pub name : IsTrue (is_short_name s.name.text)
  pub params : IsTrue (list_all is_readable_parameter s.params)
  pub few_params : length s.params ≤ MAX_PARAMETERS

pub record IsReadableSchema (s : Schema) : Type 0 where
  pub name : IsTrue (is_short_name s.name.text)
  pub params : IsTrue (list_all is_readable_parameter s.params)
  pub few_params : length s.params ≤ MAX_PARAMETERS
  pub pre : IsTrue (is_readable_condition s.pre)
  pub low_pre : condition_height s.pre ≤ MAX_HEIGHT
  pub effects : All IsReadableEffect s.effects
  pub few_effects : length s.effects ≤ MAX_EFFECTS

-- ---- domain and problem

pub record IsReadableDomain (d : Domain) : Type 0 where
  pub name : IsTrue (is_short_name d.name.text)
  pub types : IsTrue (list_all is_readable_item d.types)
  pub constants : IsTrue (list_all is_readable_item d.constants)
  pub few_constants : length d.constants ≤ MAX_OBJECTS
  pub predicates : All IsReadableSignature d.predicates
  pub few_predicates : length d.predicates ≤ 2 ^ 30
  pub functions : All IsReadableSignature d.functions
  pub few_functions : length d.functions ≤ 2 ^ 30
  pub schemas : All IsReadableSchema d.schemas
  pub few_schemas : length d.schemas ≤ 2 ^ 30

pub record IsReadableProblem (p : Problem) : Type 0 where
  pub name : IsTrue (is_short_name p.name.text)
  pub objects : IsTrue (list_all is_readable_item p.objects)
  pub few_objects : length p.objects ≤ MAX_OBJECTS
  pub facts : IsTrue (list_all is_readable_atom p.facts)
  pub few_facts : length p.facts ≤ 2 ^ 30
  pub values : IsTrue (list_all (λ (v : Atom × Decimal). is_readable_atom v.0) p.values)
  pub few_values : length p.values ≤ 2 ^ 30
  pub goal : IsTrue (is_readable_condition p.goal)
  pub low_goal : condition_height p.goal ≤ MAX_HEIGHT

pub record IsReadable (d : Domain) (p : Problem) : Type 0 where
  pub domain : IsReadableDomain d
  pub problem : IsReadableProblem p
