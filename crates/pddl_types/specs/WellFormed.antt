-- When a domain and a problem are well formed, apart from any walk over them.
use Rattle.std.specs.Prelude.{ℕ, ◌≡◌, ◌⊎◌, ◌++◌, List, [], ◌∷◌, map, length}
use Rattle.pddl_terms.specs.declared.names.Name.{Name}
use Rattle.pddl_terms.specs.declared.names.Arg.{Arg}
use Rattle.pddl_terms.specs.declared.names.Arg.TheVariants.{Var, Obj}
use Rattle.pddl_terms.specs.declared.names.Typed.{Typed}
use Rattle.pddl_terms.specs.declared.names.Sig.{Sig}
use Rattle.pddl_terms.specs.declared.files.Domain.{Domain}
use Rattle.name_table.specs.TypedLists.{names_of}
use Rattle.type_order.specs.Types.{Descends, top_type}
use Rattle.pddl_types.specs.declared.faults.Side.{Side}
use Rattle.pddl_types.specs.declared.pairs.Pair.{Pair}
use Rattle.pddl_types.specs.declared.pairs.Sort.{Sort}
use Rattle.pddl_types.specs.declared.pairs.Sort.TheVariants.{Predicate, Function}
use Rattle.pddl_types.specs.Pairs.{changed_functions, fluent_of, heads_of, schema_names, visible}
use Rattle.pddl_types.specs.Contents.{divisors_of, mentions_of, parameter_lists, typed_lists, uses_of}

-- ---- lists

-- what holds of each member of a list
abbrev pub Each : {A : Type 0} → (A → Type 0) → List A → Type 0
Each P [] = Unit {0}
Each P (x ∷ xs) = P x × Each P xs

-- something stands in a list
abbrev pub Stands : {A : Type 0} → A → List A → Type 0
Stands x [] = ⊥
Stands x (y ∷ ys) = (x ≡ y) ⊎ Stands x ys

-- nothing stands twice
abbrev pub AreDistinct : {A : Type 0} → List A → Type 0
AreDistinct [] = Unit {0}
AreDistinct (x ∷ xs) = (Stands x xs → ⊥) × AreDistinct xs

abbrev pub texts_of : List Name → List (List ℕ)
texts_of names = map (λ n. n.text) names

-- ---- what names mean: each is declared once, so they mean one thing

abbrev pub signatures_of : Domain → Sort → List Sig
signatures_of d Predicate = d.predicates
signatures_of d Function = d.functions

-- a predicate or a function of this name stands among those that are declared
pub record Declares (d : Domain) (sort : Sort) (text : List ℕ) (s : Sig) : Type 0 where
  pub stands : Stands s (signatures_of d sort)
  pub named : text ≡ s.name.text

-- a variable means a parameter of its name, and a name a constant or an object that its file sees
abbrev pub Means : Pair → Side → List Typed → Arg → Typed → Type 0
Means p side params (Var n) t = Stands t params × (n.text ≡ t.name.text)
Means p side params (Obj n) t = Stands t (visible p side) × (n.text ≡ t.name.text)

-- ---- types

-- a type is `object` or stands in the list of types
abbrev pub IsDeclaredType : Pair → List ℕ → Type 0
IsDeclaredType p k = Stands k (top_type ∷ texts_of (names_of p.domain.types))

-- a type is another one or descends from it
abbrev pub IsWithin : Pair → List ℕ → List ℕ → Type 0
IsWithin p k q = (k ≡ q) ⊎ Descends p.domain.types k q

-- an object is of the type that is wanted, and a variable may be
abbrev pub Suits : Pair → Arg → List ℕ → List ℕ → Type 0
Suits p (Obj n) own wanted = IsWithin p own wanted
Suits p (Var n) own wanted = IsWithin p own wanted ⊎ Descends p.domain.types wanted own

-- the type of what an argument means suits the parameter in whose place it stands
abbrev pub IsFitting : Pair → Side → List Typed → Arg → Typed → Type 0
IsFitting p side params a wanted = (own : Typed) → Means p side params a own → Suits p a own.kind.text wanted.kind.text

-- each argument fits the parameter of its number
abbrev pub AreFitting : Pair → Side → List Typed → List Arg → List Typed → Type 0
AreFitting p side params [] wanted = Unit {0}
AreFitting p side params (a ∷ args) [] = Unit {0}
AreFitting p side params (a ∷ args) (w ∷ wanted) = IsFitting p side params a w × AreFitting p side params args wanted

-- ---- the clauses

pub record WellFormed (p : Pair) : Type 0 where
  pub types_once : AreDistinct (top_type ∷ texts_of (names_of p.domain.types))
  pub objects_once : AreDistinct (texts_of (names_of p.domain.constants ++ names_of p.problem.objects))
  pub heads_once : AreDistinct (texts_of (heads_of p.domain.predicates ++ heads_of p.domain.functions))
  pub schemas_once : AreDistinct (texts_of (schema_names p.domain.schemas))
  pub parameters_once : Each (λ params. AreDistinct (texts_of (names_of params))) (parameter_lists p)
  pub values_once : AreDistinct (map (λ v. fluent_of v.0) p.problem.values)
  pub types_declared : Each (λ items. Each (λ t. IsDeclaredType p t.kind.text) items) (typed_lists p)
  pub no_cycle : (k : List ℕ) → Descends p.domain.types k k → ⊥
  pub heads_known : Each (λ u. (s : Sig) × Declares p.domain u.sort u.atom.head.text s) (uses_of p)
  pub arguments_known : Each (λ m. (t : Typed) × Means p m.side m.params m.arg t) (mentions_of p)
  pub arities_agree : Each (λ u. (s : Sig) → Declares p.domain u.sort u.atom.head.text s → length s.params ≡ length u.atom.args) (uses_of p)
  pub types_fit : Each (λ u. (s : Sig) → Declares p.domain u.sort u.atom.head.text s → AreFitting p u.side u.params u.atom.args s.params) (uses_of p)
  pub no_changed_divisor : Each (λ a. Stands a.head.text (changed_functions p.domain) → ⊥) (divisors_of p)
