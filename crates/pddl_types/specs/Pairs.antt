-- What a domain and a problem have: their objects, the names of their declarations, and the functions that change.
use Rattle.std.specs.Prelude.{ℕ, ◌++◌, List, [], ◌∷◌, map, flat_map}
use Rattle.pddl_terms.specs.declared.names.Name.{Name}
use Rattle.pddl_terms.specs.declared.names.Arg.{Arg}
use Rattle.pddl_terms.specs.declared.names.Arg.TheVariants.{Var, Obj}
use Rattle.pddl_terms.specs.declared.names.Atom.{Atom}
use Rattle.pddl_terms.specs.declared.names.Typed.{Typed}
use Rattle.pddl_terms.specs.declared.names.Sig.{Sig}
use Rattle.pddl_terms.specs.declared.actions.Effect.{Effect}
use Rattle.pddl_terms.specs.declared.actions.Effect.TheVariants as effect
use Rattle.pddl_terms.specs.declared.actions.Schema.{Schema}
use Rattle.pddl_terms.specs.declared.files.Domain.{Domain}
use Rattle.pddl_types.specs.declared.faults.Side.{Side}
use Rattle.pddl_types.specs.declared.faults.Side.TheVariants as side
use Rattle.pddl_types.specs.declared.pairs.Pair.{Pair}

-- ---- objects

-- the constants, and behind them the objects
abbrev pub objects_of : Pair → List Typed
objects_of p = p.domain.constants ++ p.problem.objects

-- actions see the constants alone, and the problem sees the objects too
abbrev pub visible : Pair → Side → List Typed
visible p side.Domain = p.domain.constants
visible p side.Problem = objects_of p

-- ---- names

abbrev pub heads_of : List Sig → List Name
heads_of sigs = map (λ s. s.name) sigs

abbrev pub schema_names : List Schema → List Name
schema_names schemas = map (λ s. s.name) schemas

abbrev pub argument_name : Arg → Name
argument_name (Var n) = n
argument_name (Obj n) = n

-- an argument as it is written
abbrev pub written_text : Arg → List ℕ
written_text a = (argument_name a).text

-- a fluent by its function and its arguments
abbrev pub fluent_of : Atom → List (List ℕ)
fluent_of a = a.head.text ∷ map written_text a.args

-- ---- functions that change

abbrev pub changed_function : Effect → List Name
changed_function (effect.Add a) = []
changed_function (effect.Del a) = []
changed_function (effect.Num how a e) = a.head ∷ []

-- the functions that effects change, by their names there
abbrev pub changed_heads : List Schema → List Name
changed_heads schemas = flat_map (λ s. flat_map changed_function s.effects) schemas

abbrev pub changed_functions : Domain → List (List ℕ)
changed_functions d = map (λ n. n.text) (changed_heads d.schemas)
