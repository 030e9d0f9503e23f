-- Which declaration a name means: the first that has it.
use Rattle.std.specs.Prelude.{ℕ, ◌&&◌, Bool, false, not, List, [], ◌∷◌, Option, None, bytes_eq, nat_lt, is_some, if◌then◌else◌}
use Rattle.std.specs.List.{find}
use Rattle.pddl_terms.specs.declared.names.Arg.{Arg}
use Rattle.pddl_terms.specs.declared.names.Arg.TheVariants.{Var, Obj}
use Rattle.pddl_terms.specs.declared.names.Typed.{Typed}
use Rattle.pddl_terms.specs.declared.names.Sig.{Sig}
use Rattle.pddl_terms.specs.declared.files.Domain.{Domain}
use Rattle.name_table.specs.TypedLists.{first_typed}
use Rattle.pddl_types.specs.declared.faults.Side.{Side}
use Rattle.pddl_types.specs.declared.pairs.Pair.{Pair}
use Rattle.pddl_types.specs.declared.pairs.Sort.{Sort}
use Rattle.pddl_types.specs.declared.pairs.Sort.TheVariants.{Predicate, Function}
use Rattle.pddl_types.specs.Pairs.{visible}

-- the section of the functions stands before that of the predicates
abbrev pub functions_first : List Sig → List Sig → Bool
functions_first [] fs = false
functions_first (p ∷ ps) [] = false
functions_first (p ∷ ps) (f ∷ fs) = nat_lt f.name.at p.name.at

abbrev pub first_sig : List ℕ → List Sig → Option Sig
first_sig text sigs = find (λ s. bytes_eq text s.name.text) sigs

-- a predicate has its name where no function with this name is declared before it, and the reverse
abbrev pub sig_of : Domain → Sort → List ℕ → Option Sig
sig_of d Predicate text = if functions_first d.predicates d.functions && is_some (first_sig text d.functions) then None else first_sig text d.predicates
sig_of d Function text = if not (functions_first d.predicates d.functions) && is_some (first_sig text d.predicates) then None else first_sig text d.functions

-- what an argument names, where variables are of these parameters
abbrev pub named_by : Pair → Side → List Typed → Arg → Option Typed
named_by p side params (Var n) = first_typed n.text params
named_by p side params (Obj n) = first_typed n.text (visible p side)
