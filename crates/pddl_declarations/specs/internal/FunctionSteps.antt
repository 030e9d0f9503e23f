-- A list of functions while it is read.
use Rattle.std.specs.Prelude.{ℕ, ◌≡◌, List, [], ◌∷◌, Option, None}
use Rattle.sexp_text.specs.declared.trees.Tree.{Tree}
use Rattle.pddl_terms.specs.declared.names.Sig.{Sig}
use Rattle.pddl_declarations.specs.declared.functions.Functions.{Functions}
use Rattle.pddl_trees.specs.declared.faults.Fault.{Fault}
use Rattle.pddl_trees.specs.Faults.{all_noted}
use Rattle.pddl_trees.specs.TypedLists.{Listed, after}
use Rattle.pddl_trees.specs.Declarations.{functions_from}

-- what is declared so far, and what the rest of the list at a position adds
abbrev pub functions_with : Functions → List ℕ → ℕ → List Tree → Listed Sig
functions_with f text at ts = after f.sigs.items [] (functions_from text at f.dashed f.signed ts)

-- a tree was taken: what is declared and noted behind it, with the rest of any list, is what was declared and noted before it,
-- with the tree and that rest; where a fault was noted nothing is said of what is declared
pub record IsFunctionTaken (text : List ℕ) (t : Tree) (before : Functions) (first : Option Fault) (behind : Functions) (first_behind : Option Fault) : Type 0 where
  pub faults : (at : ℕ) (ts : List Tree) → all_noted first_behind (functions_with behind text at ts).faults ≡ all_noted first (functions_with before text at (t ∷ ts)).faults
  pub items : first_behind ≡ None → (at : ℕ) (ts : List Tree) → (functions_with behind text at ts).items ≡ (functions_with before text at (t ∷ ts)).items
  pub quiet : first_behind ≡ None → first ≡ None
