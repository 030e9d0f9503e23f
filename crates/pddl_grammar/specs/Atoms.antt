-- Names, arguments and atoms, as trees spell them.
use Rattle.std.specs.Prelude.{ℕ, Bool, List, ◌∷◌, IsTrue}
use Rattle.num_ends.specs.Names.{is_name}
use Rattle.sexp_text.specs.declared.trees.Tree.{Tree}
use Rattle.pddl_terms.specs.declared.names.Name.{Name}
use Rattle.pddl_terms.specs.declared.names.Arg.{Arg}
use Rattle.pddl_terms.specs.declared.names.Arg.TheVariants.{Var, Obj}
use Rattle.pddl_terms.specs.declared.names.Atom.{Atom}
use Rattle.pddl_trees.specs.Words.{is_symbol, is_variable}
use Rattle.pddl_grammar.specs.Trees.{Each, IsListAt, IsWordAt}

pub record SpellsName (text : List ℕ) (t : Tree) (name : Name) : Type 0 where
  pub word : IsWordAt text t name.at name.text
  pub a_name : IsTrue (is_name name.text)

pub record SpellsVariable (text : List ℕ) (t : Tree) (name : Name) : Type 0 where
  pub word : IsWordAt text t name.at name.text
  pub a_variable : IsTrue (is_variable name.text)

-- a name that isn't reserved
pub record SpellsSymbol (text : List ℕ) (t : Tree) (name : Name) : Type 0 where
  pub word : IsWordAt text t name.at name.text
  pub a_symbol : IsTrue (is_symbol name.text)

-- an argument, where variables may stand or not
abbrev pub SpellsArg : List ℕ → Bool → Tree → Arg → Type 0
SpellsArg text variables t (Var name) = IsTrue variables × SpellsVariable text t name
SpellsArg text variables t (Obj name) = SpellsName text t name

-- (NAME argument ..)
pub record SpellsAtom (text : List ℕ) (variables : Bool) (t : Tree) (a : Atom) : Type 0 where
  pub at : ℕ
  pub symbol : Tree
  pub arguments : List Tree
  pub list : IsListAt t at (symbol ∷ arguments)
  pub head : SpellsSymbol text symbol a.head
  pub args : Each (SpellsArg text variables) arguments a.args
