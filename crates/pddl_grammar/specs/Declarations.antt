-- Declarations of types, predicates and functions, as trees spell them, and keys.
use Rattle.std.specs.Prelude.{ℕ, ◌≡◌, ◌≤◌, ◌++◌, Bool, not, List, [], ◌∷◌, length, codes, bytes_eq, IsTrue}
use Rattle.std.specs.List.{list_all}
use Rattle.num_ends.specs.Names.{is_name}
use Rattle.sexp_text.specs.declared.trees.Tree.{Tree}
use Rattle.pddl_terms.specs.declared.names.Typed.{Typed}
use Rattle.pddl_terms.specs.declared.names.Sig.{Sig}
use Rattle.pddl_terms.specs.declared.limits.TheConstants.{MAX_PARAMETERS}
use Rattle.pddl_trees.specs.Words.{is_among, is_variable}
use Rattle.pddl_trees.specs.Declarations.{implied_types, names_of, known_keys}
use Rattle.pddl_grammar.specs.Atoms.{SpellsSymbol}
use Rattle.pddl_grammar.specs.Trees.{IsListAt, IsWordAt}
use Rattle.pddl_grammar.specs.Lists.{SpellsTyped}

-- (NAME variable ..)
pub record SpellsSig (text : List ℕ) (t : Tree) (s : Sig) : Type 0 where
  pub at : ℕ
  pub symbol : Tree
  pub variables : List Tree
  pub list : IsListAt t at (symbol ∷ variables)
  pub name : SpellsSymbol text symbol s.name
  pub params : SpellsTyped text is_variable variables s.params
  pub few : length s.params ≤ MAX_PARAMETERS

-- signatures, each perhaps with `- number` behind it
pub data SpellsFunctions (text : List ℕ) : List Tree → List Sig → Type 0 where
  none : SpellsFunctions text [] []
  plain : (t : Tree) (ts : List Tree) (s : Sig) (ss : List Sig) → SpellsSig text t s → SpellsFunctions text ts ss → SpellsFunctions text (t ∷ ts) (s ∷ ss)
  numeric : (t dash k : Tree) (at kind_at : ℕ) (ts : List Tree) (s : Sig) (ss : List Sig)
      → SpellsSig text t s → IsWordAt text dash at (codes "-") → IsWordAt text k kind_at (codes "number") → SpellsFunctions text ts ss
      → SpellsFunctions text (t ∷ dash ∷ k ∷ ts) (s ∷ ss)

-- neither a declared type nor one that stands only behind `-` is `number`
abbrev pub is_without_number : List Typed → Bool
is_without_number items = list_all (λ t. not (bytes_eq t.name.text (codes "number"))) items

-- the declared types, and behind them those that stand only as types of others, as children of `object`
pub record SpellsTypes (text : List ℕ) (ts : List Tree) (types : List Typed) : Type 0 where
  pub declared : List Typed
  pub list : SpellsTyped text is_name ts declared
  pub types_are : types ≡ declared ++ implied_types (names_of declared) declared
  pub no_number : IsTrue (is_without_number types)

-- a word that announces a part of the language
pub record IsKeyAt (text : List ℕ) (t : Tree) : Type 0 where
  pub at : ℕ
  pub word : List ℕ
  pub leaf : IsWordAt text t at word
  pub known : IsTrue (is_among word known_keys)
