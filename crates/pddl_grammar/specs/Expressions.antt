-- Expressions, as trees spell them.
use Rattle.std.specs.Prelude.{ℕ, ◌≡◌, ◌≤◌, ◌++◌, Bool, true, false, List, [], ◌∷◌, Some, IsTrue}
use Rattle.num_ends.specs.Decimal.{Decimal, origin}
use Rattle.sexp_text.specs.declared.trees.Tree.{Tree}
use Rattle.pddl_terms.specs.declared.names.Atom.{Atom}
use Rattle.pddl_terms.specs.declared.expressions.Op.{Op}
use Rattle.pddl_terms.specs.declared.expressions.Op.TheVariants as op
use Rattle.pddl_terms.specs.declared.expressions.Expr.{Expr}
use Rattle.pddl_terms.specs.declared.expressions.Expr.TheVariants as expr
use Rattle.pddl_terms.specs.Heights.{expression_height}
use Rattle.pddl_terms.specs.declared.limits.TheConstants.{MAX_HEIGHT}
use Rattle.pddl_trees.specs.Words.{is_number_word, number_in, operation_of}
use Rattle.pddl_grammar.specs.Trees.{Begins, IsWordAt}
use Rattle.pddl_grammar.specs.Atoms.{SpellsAtom}

-- operations that take more than two operands
abbrev pub is_joining : Op → Bool
is_joining op.Add = true
is_joining op.Sub = false
is_joining op.Mul = true
is_joining op.Div = false

-- an operation at a position on operands: two, or more that are grouped from the left, or one that is taken from 0
pub data Groups (at : ℕ) : Op → List Expr → Expr → Type 0 where
  negative : (x : Expr) → Groups at op.Sub (x ∷ []) (expr.Op at op.Sub (expr.Lit origin at) x)
  pair : (o : Op) (x y : Expr) → Groups at o (x ∷ y ∷ []) (expr.Op at o x y)
  more : (o : Op) (x y z : Expr) (xs : List Expr) (e : Expr) → IsTrue (is_joining o) → Groups at o (x ∷ y ∷ xs) e
      → Groups at o (x ∷ y ∷ xs ++ z ∷ []) (expr.Op at o e z)

mutual
  pub data SpellsExpr (text : List ℕ) : Tree → Expr → Type 0 where
    number : (t : Tree) (at : ℕ) (w : List ℕ) (d : Decimal) → IsWordAt text t at w → IsTrue (is_number_word w) → number_in w ≡ Some d
        → SpellsExpr text t (expr.Lit d at)
    read : (t : Tree) (a : Atom) → SpellsAtom text true t a → SpellsExpr text t (expr.Read a)
    operation : (t : Tree) (at : ℕ) (w : List ℕ) (o : Op) (ts : List Tree) (es : List Expr) (e : Expr)
        → Begins text t at w ts → operation_of w ≡ Some o → SpellsExprs text ts es → Groups at o es e → expression_height e ≤ MAX_HEIGHT
        → SpellsExpr text t e

  pub data SpellsExprs (text : List ℕ) : List Tree → List Expr → Type 0 where
    none : SpellsExprs text [] []
    next : (t : Tree) (ts : List Tree) (e : Expr) (es : List Expr) → SpellsExpr text t e → SpellsExprs text ts es → SpellsExprs text (t ∷ ts) (e ∷ es)
