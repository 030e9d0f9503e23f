-- Conditions, as trees spell them.
use Rattle.std.specs.Prelude.{ℕ, ◌≡◌, ◌≤◌, true, not, List, [], ◌∷◌, Some, codes}
use Rattle.sexp_text.specs.declared.trees.Tree.{Tree}
use Rattle.pddl_terms.specs.declared.names.Arg.{Arg}
use Rattle.pddl_terms.specs.declared.names.Atom.{Atom}
use Rattle.pddl_terms.specs.declared.expressions.Expr.{Expr}
use Rattle.pddl_terms.specs.declared.conditions.Rel.{Rel}
use Rattle.pddl_terms.specs.declared.conditions.Cond.{Cond}
use Rattle.pddl_terms.specs.declared.conditions.Cond.TheVariants as condition
use Rattle.pddl_terms.specs.Heights.{condition_height}
use Rattle.pddl_terms.specs.declared.limits.TheConstants.{MAX_HEIGHT}
use Rattle.pddl_trees.specs.Words.{relation_of}
use Rattle.pddl_grammar.specs.Atoms.{SpellsArg, SpellsAtom}
use Rattle.pddl_grammar.specs.Trees.{Begins, IsListAt}
use Rattle.pddl_grammar.specs.Expressions.{SpellsExpr}

mutual
  pub data SpellsCond (text : List ℕ) : Tree → Cond → Type 0 where
    nothing : (t : Tree) (at : ℕ) → IsListAt t at [] → SpellsCond text t (condition.And [])
    conjunction : (t : Tree) (at : ℕ) (ts : List Tree) (cs : List Cond)
        → Begins text t at (codes "and") ts → SpellsConds text ts cs → condition_height (condition.And cs) ≤ MAX_HEIGHT
        → SpellsCond text t (condition.And cs)
    disjunction : (t : Tree) (at : ℕ) (ts : List Tree) (cs : List Cond)
        → Begins text t at (codes "or") ts → SpellsConds text ts cs → condition_height (condition.Or cs) ≤ MAX_HEIGHT
        → SpellsCond text t (condition.Or cs)
    negation : (t : Tree) (at : ℕ) (u : Tree) (c : Cond)
        → Begins text t at (codes "not") (u ∷ []) → SpellsCond text u c → condition_height (condition.Not c) ≤ MAX_HEIGHT
        → SpellsCond text t (condition.Not c)
    implication : (t : Tree) (at : ℕ) (u v : Tree) (b c : Cond)
        → Begins text t at (codes "imply") (u ∷ v ∷ []) → SpellsCond text u b → SpellsCond text v c → condition_height (condition.Imply b c) ≤ MAX_HEIGHT
        → SpellsCond text t (condition.Imply b c)
    equality : (t : Tree) (at : ℕ) (u v : Tree) (a b : Arg)
        → Begins text t at (codes "=") (u ∷ v ∷ []) → SpellsArg text true u a → SpellsArg text true v b
        → SpellsCond text t (condition.Same a b)
    comparison : (t : Tree) (at : ℕ) (w : List ℕ) (r : Rel) (u v : Tree) (e f : Expr)
        → Begins text t at w (u ∷ v ∷ []) → relation_of w ≡ Some r → SpellsExpr text u e → SpellsExpr text v f
        → condition_height (condition.Cmp r e f) ≤ MAX_HEIGHT → SpellsCond text t (condition.Cmp r e f)
    fact : (t : Tree) (a : Atom) → SpellsAtom text true t a → SpellsCond text t (condition.Fact a)

  pub data SpellsConds (text : List ℕ) : List Tree → List Cond → Type 0 where
    none : SpellsConds text [] []
    next : (t : Tree) (ts : List Tree) (c : Cond) (cs : List Cond) → SpellsCond text t c → SpellsConds text ts cs → SpellsConds text (t ∷ ts) (c ∷ cs)
