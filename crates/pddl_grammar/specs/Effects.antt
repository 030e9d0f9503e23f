-- Effects, as trees spell them.
use Rattle.std.specs.Prelude.{ℕ, ◌≡◌, ◌++◌, true, not, List, [], ◌∷◌, Some, codes}
use Rattle.sexp_text.specs.declared.trees.Tree.{Tree}
use Rattle.pddl_terms.specs.declared.names.Atom.{Atom}
use Rattle.pddl_terms.specs.declared.expressions.Expr.{Expr}
use Rattle.pddl_terms.specs.declared.actions.Assign.{Assign}
use Rattle.pddl_terms.specs.declared.actions.Effect.{Effect}
use Rattle.pddl_terms.specs.declared.actions.Effect.TheVariants as effect
use Rattle.pddl_trees.specs.Words.{change_of}
use Rattle.pddl_grammar.specs.Trees.{Begins, IsListAt}
use Rattle.pddl_grammar.specs.Expressions.{SpellsExpr}
use Rattle.pddl_grammar.specs.Atoms.{SpellsAtom}

mutual
  pub data SpellsEffects (text : List ℕ) : Tree → List Effect → Type 0 where
    nothing : (t : Tree) (at : ℕ) → IsListAt t at [] → SpellsEffects text t []
    conjunction : (t : Tree) (at : ℕ) (ts : List Tree) (es : List Effect)
        → Begins text t at (codes "and") ts → SpellsEffectsOfAll text ts es → SpellsEffects text t es
    addition : (t : Tree) (a : Atom) → SpellsAtom text true t a → SpellsEffects text t (effect.Add a ∷ [])
    deletion : (t : Tree) (at : ℕ) (u : Tree) (a : Atom)
        → Begins text t at (codes "not") (u ∷ []) → SpellsAtom text true u a → SpellsEffects text t (effect.Del a ∷ [])
    change : (t : Tree) (at : ℕ) (w : List ℕ) (how : Assign) (u v : Tree) (a : Atom) (e : Expr)
        → Begins text t at w (u ∷ v ∷ []) → change_of w ≡ Some how → SpellsAtom text true u a → SpellsExpr text v e
        → SpellsEffects text t (effect.Num how a e ∷ [])

  pub data SpellsEffectsOfAll (text : List ℕ) : List Tree → List Effect → Type 0 where
    none : SpellsEffectsOfAll text [] []
    next : (t : Tree) (ts : List Tree) (es fs : List Effect) → SpellsEffects text t es → SpellsEffectsOfAll text ts fs
        → SpellsEffectsOfAll text (t ∷ ts) (es ++ fs)
