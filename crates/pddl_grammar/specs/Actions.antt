-- Actions, as trees spell them.
use Rattle.std.specs.Prelude.{ℕ, ◌≡◌, ◌≤◌, List, [], ◌∷◌, Option, Some, None, map, length, codes, bytes_eq, IsTrue, if◌then◌else◌}
use Rattle.std.specs.List.{list_all}
use Rattle.sexp_text.specs.declared.trees.Tree.{Tree}
use Rattle.pddl_terms.specs.declared.names.Typed.{Typed}
use Rattle.pddl_terms.specs.declared.conditions.Cond.{Cond}
use Rattle.pddl_terms.specs.declared.conditions.Cond.TheVariants as condition
use Rattle.pddl_terms.specs.declared.actions.Effect.{Effect}
use Rattle.pddl_terms.specs.declared.actions.Schema.{Schema}
use Rattle.pddl_terms.specs.declared.limits.TheConstants.{MAX_EFFECTS, MAX_PARAMETERS}
use Rattle.pddl_trees.specs.Words.{is_among, is_variable}
use Rattle.pddl_grammar.specs.Trees.{Begins, IsListAt, IsWordAt}
use Rattle.pddl_grammar.specs.Lists.{SpellsTyped}
use Rattle.pddl_grammar.specs.Conditions.{SpellsCond}
use Rattle.pddl_grammar.specs.Effects.{SpellsEffects}
use Rattle.pddl_grammar.specs.Sections.{is_distinct}
use Rattle.pddl_grammar.specs.Atoms.{SpellsName}

-- keywords and bodies in turn
pub data Alternates (text : List ℕ) : List Tree → List (List ℕ × Tree) → Type 0 where
  none : Alternates text [] []
  next : (k b : Tree) (at : ℕ) (w : List ℕ) (ts : List Tree) (ps : List (List ℕ × Tree))
      → IsWordAt text k at w → Alternates text ts ps → Alternates text (k ∷ b ∷ ts) ((w, b) ∷ ps)

abbrev pub body_of : List ℕ → List (List ℕ × Tree) → Option Tree
body_of word [] = None
body_of word (p ∷ ps) = if bytes_eq p.0 word then Some p.1 else body_of word ps

abbrev pub clause_words : List (List ℕ)
clause_words = codes ":parameters" ∷ codes ":precondition" ∷ codes ":effect" ∷ []

pub record IsParameterList (text : List ℕ) (t : Tree) (params : List Typed) : Type 0 where
  pub at : ℕ
  pub parts : List Tree
  pub list : IsListAt t at parts
  pub typed : SpellsTyped text is_variable parts params
  pub few : length params ≤ MAX_PARAMETERS

abbrev pub SpellsParameters : List ℕ → Option Tree → List Typed → Type 0
SpellsParameters text None params = params ≡ []
SpellsParameters text (Some t) params = IsParameterList text t params

abbrev pub SpellsPrecondition : List ℕ → Option Tree → Cond → Type 0
SpellsPrecondition text None c = c ≡ condition.And []
SpellsPrecondition text (Some t) c = SpellsCond text t c

abbrev pub SpellsEffectList : List ℕ → Option Tree → List Effect → Type 0
SpellsEffectList text None es = es ≡ []
SpellsEffectList text (Some t) es = SpellsEffects text t es

-- (:action NAME keyword body ..): each keyword at most once, in any order
pub record SpellsSchema (text : List ℕ) (t : Tree) (s : Schema) : Type 0 where
  pub at : ℕ
  pub named : Tree
  pub clauses : List Tree
  pub list : Begins text t at (codes ":action") (named ∷ clauses)
  pub name : SpellsName text named s.name
  pub pairs : List (List ℕ × Tree)
  pub alternate : Alternates text clauses pairs
  pub keywords : IsTrue (list_all (λ p. is_among p.0 clause_words) pairs)
  pub once : IsTrue (is_distinct (map (λ p. p.0) pairs))
  pub params : SpellsParameters text (body_of (codes ":parameters") pairs) s.params
  pub pre : SpellsPrecondition text (body_of (codes ":precondition") pairs) s.pre
  pub effects : SpellsEffectList text (body_of (codes ":effect") pairs) s.effects
  pub few : length s.effects ≤ MAX_EFFECTS

-- the sections that are actions, in order
pub data HasActions (text : List ℕ) : List Tree → List Schema → Type 0 where
  none : HasActions text [] []
  action : (t : Tree) (ts : List Tree) (s : Schema) (ss : List Schema) → SpellsSchema text t s → HasActions text ts ss → HasActions text (t ∷ ts) (s ∷ ss)
  other : (t : Tree) (ts : List Tree) (ss : List Schema) → ((at : ℕ) (parts : List Tree) → Begins text t at (codes ":action") parts → ⊥)
      → HasActions text ts ss → HasActions text (t ∷ ts) ss
