-- What a tree may say: a value, where it has the form, and its faults.
use Rattle.std.specs.Prelude.{ℕ, List, [], ◌∷◌, Option, Some, None, map, take, drop, length, nat_lt, option_map, if◌then◌else◌}
use Rattle.pddl_terms.specs.declared.names.Atom.{Atom}
use Rattle.pddl_terms.specs.declared.expressions.Expr.{Expr}
use Rattle.pddl_terms.specs.declared.conditions.Cond.{Cond}
use Rattle.pddl_terms.specs.declared.actions.Effect.{Effect}
use Rattle.pddl_trees.specs.declared.faults.Reason.TheVariants.{Shape}
use Rattle.pddl_trees.specs.declared.faults.Fault.{Fault}
use Rattle.pddl_trees.specs.Faults.{fault_at}

-- what a tree says, where it has the form, and its faults
pub record Parsed (A : Type 0) : Type 0 where
  pub value : Option A
  pub faults : List Fault

-- the single effects of a tree in order, each with its position, and the tree's faults
pub record Effects : Type 0 where
  pub found : List (ℕ × Option Effect)
  pub faults : List Fault

-- a tree by what it may say: a leaf has a word, and a list may begin with one
pub record Form : Type 0 where
  pub at : ℕ
  pub word : Option (List ℕ)
  pub head : Option (List ℕ)
  pub atom : Parsed Atom
  pub expr : Parsed Expr
  pub cond : Parsed Cond
  pub effects : Effects

abbrev pub shape_at : ℕ → Fault
shape_at at = fault_at at Shape

abbrev pub misfit : (A : Type 0) → ℕ → Parsed A
misfit A at = record { value = None; faults = shape_at at ∷ [] }

abbrev pub sound : (A : Type 0) → A → Parsed A
sound A x = record { value = Some x; faults = [] }

-- a list at a position that has too few parts
abbrev pub missing : ℕ → ℕ → List Form → List Fault
missing at count ts = if nat_lt (length ts) count then shape_at at ∷ [] else []

-- the first part past a count
abbrev pub extra : ℕ → List Form → List Fault
extra count ts = map (λ t. shape_at t.at) (take 1 (drop count ts))

-- all of them, where each is there
abbrev pub all_of : {A : Type 0} → List (Option A) → Option (List A)
all_of [] = Some []
all_of (None ∷ xs) = None
all_of (Some x ∷ xs) = option_map (λ ys. x ∷ ys) (all_of xs)

abbrev pub both : {A B C : Type 0} → (A → B → C) → Option A → Option B → Option C
both f None b = None
both f (Some x) b = option_map (f x) b

-- what the first of these says, where there is one
abbrev pub first_of : {A : Type 0} → (Form → Option A) → List Form → Option A
first_of value_of [] = None
first_of value_of (t ∷ ts) = value_of t
