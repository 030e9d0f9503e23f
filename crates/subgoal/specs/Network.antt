-- For contracts inside this crate alone: the distinct atoms of a task's conditions, and values that are read in the order in which the atoms stand.
use Rattle.std.specs.Prelude.{ℕ, ◌≡◌, ◌<◌, ◌++◌, List, [], ◌∷◌, Option, Some, None, All, drop, length, map, slice_get, slice_index_or}
use Rattle.std.specs.List.{flat_map}
use Rattle.ground_task.specs.declared.raw.GCond.{GCond, GCond-F, fold-GCond, out-GCond}
use Rattle.ground_task.specs.declared.raw.GCond.TheOpen as cond
use Rattle.ground_task.specs.declared.raw.GCond.TheVariants as condition
use Rattle.ground_task.specs.declared.raw.Ground.{Ground}
use Rattle.ground_task.specs.Inside.{IsDecidable}
use Rattle.ground_task.specs.Tasks.{TaskValue}
use Rattle.subgoal.specs.declared.leaves.Leaf.{Leaf}
use Rattle.subgoal.specs.declared.network.Atom.{Atom}
use Rattle.subgoal.specs.declared.network.Network.{Network}
use Rattle.subgoal.specs.declared.network.Rules.{Rules}
use Rattle.subgoal.specs.Equations.{Atoms, condition_value, values_by}
use Rattle.subgoal.specs.Leaves.{comparison_leaf, literal_leaf}
use Rattle.subgoal.specs.Unmet.{at}

abbrev pub atoms_layer : GCond-F (List GCond) → List GCond
atoms_layer cond.True = []
atoms_layer cond.False = []
atoms_layer (cond.Fact f truth) = condition.Fact f truth ∷ []
atoms_layer (cond.Cmp r left right) = condition.Cmp r left right ∷ []
atoms_layer (cond.And parts) = flat_map (λ part. part) parts
atoms_layer (cond.Or parts) = flat_map (λ part. part) parts

-- the literals and comparisons of a condition, in the order in which they stand
unfoldable pub atoms_of : GCond → List GCond
atoms_of = fold-GCond (List GCond) atoms_layer

-- those of several conditions, one after another
abbrev pub atoms_of_each : List GCond → List GCond
atoms_of_each = flat_map atoms_of

-- those of each action's precondition
abbrev pub preconditions_of : TaskValue → List GCond
preconditions_of t = flat_map (λ a. atoms_of a.pre) t.raw.actions

-- those of the goal, and then those of each action's precondition
abbrev pub atoms_of_task : TaskValue → List GCond
atoms_of_task t = atoms_of t.raw.goal ++ preconditions_of t

abbrev pub leaf_layer : List Ground → GCond-F GCond → Option Leaf
leaf_layer actions cond.True = None
leaf_layer actions cond.False = None
leaf_layer actions (cond.Fact f truth) = Some (literal_leaf actions f truth)
leaf_layer actions (cond.Cmp r left right) = Some (comparison_leaf actions r left right)
leaf_layer actions (cond.And parts) = None
leaf_layer actions (cond.Or parts) = None

-- what is known of a literal or comparison
abbrev pub leaf_of : List Ground → GCond → Option Leaf
leaf_of actions c = leaf_layer actions (out-GCond c)

pub record IsAtom (t : TaskValue) (atom : Atom) : Type 0 where
  pub known : leaf_of t.raw.actions atom.cond.now ≡ Some atom.leaf
  pub decidable : IsDecidable t atom.cond.now

abbrev pub conditions_of : List Atom → List GCond
conditions_of atoms = map (λ a. a.cond.now) atoms

-- the numbers are those of these conditions
pub record IsNetwork (t : TaskValue) (network : Network) (conds : List GCond) : Type 0 where
  pub are_atoms : All (IsAtom t) network.atoms.items
  pub named : map (slice_get (conditions_of network.atoms.items)) network.numbers.items ≡ map Some conds

-- numbers of more conditions are added
abbrev pub Adds : TaskValue → Network → Network → List GCond → Type 0
Adds t old new conds = (before : List GCond) → IsNetwork t old before → IsNetwork t new (before ++ conds)

-- ---- values in the order of the atoms

-- those of the atoms of these numbers
abbrev pub picked : List ℕ → List ℕ → List ℕ
picked weights numbers = map (λ k. slice_index_or weights k 0) numbers

-- the values of a condition's atoms
abbrev pub weights_of : Atoms → List Ground → List ℕ → GCond → List ℕ
weights_of atoms actions v c = map (condition_value atoms actions v) (atoms_of c)

-- the value of each atom
abbrev pub weights_by : Atoms → List Ground → List ℕ → List Atom → List ℕ
weights_by atoms actions v those = map (λ a. condition_value atoms actions v a.cond.now) those

-- an atom whose last value is 0 has that value
abbrev pub AreZeros : Atoms → List Ground → List ℕ → List Atom → List ℕ → Type 0
AreZeros atoms actions v those last = (k : ℕ) → k < length those → at last k ≡ 0 → at (weights_by atoms actions v those) k ≡ 0

-- read from a place on, values that begin with those of a condition's atoms give its value, and the place behind them
abbrev pub Evaluates : List ℕ → ℕ → GCond → ℕ × ℕ → Type 0
Evaluates weights at c found =
    (atoms : Atoms) (actions : List Ground) (v rest : List ℕ) → drop at weights ≡ weights_of atoms actions v c ++ rest
    → (found.0 ≡ condition_value atoms actions v c) × (drop found.1 weights ≡ rest)

-- likewise those of several conditions, with a value made of theirs
abbrev pub EvaluatesEach : List ℕ → ℕ → List GCond → (List ℕ → ℕ) → ℕ × ℕ → Type 0
EvaluatesEach weights at cs joined found =
    (atoms : Atoms) (actions : List Ground) (v rest : List ℕ) → drop at weights ≡ flat_map (weights_of atoms actions v) cs ++ rest
    → (found.0 ≡ joined (map (condition_value atoms actions v) cs)) × (drop found.1 weights ≡ rest)

-- and a single one
abbrev pub EvaluatesOne : List ℕ → ℕ → ℕ × ℕ → Type 0
EvaluatesOne weights at found =
    (value : ℕ) (rest : List ℕ) → drop at weights ≡ value ∷ rest → (found.0 ≡ value) × (drop found.1 weights ≡ rest)

-- and those of the preconditions of actions give a value for each of these
abbrev pub Revalues : List ℕ → ℕ → List Ground → List ℕ → Type 0
Revalues weights at those values =
    (atoms : Atoms) (actions : List Ground) (v rest : List ℕ) → drop at weights ≡ flat_map (λ a. weights_of atoms actions v a.pre) those ++ rest
    → values ≡ values_by atoms actions v those

-- the numbers of a task's atoms, of which those of the goal come first
pub record AreRules (rules : Rules) : Type 0 where
  pub are_network : IsNetwork rules.task.now rules.network.now (atoms_of_task rules.task.now)
  pub goal : rules.behind ≡ length (atoms_of rules.task.now.raw.goal)
